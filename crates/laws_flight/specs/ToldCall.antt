-- What is told determines the call, and is what the table says. Of the promise only `TableIsCall` is to be read.
use Rattle.std.specs.Prelude.{◌≡◌, ◌↔◌, ℕ, List}
use Rattle.vfs_files.specs.Calls.{Call}
use Rattle.vfs_grammar.specs.Reply.{Echo}
use Rattle.codec_calls.specs.declared.call.CallData.{CallData}
use Rattle.codec_decode.specs.Asked.{IsTold}
use Rattle.laws_flight.specs.Table.{TellsByTable, of_request}

-- Two calls that the same data tell, over the bytes of one request, are one call: no two calls have the same
-- number, arguments, names and values.
abbrev pub ToldIsCall : Type 0
ToldIsCall =
    (request : List ℕ) (options room : ℕ) (one other : Echo) (a b : Call) (told : CallData)
    → IsTold request options room one a told → IsTold request options room other b told → a ≡ b

-- the data of a call are told so if and only if the row of the call says so
abbrev pub TableSays : Type 0
TableSays =
    (request : List ℕ) (echo : Echo) (call : Call) (told : CallData)
    → (IsTold request told.options told.room echo call told ↔ TellsByTable request told (of_request echo told) call)

-- no two calls have a row with the same data
abbrev pub TableIsCall : Type 0
TableIsCall =
    (request : List ℕ) (one other : Echo) (a b : Call) (told : CallData)
    → TellsByTable request told (of_request one told) a → TellsByTable request told (of_request other told) b → a ≡ b
