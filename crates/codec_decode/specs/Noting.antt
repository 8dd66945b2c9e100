-- What is told of a request that was handled over a file system that notes its call.
use Rattle.std.specs.Prelude.{◌≡◌, ◌⊎◌, Result, ℕ}
use Rattle.vfs_segments.specs.Written.{Written}
use Rattle.vfs_files.specs.Calls.{Readdir}
use Rattle.vfs_messages.specs.Rooms.{Replies}
use Rattle.vfs_grammar.specs.Forms.{Ask, Ends, Asks, Lists, WithMemory}
use Rattle.vfs_grammar.specs.Reply.{Refusal}
use Rattle.vfs_grammar.specs.declared.error.Error.{Error}
use Rattle.vfs_grammar.specs.declared.error.Error.TheVariants.{OutOfMemory}
use Rattle.codec_calls.specs.Shapes.{shape_of, nothing}
use Rattle.codec_calls.specs.declared.call.CallData.{CallData}
use Rattle.codec_decode.specs.declared.asked.Asked.{Asked}
use Rattle.codec_decode.specs.declared.asked.Asked.TheVariants as asked

-- A call was noted exactly where one is asked for, and that very call; and a request that ends without
-- one is finished: what comes back of it is in the writer. It is refused for want of memory only where
-- memory is wanted.
abbrev pub IsNoted : (wanted : Type 0) → Ask → (writer : Written) → Result ℕ Error
    → (writer_after : Written) → CallData → Type 0
IsNoted wanted (Ends reply) writer outcome writer_after call =
    (call ≡ nothing) × Replies reply writer outcome writer_after
IsNoted wanted (Asks echo asked) writer outcome writer_after call = call ≡ shape_of asked
IsNoted wanted (Lists echo l) writer outcome writer_after call =
    call ≡ shape_of (Readdir l.ctx l.parent l.handle l.size l.offset)
IsNoted wanted (WithMemory rest) writer outcome writer_after call =
    IsNoted wanted rest writer outcome writer_after call
    ⊎ (wanted × (call ≡ nothing) × Replies (Refusal OutOfMemory) writer outcome writer_after)

-- a call was noted, and is told with its places, or none was, and the request is finished
pub record NotedAndTold (wanted : Type 0) (a : Ask) (place : CallData → CallData) (writer : Written)
    (result : Asked) (writer_after : Written) (told : CallData) : Type 0 where
  pub noted : CallData
  pub outcome : Result ℕ Error
  pub is_noted : IsNoted wanted a writer outcome writer_after noted
  pub told_so : ((noted.call ≡ 0) × (result ≡ asked.Finished outcome 0) × (told ≡ noted))
      ⊎ ((noted.call ≡ 0 → ⊥) × (result ≡ asked.Call) × (told ≡ place noted))
