-- What further small callers of the library say.
use Rattle.std.specs.Prelude.{◌≡◌, ◌++◌, ℕ, List}
use Rattle.vfs_grammar.specs.Samples.{eight, header_9}
use Rattle.codec_calls.specs.declared.call.CallData.{CallData}

-- request 9: a header of an opcode that nobody knows, 99
abbrev pub request_of_99 : List ℕ
request_of_99 = header_9 40 99

-- request 9: an INTERRUPT of request 7
abbrev pub interrupt_of_7 : List ℕ
interrupt_of_7 = header_9 48 36 ++ eight 7

-- the data tell a call of this number, whose answer is of this kind, and which is no READ
pub record IsCallOf (number kind : ℕ) (call : CallData) : Type 0 where
  pub number_is : call.call ≡ number
  pub kind_is : call.answer ≡ kind
  pub no_size : call.size ≡ 0
