-- What the client and the server agree on at INIT, as sets of bits: `options_after`.
use Rattle.std.specs.Prelude.{◌≡◌, ℕ, ◌+◌, ◌*◌, ◌^◌, bit_and, bit_or}
use Rattle.std.specs.Int.{bit_at}
use Rattle.vfs_flags.specs.Flags.{known_fs_options, supported_fs_options}
use Rattle.vfs_files.specs.Calls.{Call, Init, Destroy, Answer, Options}

-- The options after a call with this answer: after an INIT that was answered those agreed on, which are
-- the offered ones that the file system wants or the server supports; none after DESTROY; and the old
-- ones after every other call, an INIT that failed too.
abbrev pub options_after : Call → Answer → (options : ℕ) → ℕ
options_after (Init offered) (Options want) options = bit_and offered (bit_or want supported_fs_options)
options_after Destroy answer options = 0
options_after _ answer options = options

-- ---- no more is of the promise: the rest is for proofs, and for contracts of parts

-- the options that the client offers: of its two words of flags, those bits that are known
abbrev pub options_offered : (flags flags2 : ℕ) → ℕ
options_offered flags flags2 = bit_and (flags2 * 2 ^ 32 + flags) known_fs_options

-- the options agreed on after an INIT that was answered
abbrev pub agreed : (offered want : ℕ) → ℕ
agreed offered want = bit_and offered (bit_or want supported_fs_options)

-- each option is one that was offered, and each one offered that the server supports is among them
pub record AreAgreed (offered options : ℕ) : Type 0 where
  pub offered_only : (k : ℕ) → bit_at options k ≡ 1 → bit_at offered k ≡ 1
  pub supported_too :
      (k : ℕ) → bit_at offered k ≡ 1 → bit_at supported_fs_options k ≡ 1 → bit_at options k ≡ 1
