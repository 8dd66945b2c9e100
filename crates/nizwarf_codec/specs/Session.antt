-- What is agreed on with a client, as C hands it in.
use Rattle.std.specs.Prelude.{ℕ, bit_and}
use Rattle.vfs_flags.specs.Flags.{known_fs_options}
use Rattle.vfs_grammar.specs.declared.limits.Limits.{Limits}
use Rattle.nizwarf_codec.specs.declared.data.SessionData.{SessionData}

-- the sizes that a session goes by
abbrev pub limits_of : SessionData → Limits
limits_of session = record { page_size = session.page_size; max_buffer = session.max_buffer }

-- its options: those bits that the protocol has
abbrev pub options_of : SessionData → ℕ
options_of session = bit_and session.options known_fs_options
