-- The limits of a small caller.
use Rattle.vfs_grammar.specs.declared.limits.Limits.{Limits}

-- a server whose largest payload is one page
abbrev pub one_page : Limits
one_page = record { page_size = 4096; max_buffer = 4096 }
