-- The sizes that a server goes by, and what follows of them, for contracts of parts and for proofs. Of the promise only
-- `AreLimits` is to be read.
use Rattle.std.specs.Prelude.{◌≤◌, ◌+◌, ◌-◌, ◌/◌, ℕ}
use Rattle.vfs_flags.specs.declared.constants.TheConstants.{LEAST_MAX_BUFFER, GREATEST_MAX_BUFFER, DEFAULT_MAX_BUFFER}
use Rattle.vfs_grammar.specs.declared.limits.Limits.{Limits}

-- the largest `len` of a request: the largest payload, and the 4096 bytes that may come before it
abbrev pub max_len : Limits → ℕ
max_len limits = limits.max_buffer + 4096

-- how many pages the largest payload takes
abbrev pub max_pages : Limits → ℕ
max_pages limits = (limits.max_buffer - 1) / limits.page_size + 1

-- what a server may be made for: pages of at least 4 KiB, and payloads of 4 KiB to 128 MiB
pub record AreLimits (limits : Limits) : Type 0 where
  pub page : 4096 ≤ limits.page_size
  pub least : LEAST_MAX_BUFFER ≤ limits.max_buffer
  pub greatest : limits.max_buffer ≤ GREATEST_MAX_BUFFER

-- the limits of a server of which nothing is said but the size of a page
abbrev pub default_limits : (page_size : ℕ) → Limits
default_limits page_size = record { page_size = page_size; max_buffer = DEFAULT_MAX_BUFFER }
