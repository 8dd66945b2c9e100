-- A descriptor of a split ring as bytes: virtio 1.2, section 2.7.5.
use Rattle.std.specs.Prelude.{ℕ, Bool, List, drop, ◌+◌, ◌/◌, ◌%◌, ◌^◌, ◌==◌, not, bit_and}
use Rattle.vfs_wire.specs.Fields.{number}
use Rattle.vhost_protocol.specs.declared.chains.descriptor.Descriptor.{Descriptor}
use Rattle.vhost_protocol.specs.declared.chains.descriptor.flag.TheConstants as flag

-- the descriptor of the 16 bytes from place `at` on: `addr`, `len`, `flags`, `next`, each little endian
abbrev pub descriptor_from : (at : ℕ) → (bytes : List ℕ) → Descriptor
descriptor_from at bytes = record {
  addr = number 8 (drop at bytes);
  len = number 4 (drop (at + 8) bytes);
  flags = number 2 (drop (at + 12) bytes);
  next = number 2 (drop (at + 14) bytes);
}

-- The descriptor of two words: of the first 8 bytes, and of the others, each little endian. That it is the one
-- of the bytes is a law (`words_are_bytes`).
abbrev pub of_words : (first second : ℕ) → Descriptor
of_words first second = record {
  addr = first;
  len = second % 2 ^ 32;
  flags = second / 2 ^ 32 % 2 ^ 16;
  next = second / 2 ^ 48;
}

-- whether another one follows
abbrev pub goes_on : Descriptor → Bool
goes_on d = not (bit_and d.flags flag.NEXT == 0)

-- whether the device may write there
abbrev pub is_writable : Descriptor → Bool
is_writable d = not (bit_and d.flags flag.WRITE == 0)

-- whether it tells of a table of descriptors
abbrev pub is_table : Descriptor → Bool
is_table d = not (bit_and d.flags flag.INDIRECT == 0)
