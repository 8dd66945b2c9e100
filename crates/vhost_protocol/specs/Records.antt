-- The records of messages: where each field begins, and its width, in bytes, the lowest byte first.
use Rattle.std.specs.Prelude.{◌+◌, ℕ, List, drop}
use Rattle.vfs_wire.specs.Fields.{number}
use Rattle.vhost_protocol.specs.declared.messages.message.Rings.{Rings}
use Rattle.vhost_protocol.specs.declared.messages.records.Head.{Head}
use Rattle.vhost_protocol.specs.declared.messages.records.Log.{Log}
use Rattle.vhost_protocol.specs.declared.messages.records.Region.{Region}

-- the number of this width at this place
abbrev pub field : (width at : ℕ) → (bytes : List ℕ) → ℕ
field width at bytes = number width (drop at bytes)

-- a header: 12 bytes
abbrev pub head_in : (bytes : List ℕ) → Head
head_in bytes =
    record { request = field 4 0 bytes; flags = field 4 4 bytes; size = field 4 8 bytes }

-- the rings of a queue in `struct vhost_vring_addr`: 40 bytes, of which the queue and flags are the first 8
abbrev pub rings_in : (bytes : List ℕ) → Rings
rings_in bytes = record {
  descriptors = field 8 8 bytes;
  used = field 8 16 bytes;
  available = field 8 24 bytes;
  log = field 8 32 bytes;
}

-- a region of memory from this place on: 32 bytes
abbrev pub region_at : (at : ℕ) → (bytes : List ℕ) → Region
region_at at bytes = record {
  guest = field 8 at bytes;
  size = field 8 (at + 8) bytes;
  user = field 8 (at + 16) bytes;
  offset = field 8 (at + 24) bytes;
}

-- a log: 16 bytes
abbrev pub log_in : (bytes : List ℕ) → Log
log_in bytes = record { size = field 8 0 bytes; offset = field 8 8 bytes }
