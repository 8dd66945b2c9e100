-- Calls of optional operations that are answered in examples.
use Rattle.std.specs.Prelude.{◌≡◌, ◌+◌, ℕ, List, Ok}
use Rattle.vfs_wire_more.specs.Devices.{ioctl_out}
use Rattle.vfs_wire_more.specs.declared.devices.IoctlOut.{IoctlOut}
use Rattle.vfs_grammar.specs.Records.{record_of}
use Rattle.codec_calls.specs.Shapes.{nothing}
use Rattle.codec_calls.specs.declared.call.CallData.{CallData}
use Rattle.codec_calls.specs.declared.call.has.TheConstants as has
use Rattle.codec_calls.specs.declared.call.kind.TheConstants as kind
use Rattle.codec_calls.specs.declared.call.number.TheConstants as number
use Rattle.codec_encode.specs.declared.fitting.TheConstants.{IOCTL_RETRY}

-- the call of a GETLK of bytes 10 to 20 of node 1, open as 3, of the owner 4: a lock of flock, of type 1 (F_WRLCK) and
-- of the process 77
abbrev pub getlk_asked : (options room : ℕ) → CallData
getlk_asked options room = record nothing {
  unique = 9;
  options = options;
  room = room;
  node = 1;
  handle = 3;
  offset = 10;
  lock_owner = 4;
  other_offset = 20;
  call = number.GETLK;
  answer = kind.BYTES;
  has = has.OWNER + has.LK_FLOCK;
  flags = 1;
  more = 77;
}

-- the call of an IOCTL of node 1, open as 3, with the flag 16 (FUSE_IOCTL_DIR), the command 5 and the argument 6, with
-- eight bytes of input, and for at most 4 of output
abbrev pub ioctl_asked : (options room : ℕ) → CallData
ioctl_asked options room = record nothing {
  unique = 9;
  options = options;
  room = room;
  node = 1;
  handle = 3;
  offset = 6;
  length = 8;
  «data» = record { at = 72; len = 8 };
  call = number.IOCTL;
  answer = kind.BYTES;
  flags = 16;
  more = 5;
  size = 4;
}

-- a text says that an IOCTL is to be asked again, with that many places of input and of output
abbrev pub SaysAgain : (text : List ℕ) → (in_iovs out_iovs : ℕ) → Type 0
SaysAgain text in_iovs out_iovs =
    (out : IoctlOut) × (record_of ioctl_out text ≡ Ok out) × (out.flags ≡ IOCTL_RETRY)
    × (out.in_iovs ≡ in_iovs) × (out.out_iovs ≡ out_iovs)
