-- Which memory a slot has: for the answer to a call that is told, `HoldsAnswer`, and for what comes of a request,
-- `HoldsFor`.
use Rattle.std.specs.Prelude.{◌≡◌, ◌≤◌, ◌==◌, ◌⊎◌, if◌then◌else◌, ⊤, ℕ, ℤ, min, Option, Some, IsSome}
use Rattle.vfs_files.specs.Calls.{Kind, Data, kind_of}
use Rattle.vfs_grammar.specs.Forms.{Ask, Ends, Asks, Lists, WithMemory}
use Rattle.codec_calls.specs.Shapes.{nothing}
use Rattle.codec_calls.specs.declared.call.CallData.{CallData}
use Rattle.codec_calls.specs.declared.call.kind.TheConstants as kind
use Rattle.c_rooms.specs.Codes.{is_asked, no_memory}
use Rattle.nizwarf_codec.specs.Rooms.{HasRoomFor}
use Rattle.nizwarf_codec.specs.declared.memory.Part.{Part}
use Rattle.nizwarf_codec.specs.declared.memory.Memory.{Memory}

-- Of that many bytes of a reply, or of its room, those that are put: all, but of a READ the header's 16 at
-- most. After them the data are the caller's.
abbrev pub put_of : CallData → (len : ℕ) → ℕ
put_of call len = if call.answer == kind.DATA then min len 16 else len

-- the same, by the kind of answer that the call has
abbrev pub put_of_kind : Kind → (len : ℕ) → ℕ
put_of_kind (Data size) len = min len 16
put_of_kind _ len = len

-- a slot has memory for an answer of that many bytes
pub record Holds (count : ℕ) (slot : Option Memory) : Type 0 where
  pub memory : Memory
  pub is : slot ≡ Some memory
  pub has : HasRoomFor count memory.answers

-- a slot has memory for any answer to this call
abbrev pub HoldsAnswer : CallData → Option Memory → Type 0
HoldsAnswer call slot = Holds (put_of call call.room) slot

-- this memory has room for any answer to the call that a request asks for, if it asks for one, with that much room
abbrev pub HasFor : (room : ℕ) → Ask → Part → Type 0
HasFor room (Ends reply) p = ⊤
HasFor room (Asks echo call) p = HasRoomFor (put_of_kind (kind_of call) room) p
HasFor room (Lists echo l) p = HasRoomFor room p
HasFor room (WithMemory rest) p = HasFor room rest p

-- A slot has memory for what comes of a request that asks this, with that much room: for any answer to its call, if it
-- asks for one. For the reply to one that asks for none, any slot that has memory has it.
pub record HoldsFor (room : ℕ) (asks : Ask) (slot : Option Memory) : Type 0 where
  pub memory : Memory
  pub is : slot ≡ Some memory
  pub answer : HasFor room asks memory.answers

-- A slot that has memory for an answer has it afterwards,
abbrev pub KeepsAnswers : (slot slot_after : Option Memory) → Type 0
KeepsAnswers slot slot_after = (count : ℕ) → Holds count slot → Holds count slot_after

-- and so memory for what comes of a request.
abbrev pub StaysFor : (slot slot_after : Option Memory) → Type 0
StaysFor slot slot_after = (less : ℕ) (asks : Ask) → HoldsFor less asks slot → HoldsFor less asks slot_after

-- Where a call is told, the slot has memory for any answer to it,
abbrev pub HoldsIfTold : (code : ℤ) → CallData → (slot_after : Option Memory) → Type 0
HoldsIfTold code call slot_after = code ≡ is_asked → HoldsAnswer call slot_after

-- and so for what comes of any request with no more room.
abbrev pub HoldsForOthers : (code : ℤ) → CallData → (slot_after : Option Memory) → Type 0
HoldsForOthers code call slot_after =
    code ≡ is_asked → (less : ℕ) → less ≤ put_of call call.room → (asks : Ask) → HoldsFor less asks slot_after

-- ---- no more is of the promise: the rest is for contracts of parts

-- a slot that has memory has some afterwards
abbrev pub StaysThere : (slot slot_after : Option Memory) → Type 0
StaysThere slot slot_after = IsSome slot → IsSome slot_after

-- memory that has room for an answer has it afterwards
abbrev pub KeepsRooms : (part part_after : Part) → Type 0
KeepsRooms part part_after = (count : ℕ) → HasRoomFor count part → HasRoomFor count part_after

-- where a call is told, this memory has room for any answer to it
abbrev pub HasIfTold : (code : ℤ) → CallData → (part_after : Part) → Type 0
HasIfTold code call part_after = code ≡ is_asked → HasRoomFor (put_of call call.room) part_after

-- A call is told, and then this holds; or for want of memory none is.
abbrev pub TellsOrNot : (code : ℤ) → (call call_after : CallData) → (kept : Type 0) → Type 0
TellsOrNot code call call_after kept =
    ((code ≡ is_asked) × (call_after ≡ call) × kept) ⊎ ((code ≡ no_memory) × (call_after ≡ nothing))
