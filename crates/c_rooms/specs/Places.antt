-- What memory lends a room.
use Rattle.std.specs.Prelude.{◌≤◌, ℕ, Vec, vec_len, vec_capacity}
use Rattle.std.specs.declared.alloc.Global.{Global}

-- a list of rooms has memory for one
abbrev pub HasPlace : Vec (Vec ℕ Global) Global → Type 0
HasPlace list = 1 ≤ vec_capacity list

-- this memory lends a room of that many bytes, and takes no more for it
abbrev pub Lends : (total : ℕ) → (list : Vec (Vec ℕ Global) Global) → (room : Vec ℕ Global) → Type 0
Lends total list room = HasPlace list × (total ≤ vec_len room)
