-- A chain of descriptors: virtio 1.2, section 2.7, as a relation on the bytes of its tables. A table is the bytes
-- that were copied of it; of an entry that was not copied nothing is said.
use Rattle.std.specs.Prelude.{◌≡◌, ◌≢◌, ◌≤◌, ◌<◌, ◌+◌, ◌-◌, ◌*◌, ◌/◌, ◌%◌, ◌⊎◌, ℕ, Bool, true, false, ⊤, List, [], ◌∷◌, Some, None}
use Rattle.vhost_protocol.specs.Descriptors.{descriptor_from, goes_on, is_writable, is_table}
use Rattle.vhost_protocol.specs.Regions.{place_of}
use Rattle.vhost_protocol.specs.Walks.{entry_size, piece_at, step_at}
use Rattle.vhost_protocol.specs.declared.chains.descriptor.Descriptor.{Descriptor}
use Rattle.vhost_protocol.specs.declared.chains.regions.Region.{Region}
use Rattle.vhost_protocol.specs.declared.chains.regions.Place.{Place}
use Rattle.vhost_protocol.specs.declared.chains.walk.Piece.{Piece}
use Rattle.vhost_protocol.specs.declared.chains.walk.Walk.{Walk}
use Rattle.vhost_protocol.specs.declared.numbers.ChainRefusal.{ChainRefusal}
use Rattle.vhost_protocol.specs.declared.numbers.ChainRefusal.TheVariants.{OutsideTable, LongerThanTable, Outside, PastEnd, ReadableAfterWritable, TooManyBytes, TableInTable, TableGoesOn, TableSize, TooManyEntries}
use Rattle.vhost_protocol.specs.declared.chains.walk.TheConstants.{MOST_BYTES}
use Rattle.vhost_protocol.specs.declared.chains.walk.Step.{Step}
use Rattle.vhost_protocol.specs.declared.chains.walk.Step.TheVariants.{Last, More, Table, Refused}

-- ---- what a step may be taken for

-- all of the bytes from `addr` on lie in the region of this number, so far from its first
abbrev pub Lie : List Region → (addr len region offset : ℕ) → Type 0
Lie [] addr len region offset = ⊥
Lie (r ∷ rs) addr len region offset =
    ((region ≡ 0) × (r.address + offset ≡ addr) × (offset + len ≤ r.size))
    ⊎ ((before : ℕ) × (region ≡ 1 + before) × Lie rs addr len before offset)

-- what a refusal says of the descriptor at which the walk is
abbrev pub IsReason : List Region → Walk → Descriptor → ChainRefusal → Type 0
IsReason regions w d OutsideTable = (is_table d ≡ false) × (goes_on d ≡ true) × (w.entries ≤ d.next)
IsReason regions w d LongerThanTable = (is_table d ≡ false) × (goes_on d ≡ true) × (w.left ≤ 1)
IsReason regions w d Outside = (place_of regions d.addr d.len ≡ None) × (place_of regions d.addr 1 ≡ None)
IsReason regions w d PastEnd =
    (place_of regions d.addr d.len ≡ None) × (place : Place) × (place_of regions d.addr 1 ≡ Some place)
IsReason regions w d ReadableAfterWritable =
    (is_table d ≡ false) × (w.writable ≡ true) × (is_writable d ≡ false)
IsReason regions w d TooManyBytes = (is_table d ≡ false) × (w.rest < d.len)
IsReason regions w d TableInTable = (is_table d ≡ true) × (w.indirect ≡ true)
IsReason regions w d TableGoesOn = (is_table d ≡ true) × (goes_on d ≡ true)
IsReason regions w d TableSize = (is_table d ≡ true) × ((d.len ≡ 0) ⊎ (d.len % entry_size ≢ 0))
IsReason regions w d TooManyEntries = (is_table d ≡ true) × (w.most < d.len / entry_size)

-- A step is within what its walk may: a piece, and a table, lie in one region, at the descriptor's address; the
-- next descriptor is one of its table; and the walk gets shorter, or is in an indirect table, of which there is one.
abbrev pub IsWithin : List Region → Walk → Descriptor → Step → Type 0
IsWithin regions w d (Last piece) =
    (piece.len ≡ d.len) × Lie regions d.addr d.len piece.place.region piece.place.offset
IsWithin regions w d (More piece next) =
    (piece.len ≡ d.len) × Lie regions d.addr d.len piece.place.region piece.place.offset
    × (next.at < next.entries) × (next.entries ≡ w.entries) × (next.left < w.left)
    × (next.indirect ≡ w.indirect)
IsWithin regions w d (Table place next) =
    Lie regions d.addr (next.entries * entry_size) place.region place.offset
    × (next.at < next.entries) × (next.entries ≤ w.most) × (next.left ≡ next.entries)
    × (w.indirect ≡ false) × (next.indirect ≡ true)
IsWithin regions w d (Refused refusal) = IsReason regions w d refusal

-- ---- the chain

-- the descriptor of this number in a table
abbrev pub entry : (table : List ℕ) → (at : ℕ) → Descriptor
entry table at = descriptor_from (at * entry_size) table

-- a table of descriptors, of no more than there may be
abbrev pub IsTable : (most : ℕ) → Descriptor → Type 0
IsTable most d = (d.len ≢ 0) × (d.len % entry_size ≡ 0) × (d.len / entry_size ≤ most)

-- From this entry of a table on, these are the descriptors of a chain: each but the last says which entry follows,
-- and the last one of the queue's table may be an indirect table, whose own follow from its first on.
abbrev pub AreLinked : (most : ℕ) → (indirect : List ℕ) → (inside : Bool) → (table : List ℕ) → (entries at : ℕ)
    → List Descriptor → Type 0
AreLinked most indirect inside table entries at [] = ⊥
AreLinked most indirect inside table entries at (d ∷ ds) =
    (at < entries) × (d ≡ entry table at)
    × (((is_table d ≡ true) × (inside ≡ false) × (goes_on d ≡ false) × IsTable most d
    × AreLinked most indirect true indirect (d.len / entry_size) 0 ds)
    ⊎ ((is_table d ≡ false) × (goes_on d ≡ true) × AreLinked most indirect inside table entries d.next ds)
    ⊎ ((is_table d ≡ false) × (goes_on d ≡ false) × (ds ≡ [])))

-- no more of a table than it has, of which that many are left
abbrev pub AreFew : (left : ℕ) → List Descriptor → Type 0
AreFew left [] = ⊤
AreFew left (d ∷ ds) =
    (1 ≤ left)
    × (((is_table d ≡ true) × AreFew (d.len / entry_size) ds) ⊎ ((is_table d ≡ false) × AreFew (left - 1) ds))

-- none is read after one that is written
abbrev pub AreOrdered : (written : Bool) → List Descriptor → Type 0
AreOrdered written [] = ⊤
AreOrdered written (d ∷ ds) =
    ((is_table d ≡ true) × AreOrdered written ds)
    ⊎ ((is_table d ≡ false) × (written ≡ true → is_writable d ≡ true) × AreOrdered (is_writable d) ds)

-- no more bytes than these
abbrev pub HaveBytes : (rest : ℕ) → List Descriptor → Type 0
HaveBytes rest [] = ⊤
HaveBytes rest (d ∷ ds) =
    ((is_table d ≡ true) × HaveBytes rest ds)
    ⊎ ((is_table d ≡ false) × (d.len ≤ rest) × HaveBytes (rest - d.len) ds)

-- these are their pieces, each in one region; so is the indirect table
abbrev pub HavePieces : List Region → List Descriptor → List Piece → Type 0
HavePieces regions [] [] = ⊤
HavePieces regions [] (p ∷ ps) = ⊥
HavePieces regions (d ∷ ds) ps =
    ((is_table d ≡ true) × (place : Place) × (place_of regions d.addr d.len ≡ Some place) × HavePieces regions ds ps)
    ⊎ ((is_table d ≡ false) × (place : Place) × (rest : List Piece) × (place_of regions d.addr d.len ≡ Some place)
    × (ps ≡ piece_at d place ∷ rest) × HavePieces regions ds rest)

-- ---- the walk

-- what a step comes to: the last piece, a piece before the others, a table, or none
abbrev pub GoesOnBy : (indirect table : List ℕ) → (ended : Type 0) → (List ℕ → Walk → List Piece → Type 0)
    → Step → List Piece → Type 0
GoesOnBy indirect table ended on (Last piece) ps = ended × (ps ≡ piece ∷ [])
GoesOnBy indirect table ended on (More piece next) ps =
    (rest : List Piece) × (ps ≡ piece ∷ rest) × on table next rest
GoesOnBy indirect table ended on (Table place next) ps = on indirect next ps
GoesOnBy indirect table ended on (Refused refusal) ps = ⊥

-- each descriptor is what is at the entry at which the walk is then, and the steps end with the last of them:
-- these are the pieces
abbrev pub GoesThrough : List Region → (indirect table : List ℕ) → Walk → List Descriptor → List Piece → Type 0
GoesThrough regions indirect table w [] ps = ⊥
GoesThrough regions indirect table w (d ∷ ds) ps =
    (d ≡ entry table w.at)
    × GoesOnBy indirect table (ds ≡ []) (λ t next rest. GoesThrough regions indirect t next ds rest)
    (step_at w d regions) ps

-- what is left of a chain, where a walk has come to
pub record IsRest (regions : List Region) (indirect table : List ℕ) (w : Walk) (ds : List Descriptor)
    (ps : List Piece) : Type 0 where
  pub linked : AreLinked w.most indirect w.indirect table w.entries w.at ds
  pub few : AreFew w.left ds
  pub ordered : AreOrdered w.writable ds
  pub bytes : HaveBytes w.rest ds
  pub placed : HavePieces regions ds ps

-- a chain, from the entry `head` of a queue's table of `size` on, with its pieces
pub record IsChain (regions : List Region) (indirect table : List ℕ) (size most head : ℕ)
    (ds : List Descriptor) (ps : List Piece) : Type 0 where
  pub linked : AreLinked most indirect false table size head ds
  pub few : AreFew size ds
  pub ordered : AreOrdered false ds
  pub bytes : HaveBytes MOST_BYTES ds
  pub placed : HavePieces regions ds ps
