-- Tables of memory: which can be.
use Rattle.std.specs.Prelude.{◌==◌, ◌≤◌, ◌<◌, ◌+◌, ◌*◌, ◌^◌, ◌&&◌, ◌||◌, ℕ, List, [], ◌∷◌, length, take, replicate, Bool, false, Option, Some, None, Result, Ok, Err, if◌then◌else◌, nat_lt, nat_le}
use Rattle.std.specs.List.{All, AllPairs}
use Rattle.vfs_wire.specs.Fields.{number}
use Rattle.vhost_protocol.specs.Records.{region_at}
use Rattle.vhost_protocol.specs.Numbers.{request_number}
use Rattle.vhost_protocol.specs.declared.messages.message.Message.{Message}
use Rattle.vhost_protocol.specs.declared.messages.message.Rings.{Rings}
use Rattle.vhost_protocol.specs.declared.messages.message.Table.{Table}
use Rattle.vhost_protocol.specs.declared.numbers.Refusal.{Refusal}
use Rattle.vhost_protocol.specs.declared.numbers.Refusal.TheVariants.{WrongCount, EmptyRegion, GuestRange, UserRange, FileRange, Overlap}
use Rattle.vhost_protocol.specs.declared.messages.records.Log.{Log}
use Rattle.vhost_protocol.specs.declared.messages.records.Region.{Region}
use Rattle.vhost_protocol.specs.declared.numbers.Request.{Request}
use Rattle.vhost_protocol.specs.declared.numbers.Request.TheVariants.{SetMemTable}

-- ---- messages

abbrev pub no_rings : Rings
no_rings = record { descriptors = 0; used = 0; available = 0; log = 0 }

abbrev pub no_log : Log
no_log = record { size = 0; offset = 0 }

abbrev pub no_region : Region
no_region = record { guest = 0; size = 0; user = 0; offset = 0 }

abbrev pub no_memory : Table
no_memory = record { count = 0; region = replicate 8 no_region }

-- a message of this request alone
abbrev pub alone : Request → Message
alone r = record {
  request = request_number r;
  wants_reply = 0;
  queue = 0;
  descriptors = 0;
  number = 0;
  rings = no_rings;
  log = no_log;
  memory = no_memory;
}

-- ---- regions

-- why a region can't be: it has bytes, and ends before 2^64 in the guest and in the front end, and before 2^63 in
-- its file
unfoldable pub fault_of : Region → Option Refusal
fault_of r =
    if r.size == 0 then Some EmptyRegion
    else if nat_lt (r.guest + r.size) (2 ^ 64)
    then (if nat_lt (r.user + r.size) (2 ^ 64)
    then (if nat_lt (r.offset + r.size) (2 ^ 63) then None else Some FileRange)
    else Some UserRange)
    else Some GuestRange

-- two regions have an address of the guest in common: the later one begins before the other ends
abbrev pub meet : (a b : Region) → Bool
meet a b =
    if nat_le a.guest b.guest then nat_lt b.guest (a.guest + a.size)
    else nat_lt a.guest (b.guest + b.size)

-- why the first region can't be that can't be
abbrev pub first_of : Option Refusal → Option Refusal → Option Refusal
first_of (Some e) other = Some e
first_of None other = other

abbrev pub fault_among : List Region → Option Refusal
fault_among [] = None
fault_among (r ∷ rs) = first_of (fault_of r) (fault_among rs)

-- a region and one of these meet
abbrev pub meets_any : Region → List Region → Bool
meets_any r [] = false
meets_any r (s ∷ rs) = meet r s || meets_any r rs

-- two of these meet
abbrev pub overlap : List Region → Bool
overlap [] = false
overlap (r ∷ rs) = meets_any r rs || overlap rs

-- ---- what a table promises

-- a region that can be
pub record IsRegion (r : Region) : Type 0 where
  pub has_bytes : 0 < r.size
  pub guest : r.guest + r.size < 2 ^ 64
  pub user : r.user + r.size < 2 ^ 64
  pub file : r.offset + r.size < 2 ^ 63

-- an address of the guest is in a region
abbrev pub HasAddress : Region → ℕ → Type 0
HasAddress r x = (r.guest ≤ x) × (x < r.guest + r.size)

-- no address of the guest is in both
abbrev pub Apart : (a b : Region) → Type 0
Apart a b = (x : ℕ) → HasAddress a x → HasAddress b x → ⊥

-- the regions of a table that are shared
abbrev pub shared : Table → List Region
shared t = take t.count t.region

-- each of them can be, and no address is in two
pub record CanBe (t : Table) : Type 0 where
  pub few : t.count ≤ 8
  pub are : All IsRegion (shared t)
  pub apart : AllPairs Apart (shared t)

-- The memory of a message: it can be, and each region came with a descriptor; and its log ends before 2^63 in its file.
pub record HasMemory (m : Message) : Type 0 where
  pub can_be : CanBe m.memory
  pub with_descriptors : m.memory.count ≤ m.descriptors
  pub log : m.log.offset + m.log.size < 2 ^ 63

-- ---- tables

-- a region of a table's bytes; one past its end is none
unfoldable pub region_in : (body : List ℕ) → (i : ℕ) → Region
region_in body i =
    if nat_le (8 + 32 * (i + 1)) (length body) then region_at (8 + 32 * i) body else no_region

-- the eight regions of a table's bytes
abbrev pub regions_in : (body : List ℕ) → List Region
regions_in body =
    region_in body 0 ∷ region_in body 1 ∷ region_in body 2 ∷ region_in body 3 ∷ region_in body 4
    ∷ region_in body 5 ∷ region_in body 6 ∷ region_in body 7 ∷ []

-- a table of regions, if each of the first ones can be, and no two meet
abbrev pub checked : (count : ℕ) → (regions : List Region) → Option Refusal → Result Message Refusal
checked count regions (Some e) = Err e
checked count regions None =
    if overlap (take count regions) then Err Overlap
    else Ok (record (alone SetMemTable) {
      descriptors = count;
      memory = record { count = count; region = regions };
    })

unfoldable pub table_of : (body : List ℕ) → Result Message Refusal
table_of body =
    if nat_le (number 4 body) 8 && length body == 8 + 32 * number 4 body
    then checked (number 4 body) (regions_in body) (fault_among (take (number 4 body) (regions_in body)))
    else Err WrongCount
