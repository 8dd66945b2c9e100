-- Where an address is in the memory that a front end shares.
use Rattle.std.specs.Prelude.{◌≡◌, ◌≤◌, ◌<◌, ◌+◌, ◌-◌, ℕ, List, length}
use Rattle.std.specs.List.{HoldsAt}
use Rattle.vhost_protocol.specs.declared.messages.place.Place.{Place}
use Rattle.vhost_protocol.specs.declared.messages.place.View.{View}
use Rattle.vhost_protocol.specs.declared.messages.place.View.TheVariants.{Guest, User}
use Rattle.vhost_protocol.specs.declared.messages.records.Region.{Region}

-- the first address of a region
abbrev pub base_of : View → Region → ℕ
base_of Guest r = r.guest
base_of User r = r.user

-- `len` bytes from `address` on are in `size` bytes from `base` on
abbrev pub Holds : (base size address len : ℕ) → Type 0
Holds base size address len = (base ≤ address) × (address + len ≤ base + size)

-- the same of a region
abbrev pub Has : View → (address len : ℕ) → Region → Type 0
Has view address len r = Holds (base_of view r) r.size address len

-- none of the first n regions has them
abbrev pub NoneHas : View → (address len : ℕ) → List Region → (n : ℕ) → Type 0
NoneHas view address len regions n =
    (k : ℕ) → k < n → HoldsAt (λ r. Has view address len r → ⊥) regions k

-- no region has them wholly
abbrev pub IsNowhere : View → List Region → (address len : ℕ) → Type 0
IsNowhere view regions address len = NoneHas view address len regions (length regions)

-- the first region that has them wholly, and how far from its beginning they are
pub record IsPlace (view : View) (regions : List Region) (address len : ℕ) (p : Place) : Type 0 where
  pub is_one : p.region < length regions
  pub has : HoldsAt (λ r. Has view address len r × (p.offset ≡ address - base_of view r)) regions p.region
  pub is_first : NoneHas view address len regions p.region
