-- What C is told: a value and 0, or the number of a refusal.
use Rattle.std.specs.Prelude.{◌≡◌, ◌⊎◌, ℕ, List, Result, MatchResult}
use Rattle.vhost_protocol.specs.Numbers.{refusal_number}
use Rattle.vhost_protocol.specs.Places.{IsNowhere, IsPlace}
use Rattle.vhost_protocol.specs.declared.numbers.Refusal.{Refusal}
use Rattle.vhost_protocol.specs.declared.messages.place.Place.{Place}
use Rattle.vhost_protocol.specs.declared.messages.place.View.{View}
use Rattle.vhost_protocol.specs.declared.messages.records.Region.{Region}

-- the value is told, or why there is none, and then nothing is
abbrev pub IsTold : {V : Type 0} → Result V Refusal → (old : V) → (result : ℕ) → (new : V) → Type 0
IsTold r old result new =
    MatchResult r (λ v. (result ≡ 0) × (new ≡ v)) (λ e. (result ≡ refusal_number e) × (new ≡ old))

-- a place is told, or there is none, and then nothing is
abbrev pub IsFound : View → List Region → (address len : ℕ) → (old : Place) → (result : ℕ) → (new : Place) → Type 0
IsFound view regions address len old result new =
    ((result ≡ 0) × IsPlace view regions address len new)
    ⊎ ((result ≡ 1) × (new ≡ old) × IsNowhere view regions address len)
