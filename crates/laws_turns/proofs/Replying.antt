-- The books of a turn by what came back of it, and which of its events give back anything.
use Rattle.std.proofs.Common.{◌+◌, ◌≡◌, ◌≤◌, ◌<◌, ℕ, nat_eq, nat_le, Bool, true, false, if◌then◌else◌, List, [], ◌∷◌, ◌++◌, length, take, drop, Result, Ok, Err, refl, ap, ◌∙◌, ◌⊎◌, inl, inr, arith}
use Rattle.std.proofs.lemmas.Bool.Decides.{nat_tests}
use Rattle.std.proofs.lemmas.List.{take_at}
use Rattle.vfs_files.specs.Runs.{Event}
use Rattle.vfs_grammar.specs.Room.{IsPut}
use Rattle.vfs_grammar.specs.Turn.{Turn}
use Rattle.vfs_grammar.specs.declared.error.Error.{Error}
use Rattle.vfs_grammar.specs.declared.error.Error.TheVariants.{EncodeMessage}
use Rattle.vfs_grammar.specs.Books.{times, forgotten, opcode_in, forgets_in, delivered_nodes, answered, sent, delivered_by, delivered, accepted_by, accepted}

-- ---- what came back

-- a reply came back whole, or didn't fit
abbrev pub ComesBack : (reply : List ℕ) → Result ℕ Error → (room_after : List ℕ) → Type 0
ComesBack reply outcome room_after =
    ((outcome ≡ Ok (length reply)) × (take (length reply) room_after ≡ reply)) ⊎ (outcome ≡ Err EncodeMessage)

put_by : (fits : Bool) (reply room : List ℕ) (outcome : Result ℕ Error) (room_after : List ℕ)
    → outcome ≡ (if fits then Ok (length reply) else Err EncodeMessage)
    → room_after ≡ (if fits then reply ++ drop (length reply) room else take (length room) reply)
    → ComesBack reply outcome room_after
put_by true reply room outcome room_after e f = inl (e, ap (take (length reply)) f ∙ take_at reply (drop (length reply) room) (length reply) refl)
put_by false reply room outcome room_after e f = inr e

pub put_back : (reply room : List ℕ) (outcome : Result ℕ Error) (room_after : List ℕ) → IsPut reply room outcome room_after → ComesBack reply outcome room_after
put_back reply room outcome room_after p = put_by (nat_le (length reply) (length room)) reply room outcome room_after p.says p.leaves

-- ---- the books

-- the books of a node balance over one turn
abbrev pub Balances : (n : ℕ) → Turn → Type 0
Balances n t = answered n t.events + accepted n t ≡ delivered n t + sent n t.events

module _ (n : ℕ) (t : Turn) where
  -- a whole reply: what was answered is what its bytes hold, and what was sent
  pub whole_books : (reply : List ℕ) → t.outcome ≡ Ok (length reply) → take (length reply) t.room_after ≡ reply → 0 < length reply
      → answered n t.events ≡ times n (delivered_nodes (opcode_in t.request) reply) + sent n t.events → Balances n t
  whole_books reply o whole long e =
      let some : nat_eq (length reply) 0 ≡ false = grind (arith, nat_tests) in
      let d : delivered n t ≡ times n (delivered_nodes (opcode_in t.request) reply) =
      ap (λ r. delivered_by n (opcode_in t.request) r t.room_after) o ∙ rw (some, whole) refl in
      let a : accepted n t ≡ 0 = ap (λ r. accepted_by n t.request r) o ∙ rw some refl in
      omega (arith, d, a, e)

  -- nothing was sent where the reply came back whole, and where it didn't fit what was answered
  pub record SendsBack : Type 0 where
    pub whole : (m : ℕ) → t.outcome ≡ Ok m → sent n t.events ≡ 0
    pub unfit : t.outcome ≡ Err EncodeMessage → sent n t.events ≡ answered n t.events

  -- a reply that came back, whole or not
  pub reply_books : (reply : List ℕ) → ComesBack reply t.outcome t.room_after → 0 < length reply
      → answered n t.events ≡ times n (delivered_nodes (opcode_in t.request) reply) → SendsBack → Balances n t
  reply_books reply (inl back) long e s =
      let none = s.whole (length reply) back.0 in whole_books reply back.0 back.1 long (omega (arith, e, none))
  reply_books reply (inr full) long e s =
      let d : delivered n t ≡ 0 = ap (λ r. delivered_by n (opcode_in t.request) r t.room_after) full in
      let a : accepted n t ≡ 0 = ap (λ r. accepted_by n t.request r) full in
      let all = s.unfit full in
      omega (arith, d, a, all)

  -- a request that is done without a reply: what was sent is what its bytes give back
  pub done_books : t.outcome ≡ Ok 0 → answered n t.events ≡ 0
      → sent n t.events ≡ forgotten n (forgets_in (opcode_in t.request) t.request) → Balances n t
  done_books o e s =
      let d : delivered n t ≡ 0 = ap (λ r. delivered_by n (opcode_in t.request) r t.room_after) o in
      let a : accepted n t ≡ forgotten n (forgets_in (opcode_in t.request) t.request) = ap (λ r. accepted_by n t.request r) o in
      omega (arith, d, a, e, s)

  -- a request that is refused without a call
  pub refused_books : (e : Error) → t.events ≡ [] → t.outcome ≡ Err e → Balances n t
  refused_books e none o =
      let f : answered n t.events ≡ 0 = ap (answered n) none in
      let s : sent n t.events ≡ 0 = ap (sent n) none in
      let d : delivered n t ≡ 0 = ap (λ r. delivered_by n (opcode_in t.request) r t.room_after) o in
      let a : accepted n t ≡ 0 = ap (λ r. accepted_by n t.request r) o in
      omega (arith, f, s, d, a)

-- ---- in the middle of a request

-- of the events only the last gives back anything
pub record LastOnly (n : ℕ) (events : List Event) : Type 0 where
  pub front : List Event
  pub last : List Event
  pub are : events ≡ front ++ last
  pub none : sent n front ≡ 0
  pub short : length last ≤ 1

pub no_event : (n : ℕ) (events : List Event) → events ≡ [] → LastOnly n events
no_event n events e = record { front = []; last = []; are = e; none = refl; short = omega arith }

pub one_event : (n : ℕ) (x : Event) (events : List Event) → events ≡ x ∷ [] → LastOnly n events
one_event n x events e = record { front = []; last = x ∷ []; are = e; none = refl; short = omega arith }
