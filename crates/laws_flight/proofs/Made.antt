-- The books of calls as they are made: what was sent, of all that was seen, is within what was answered and what the
-- client gives back.
use Rattle.std.proofs.Common.{◌≡◌, ◌≢◌, ◌≤◌, ◌+◌, ◌==◌, ℕ, zero, suc, Bool, true, false, cond, if◌then◌else◌, List, [], ◌∷◌, ◌++◌, length, take, sum_by, Some, Result, Ok, Err, refl, ap, sym, ◌∙◌, inl, inr, subst, arith, length-append, append-nil, zero-add}
use Rattle.std.proofs.lemmas.List.{take_all, take-append-le}
use Rattle.std.proofs.lemmas.List.Sums.{sum_by-cons, sum_by-append, sum_by-take-le, sum_by_push}
use Rattle.vfs_files.specs.Calls.{Call, Lookup, Forget, Answer}
use Rattle.vfs_files.specs.Runs.{Event, Called, OpenedDirectory, Taken}
use Rattle.vfs_grammar.specs.Books.{times, entry_node, opcode_in, forgotten, forgets_in, accepted_by, answered_by, sent_by, answered, sent, delivered, accepted}
use Rattle.vfs_grammar.specs.Listing.{given_back}
use Rattle.vfs_grammar.specs.Turn.{Turn}
use Rattle.vfs_grammar.specs.declared.limits.Limits.{Limits}
use Rattle.vfs_grammar.specs.declared.error.Error.{Error}
use Rattle.laws_turns.proofs.ListedNodes.{no_node}
use Rattle.laws_turns.proofs.OneTurn.{turn_books, turn_last}
use Rattle.laws_turns.proofs.Replying.{LastOnly}
use Rattle.laws_turns.proofs.Sums.{answered-append, sent-append}
use Rattle.laws_flight.specs.Flight.{Waiting, IsTurnOf}
use Rattle.laws_flight.specs.Made.{Going, Point, Began, Seen, Completed, IsCallBeside, IsBeside, AreSeenOf, IsUnderWay, AreUnderWay, AreSeen, events_seen, turns_seen, given_back_by, given_back_in, NoCountIsBelow}

-- ---- what is seen of a turn

same_seen : (events : List Event) → AreSeenOf [] events events
same_seen [] = inl refl
same_seen (e ∷ events) = inl (events, refl, same_seen events)

-- its very events are
pub are_seen : (seen turn : List Event) → turn ≡ seen → AreSeenOf [] seen turn
are_seen seen turn same = subst (AreSeenOf [] seen) (sym same) (same_seen seen)

-- ---- a part of what was seen is under way

under_parts : (limits : Limits) (before : List Going) (g : Going) (following : List Going)
    → AreUnderWay limits (before ++ g ∷ following)
    → IsUnderWay limits g × AreUnderWay limits (before ++ following)
under_parts limits [] g following all = all
under_parts limits (x ∷ before) g following all =
    let rest = under_parts limits before g following all.1 in (rest.0, (all.0, rest.1))

under_joined : (limits : Limits) (before : List Going) (g : Going) (following : List Going)
    → IsUnderWay limits g → AreUnderWay limits (before ++ following)
    → AreUnderWay limits (before ++ g ∷ following)
under_joined limits [] g following one all = (one, all)
under_joined limits (x ∷ before) g following one all =
    (all.0, under_joined limits before g following one all.1)

append_one : (xs : List Event) (y : Event) (ys : List Event) → (xs ++ y ∷ []) ++ ys ≡ xs ++ y ∷ ys
append_one [] y ys = refl
append_one (x ∷ xs) y ys = ap (λ (l : List Event). x ∷ l) (append_one xs y ys)

under_way : (limits : Limits) (going : List Going) (points : List Point)
    → AreSeen limits going points → AreUnderWay limits going
under_way limits going [] seen = seen
under_way limits going (Began w ∷ points) seen =
    (under_way limits (record { waiting = w; events = [] } ∷ going) points seen).1
under_way limits going (Seen event ∷ points) (before, following, g, is, seen) =
    let later : Going = record g { events = g.events ++ event ∷ [] } in
    let parts = under_parts limits before later following (under_way limits (before ++ later ∷ following) points seen) in
    let one : IsUnderWay limits g = (
      parts.0.0,
      parts.0.1,
      event ∷ parts.0.2,
      parts.0.3,
      subst (λ (es : List Event). AreSeenOf [] es parts.0.0.events) (append_one g.events event parts.0.2) parts.0.4,
    ) in
    subst (AreUnderWay limits) (sym is) (under_joined limits before g following one parts.1)
under_way limits going (Completed t after ∷ points) (before, following, g, is, turn, same, seen) =
    let one : IsUnderWay limits g =
    (t, after, [], turn, subst (λ (es : List Event). AreSeenOf [] es t.events) (sym (append-nil g.events)) same) in
    subst (AreUnderWay limits) (sym is)
    (under_joined limits before g following one (under_way limits (before ++ following) points seen))

-- the first points
first_points : (limits : Limits) (going : List Going) (points : List Point) (k : ℕ)
    → AreSeen limits going points → AreSeen limits going (take k points)
first_points limits going points zero seen = under_way limits going points seen
first_points limits going [] (suc k) seen = seen
first_points limits going (Began w ∷ points) (suc k) seen =
    first_points limits (record { waiting = w; events = [] } ∷ going) points k seen
first_points limits going (Seen event ∷ points) (suc k) (before, following, g, is, seen) = (
  before,
  following,
  g,
  is,
  first_points limits (before ++ record g { events = g.events ++ event ∷ [] } ∷ following) points k seen,
)
first_points limits going (Completed t after ∷ points) (suc k) (before, following, g, is, turn, same, seen) =
    (before, following, g, is, turn, same, first_points limits (before ++ following) points k seen)

-- ---- one turn

if_within : (b : Bool) (x : ℕ) → (if b then x else 0) ≤ x
if_within true x = omega arith
if_within false x = omega arith

accepted_within : (n : ℕ) (request : List ℕ) (outcome : Result ℕ Error)
    → accepted_by n request outcome ≤ forgotten n (forgets_in (opcode_in request) request)
accepted_within n request (Ok m) = if_within (m == 0) (forgotten n (forgets_in (opcode_in request) request))
accepted_within n request (Err error) = omega arith

times-append : (n : ℕ) (xs ys : List ℕ) → times n (xs ++ ys) ≡ times n xs + times n ys
times-append n xs ys = sum_by-append (λ (k : ℕ). cond (k == n) 1 0) xs ys

-- before its last event a turn gives back nothing
none_before : (n : ℕ) (xs : List Event) (y : Event) (ys : List Event) → LastOnly n (xs ++ y ∷ ys) → sent n xs ≡ 0
none_before n xs y ys l =
    let long : length (xs ++ y ∷ ys) ≡ length (l.front ++ l.last) = ap length l.are in
    let ours = length-append xs (y ∷ ys) in
    let theirs = length-append l.front l.last in
    let most : length xs ≤ length l.front = omega (arith, long, ours, theirs, l.short) in
    let begins : xs ≡ take (length xs) l.front =
    sym (take_all (length xs) xs (omega arith)) ∙ sym (take-append-le (length xs) xs (y ∷ ys) (omega arith))
    ∙ ap (take (length xs)) l.are ∙ take-append-le (length xs) l.front l.last most in
    let few : sent n (take (length xs) l.front) ≤ sent n l.front = sum_by-take-le (sent_by n) l.front (length xs) in
    ap (sent n) begins ∙ omega (arith, few, l.none)

module _ (n : ℕ) (some : n ≢ 0) (limits : Limits) where
  turn_accepts : (w : Waiting) (t : Turn) (after : ℕ) → IsTurnOf limits w t after → accepted n t ≤ given_back_by n w
  turn_accepts w t after is =
      subst (λ (q : List ℕ). accepted n t ≤ forgotten n (forgets_in (opcode_in q) q)) is.asked
      (accepted_within n t.request t.outcome)

  -- what was sent in the first events of a turn
  first_within : (w : Waiting) (t : Turn) (after : ℕ) (xs ys : List Event) → IsTurnOf limits w t after
      → t.events ≡ xs ++ ys → sent n xs ≤ answered n xs + given_back_by n w
  first_within w t after xs [] is begins =
      let all : t.events ≡ xs = begins ∙ append-nil xs in
      let books = turn_books n limits w.options t after some is.turn in
      let a : answered n t.events ≡ answered n xs = ap (answered n) all in
      let s : sent n t.events ≡ sent n xs = ap (sent n) all in
      let accepts = turn_accepts w t after is in
      omega (arith, books, a, s, accepts)
  first_within w t after xs (y ∷ ys) is begins =
      let last : LastOnly n (xs ++ y ∷ ys) = subst (LastOnly n) begins (turn_last n some limits w.options t after is.turn) in
      let none = none_before n xs y ys last in
      omega (arith, none)

  -- what is beside a turn: a node that is looked up is to be given back, and is not after that
  call_sums : (back : List ℕ) (call : Call) (answer : Answer) (after : List ℕ) → IsCallBeside back call answer after
      → sent_by n (Called call answer) + times n after ≡ answered_by n (Called call answer) + times n back
  call_sums back (Lookup ctx parent name) answer after is =
      let t = ap (times n) is ∙ times-append n (entry_node answer) back in
      let s : sent_by n (Called (Lookup ctx parent name) answer) ≡ 0 = refl in
      let a : answered_by n (Called (Lookup ctx parent name) answer) ≡ times n (entry_node answer) = refl in
      omega (arith, t, s, a)
  call_sums back (Forget ctx node count) answer after (before, following, one, back_is, after_is) =
      let b = ap (times n) back_is ∙ times-append n before (node ∷ following) in
      let c = sum_by-cons (λ (k : ℕ). cond (k == n) 1 0) node following in
      let d = sum_by-cons (λ (k : ℕ). cond (k == n) 1 0) node [] in
      let t = ap (times n) after_is ∙ times-append n before following in
      let s : sent_by n (Called (Forget ctx node count) answer) ≡ times n (node ∷ []) =
      ap (λ (k : ℕ). forgotten n ((node, k) ∷ [])) one in
      let a : answered_by n (Called (Forget ctx node count) answer) ≡ 0 = refl in
      omega (arith, b, c, d, t, s, a)
  call_sums back _ answer after is = absurd is

  beside_sums : (back : List ℕ) (e : Event) (after : List ℕ) → IsBeside back e after
      → sent_by n e + times n after ≡ answered_by n e + times n back
  beside_sums back (Called call answer) after is = call_sums back call answer after is
  beside_sums back (OpenedDirectory call) after is = absurd is
  beside_sums back (Taken item) after is =
      let t = ap (times n) is in
      let s : sent_by n (Taken item) ≡ 0 = refl in
      let a : answered_by n (Taken item) ≡ 0 = refl in
      omega (arith, t, s, a)

  -- what is seen first is of the first events of a turn
  record Parts (back : List ℕ) (xs ys turn : List Event) : Type 0 where
    first : List Event
    rest : List Event
    are : turn ≡ first ++ rest
    left : List ℕ
    later : AreSeenOf left ys rest
    sums : sent n xs + (times n left + answered n first) ≡ sent n first + (times n back + answered n xs)

  parts : (back : List ℕ) (xs ys turn : List Event) → AreSeenOf back (xs ++ ys) turn → Parts back xs ys turn
  parts back [] ys turn seen =
      record { first = []; rest = turn; are = refl; left = back; later = seen; sums = refl }
  parts back (e ∷ xs) ys turn (inl (rest, is, seen)) =
      let p = parts back xs ys rest seen in
      let s = sum_by-cons (sent_by n) e xs in
      let a = sum_by-cons (answered_by n) e xs in
      let s' = sum_by-cons (sent_by n) e p.first in
      let a' = sum_by-cons (answered_by n) e p.first in
      record {
        first = e ∷ p.first;
        rest = p.rest;
        are = is ∙ ap (λ (es : List Event). e ∷ es) p.are;
        left = p.left;
        later = p.later;
        sums = omega (arith, p.sums, s, a, s', a');
      }
  parts back (e ∷ xs) ys turn (inr (after, beside, seen)) =
      let p = parts after xs ys turn seen in
      let b = beside_sums back e after beside in
      let s = sum_by-cons (sent_by n) e xs in
      let a = sum_by-cons (answered_by n) e xs in
      record {
        first = p.first;
        rest = p.rest;
        are = p.are;
        left = p.left;
        later = p.later;
        sums = omega (arith, p.sums, b, s, a);
      }

  -- what need not be seen of a turn is of node 0
  left_over : (back : List ℕ) (turn : List Event) → AreSeenOf back [] turn → (sent n turn ≡ 0) × (answered n turn ≡ 0)
  left_over back turn (inl none) = (ap (sent n) none, ap (answered n) none)
  left_over back turn (inr (ctx, one)) =
      let back : sent n (given_back ctx (Some 0)) ≡ times n (0 ∷ []) = zero-add _ in
      (ap (sent n) one ∙ back ∙ no_node n 0 some refl, ap (answered n) one)

  -- what was seen of a whole turn
  whole : (seen turn : List Event) → AreSeenOf [] seen turn → sent n seen + answered n turn ≤ sent n turn + answered n seen
  whole seen turn is =
      let p = parts [] seen [] turn (subst (λ (es : List Event). AreSeenOf [] es turn) (sym (append-nil seen)) is) in
      let over = left_over p.left p.rest p.later in
      let s = ap (sent n) p.are ∙ sent-append n p.first p.rest in
      let a = ap (answered n) p.are ∙ answered-append n p.first p.rest in
      let none : times n [] ≡ 0 = refl in
      omega (arith, p.sums, over.0, over.1, s, a, none)

  -- what was sent for a request that comes to a turn
  one_within : (g : Going) → IsUnderWay limits g → sent n g.events ≤ answered n g.events + given_back_by n g.waiting
  one_within g (t, after, rest, is, seen) =
      let p = parts [] g.events rest t.events seen in
      let first = first_within g.waiting t after p.first p.rest is p.are in
      let none : times n [] ≡ 0 = refl in
      omega (arith, p.sums, first, none)

  abbrev sent_for : Going → ℕ
  sent_for g = sent n g.events

  abbrev answered_for : Going → ℕ
  answered_for g = answered n g.events

  abbrev back_for : Going → ℕ
  back_for g = given_back_by n g.waiting

  all_within : (going : List Going) → AreUnderWay limits going
      → sum_by sent_for going ≤ sum_by answered_for going + sum_by back_for going
  all_within [] all = omega arith
  all_within (g ∷ gs) all =
      let one = one_within g all.0 in
      let rest = all_within gs all.1 in
      let s = sum_by-cons sent_for g gs in
      let a = sum_by-cons answered_for g gs in
      let b = sum_by-cons back_for g gs in
      omega (arith, one, rest, s, a, b)

  -- a sum over what is going, with one of it apart
  apart : (f : Going → ℕ) (before : List Going) (g : Going) (following : List Going)
      → sum_by f (before ++ g ∷ following) ≡ f g + sum_by f (before ++ following)
  apart f before g following =
      let x = sum_by-append f before (g ∷ following) in
      let y = sum_by-cons f g following in
      let z = sum_by-append f before following in
      omega (arith, x, y, z)

  -- what was sent, and what was delivered, are within what was answered and what the client gave back
  within : (going : List Going) (points : List Point) → AreSeen limits going points
      → sent n (events_seen points) + (sum_by sent_for going + sum_by (delivered n) (turns_seen points))
      ≤ answered n (events_seen points) + (sum_by answered_for going + (sum_by back_for going + given_back_in n points))
  within going [] seen =
      let all = all_within going seen in
      omega (arith, all)
  within going (Began w ∷ points) seen =
      let g : Going = record { waiting = w; events = [] } in
      let rest = within (g ∷ going) points seen in
      let s = sum_by-cons sent_for g going in
      let a = sum_by-cons answered_for g going in
      let b = sum_by-cons back_for g going in
      omega (arith, rest, s, a, b)
  within going (Seen event ∷ points) (before, following, g, is, seen) =
      let later : Going = record g { events = g.events ++ event ∷ [] } in
      let rest = within (before ++ later ∷ following) points seen in
      let s = ap (sum_by sent_for) is ∙ apart sent_for before g following in
      let a = ap (sum_by answered_for) is ∙ apart answered_for before g following in
      let b = ap (sum_by back_for) is ∙ apart back_for before g following in
      let s' = apart sent_for before later following in
      let a' = apart answered_for before later following in
      let b' = apart back_for before later following in
      let s'' : sent n (g.events ++ event ∷ []) ≡ sent n g.events + sent_by n event = sum_by_push (sent_by n) g.events event in
      let a'' : answered n (g.events ++ event ∷ []) ≡ answered n g.events + answered_by n event =
      sum_by_push (answered_by n) g.events event in
      let s''' = sum_by-cons (sent_by n) event (events_seen points) in
      let a''' = sum_by-cons (answered_by n) event (events_seen points) in
      omega (arith, rest, s, a, b, s', a', b', s'', a'', s''', a''')
  within going (Completed t after ∷ points) (before, following, g, is, turn, same, seen) =
      let rest = within (before ++ following) points seen in
      let s = ap (sum_by sent_for) is ∙ apart sent_for before g following in
      let a = ap (sum_by answered_for) is ∙ apart answered_for before g following in
      let b = ap (sum_by back_for) is ∙ apart back_for before g following in
      let books = turn_books n limits g.waiting.options t after some turn.turn in
      let is_whole = whole g.events t.events same in
      let accepts = turn_accepts g.waiting t after turn in
      let d = sum_by-cons (delivered n) t (turns_seen points) in
      omega (arith, rest, s, a, b, books, is_whole, accepts, d)

pub no_count_is_below : NoCountIsBelow
no_count_is_below limits points n k some seen told =
    let w = within n some limits [] (take k points) (first_points limits [] points k seen) in
    omega (arith, w, told)
