-- The library's functions in a row.
use Rattle.std.proofs.Common.{◌≡◌, ◌≤◌, ◌^◌, ◌⊎◌, ◌++◌, ◌∙◌, length, ℕ, ℤ, List, [], ◌∷◌, Option, Some, None, IfSome, MatchOption, append-nil, ap, refl, subst, sym, inl, inr}
use Rattle.vfs_server.specs.Step.{ServerState}
use Rattle.laws_history.specs.History.{Moment, Handled, Changed, IsHistory, HistoriesKeepBooks}
use Rattle.codec_decode.specs.Further.{What, Ordinary, Short, Row, Unnamed}
use Rattle.laws_flight.specs.OfferedTurns.{as_create}
use Rattle.vfs_grammar.specs.declared.limits.Limits.{Limits}
use Rattle.c_rooms.specs.Codes.{ok, no_memory, too_long}
use Rattle.nizwarf_tree.specs.Files.{State, Allows, Gives, at_time}
use Rattle.nizwarf_tree.specs.History.{AreAdded, Answered, AnsweredAs, Extends, HandlesTwo, Told, Turned}
use Rattle.nizwarf_tree.specs.Offered.{what_asked}
use Rattle.nizwarf_tree.specs.Served.{RowInC}

-- a message that came to 0 was answered
pub answered_as : (old : ServerState State) (request : List ℕ) (total : ℕ) (number : ℤ) (len : ℕ)
    (room : List ℕ) (shown : ℕ) (new : ServerState State)
    → Answered old request total number len room shown new → number ≡ ok
    → AnsweredAs (what_asked old.limits request) old request total number len room shown new
answered_as old request total number len room shown new (inl t) answered = t
answered_as old request total number len room shown new (inr r) answered =
    absurd (refused r.why)
  where
    refused : (number ≡ no_memory) ⊎ ((number ≡ too_long) × (2 ^ 64 ≤ length request)) → ⊥
    refused (inl is) = cc (is, answered)
    refused (inr is) = cc (is.0, answered)

-- what a message added, which asked this by the rows
pub record Adds (w : What) (old : ServerState State) (request : List ℕ) (new : ServerState State) : Type 0 where
  pub more : List (Moment State)
  pub are : AreAdded w request more
  pub extends : Extends old more new
  pub same_limits : new.limits ≡ old.limits

module _ (old : ServerState State) (total : ℕ) (number : ℤ) (len : ℕ) (room : List ℕ) (shown : ℕ)
    (new : ServerState State) where
  turn_limits : (request : List ℕ) → Turned old request total number len room shown new → new.limits ≡ old.limits
  turn_limits request x =
      let h : IsHistory Allows Gives old (Handled x.t ∷ []) new = x.extends old [] refl in
      ap (λ (s : ServerState State). s.limits) h.2 ∙ h.1.same_limits

  row_added : (request : List ℕ) → RowInC old request total number len room shown new → Extends old [] new
  row_added request x = λ first moments h.
      subst (λ (l : List (Moment State)). IsHistory Allows Gives first l new) (sym (append-nil moments))
      (subst (λ (s : ServerState State). IsHistory Allows Gives first moments s) (sym x.same) h)

  row_limits_are : (request : List ℕ) → RowInC old request total number len room shown new
      → new.limits ≡ old.limits
  row_limits_are request x = ap (λ (s : ServerState State). s.limits) x.same

  pub adds : (w : What) (request : List ℕ) → AnsweredAs w old request total number len room shown new
      → Adds w old request new
  adds Ordinary request x = record {
    more = Handled x.t ∷ [];
    are = (x.t, refl, x.asked);
    extends = x.extends;
    same_limits = turn_limits request x;
  }
  adds Unnamed request x = record {
    more = Handled x.t ∷ [];
    are = (x.t, refl, x.asked);
    extends = x.extends;
    same_limits = turn_limits (as_create request) x;
  }
  adds Short request x = record {
    more = [];
    are = refl;
    extends = row_added request x;
    same_limits = row_limits_are request x;
  }
  adds (Row told) request x = record {
    more = [];
    are = refl;
    extends = row_added request x;
    same_limits = row_limits_are request x;
  }

both : HistoriesKeepBooks Allows Gives → (first s1 s2 s3 s4 : ServerState State) (q1 q2 : List ℕ)
    → Told first 1 0 s1 → Adds (what_asked s1.limits q1) s1 q1 s2 → Told s2 2 0 s3
    → Adds (what_asked s3.limits q2) s3 q2 s4 → s1.limits ≡ first.limits → s3.limits ≡ s2.limits
    → HandlesTwo first q1 q2 s4
both keep first s1 s2 s3 s4 q1 q2 one x two y same1 same3 =
    let m1 : List (Moment State) = Changed first.fs (at_time first.fs 1 0) ∷ [] in
    let m3 : List (Moment State) = Changed s2.fs (at_time s2.fs 2 0) ∷ [] in
    let h1 : IsHistory Allows Gives first m1 s1 = one first [] refl in
    let h2 : IsHistory Allows Gives first (m1 ++ x.more) s2 = x.extends first m1 h1 in
    let h3 : IsHistory Allows Gives first ((m1 ++ x.more) ++ m3) s3 = two first (m1 ++ x.more) h2 in
    let h4 : IsHistory Allows Gives first (((m1 ++ x.more) ++ m3) ++ y.more) s4 =
    y.extends first ((m1 ++ x.more) ++ m3) h3 in
    let same : s3.limits ≡ first.limits = same3 ∙ x.same_limits ∙ same1 in
    record {
      a = x.more;
      b = y.more;
      between = s2.fs;
      asked_first = subst (λ (l : Limits). AreAdded (what_asked l q1) q1 x.more) same1 x.are;
      asked_then = subst (λ (l : Limits). AreAdded (what_asked l q2) q2 y.more) same y.are;
      moments = ((m1 ++ x.more) ++ m3) ++ y.more;
      are = refl;
      history = h4;
      books = keep first s4 (((m1 ++ x.more) ++ m3) ++ y.more) h4;
    }

-- telling the time leaves the limits
told_limits : (old : ServerState State) (seconds nanoseconds : ℕ) (new : ServerState State)
    → Told old seconds nanoseconds new → new.limits ≡ old.limits
told_limits old seconds nanoseconds new told =
    ap (λ (s : ServerState State). s.limits) (told old [] refl).1

module _ {A : Type 0} (server : A → ServerState State) (left : A → List ℕ) (shown : A → ℕ)
    (keep : HistoriesKeepBooks Allows Gives) (first : ServerState State) (q1 q2 : List ℕ)
    (n1 n2 : ℤ) (l1 l2 : ℕ) where
  pub in_a_row : (a b c d e : Option A)
      → MatchOption a ⊥ (λ s. (server s ≡ first) × (shown s ≡ 0))
      → IfSome a (λ s. MatchOption b ⊥ (λ t. Told (server s) 1 0 (server t)))
      → IfSome b (λ s. MatchOption c ⊥ (λ t.
      Answered (server s) q1 4096 n1 l1 (left t) (shown t) (server t)))
      → IfSome c (λ s. MatchOption d ⊥ (λ t. Told (server s) 2 0 (server t)))
      → IfSome d (λ s. MatchOption e ⊥ (λ t.
      Answered (server s) q2 4096 n2 l2 (left t) (shown t) (server t)))
      → n1 ≡ ok → n2 ≡ ok → MatchOption e ⊥ (λ t. HandlesTwo first q1 q2 (server t))
  in_a_row None b c d e made one x two y is1 is2 = absurd made
  in_a_row (Some s) None c d e made one x two y is1 is2 = absurd one
  in_a_row (Some s) (Some t) None d e made one x two y is1 is2 = absurd x
  in_a_row (Some s) (Some t) (Some u) None e made one x two y is1 is2 = absurd two
  in_a_row (Some s) (Some t) (Some u) (Some v) None made one x two y is1 is2 = absurd y
  in_a_row (Some s) (Some t) (Some u) (Some v) (Some w) made one x two y is1 is2 =
      let told : Told first 1 0 (server t) = subst (λ (z : ServerState State). Told z 1 0 (server t)) made.0 one in
      both keep first (server t) (server u) (server v) (server w) q1 q2 told
      (adds (server t) 4096 n1 l1 (left u) (shown u) (server u) (what_asked (server t).limits q1) q1
      (answered_as (server t) q1 4096 n1 l1 (left u) (shown u) (server u) x is1)) two
      (adds (server v) 4096 n2 l2 (left w) (shown w) (server w) (what_asked (server v).limits q2) q2
      (answered_as (server v) q2 4096 n2 l2 (left w) (shown w) (server w) y is2))
      (told_limits first 1 0 (server t) told) (told_limits (server u) 2 0 (server v) two)
