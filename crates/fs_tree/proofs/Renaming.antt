-- How RENAME ends, by what its steps left.
use Rattle.std.proofs.Common.{◌≡◌, ◌==◌, ℕ, Bool, true, false, List, [], ◌∷◌, Option, Some, None, Result, Ok, Err, IsTrue, IfErr, OnOk, is_some, option_map, if◌then◌else◌, refl, sym, ap, ◌∙◌, subst, nat_le}
use Rattle.std.proofs.lemmas.Option.{same_Some}
use Rattle.std.specs.List.{AllByRecursion}
use Rattle.std.specs.Option.{option_map_or, option_or}
use Rattle.vfs_flags.specs.Numbers.{enomem}
use Rattle.vfs_files.specs.Calls.{Done, Plain, done_answer}
use Rattle.vfs_files.specs.declared.entry.Context.{Context}
use Rattle.fs_nodes.specs.declared.children.Child.{Child}
use Rattle.fs_nodes.specs.declared.node.Node.{Node}
use Rattle.fs_tree.specs.Outcome.{Tried, HandsBack, done, first_of, unless, with_it}
use Rattle.fs_tree.specs.Rename.{moved_into, renamed, whiteout}
use Rattle.fs_tree.specs.State.{State, lead, unnamed, with_new}

-- nothing is refused of which no line holds
pub none_of : (rs : List (Bool × ℕ)) → AllByRecursion (λ r. r.0 ≡ false) rs → first_of rs ≡ None
none_of [] all = refl
none_of (r ∷ rs) all =
    ap (λ t. if t then Some r.1 else first_of rs) all.0 ∙ none_of rs all.1

-- the steps one after another
module _ (s : State) (ctx : Context) (od : ℕ) (on : List ℕ) (nd : ℕ) (nn : List ℕ) (flags : ℕ)
    (target : Option Child) (child : Child) where
  pub renamed_by : (white : Option Node) (back : Option Child) (a b d e : State)
      → white ≡ (if nat_le 4 flags then Some (whiteout s ctx od) else None)
      → back ≡ (if flags == 2 then target
      else option_map (λ (node : Node). record { node = s.next; kind = node.kind }) white)
      → a ≡ lead (option_map_or (with_new s) white s) nd nn (is_some target) (Some child)
      → b ≡ lead a od on true back
      → d ≡ moved_into b child.node nd
      → e ≡ option_map_or
      (λ (old : Child). if flags == 2 then moved_into d old.node od else unnamed d old.node) target d
      → e ≡ renamed s ctx od on nd nn flags target child
  renamed_by white back a b d e white_is back_is a_is b_is d_is e_is =
      let Left : State → State = λ t. option_map_or
      (λ (old : Child). if flags == 2 then moved_into t old.node od else unnamed t old.node) target t in
      let Back : Option Node → Option Child = λ w. if flags == 2 then target
      else option_map (λ (node : Node). record { node = s.next; kind = node.kind }) w in
      let Named : Option Node → State = λ w.
      lead (option_map_or (with_new s) w s) nd nn (is_some target) (Some child) in
      let Laid : Option Node → State = λ w.
      moved_into (lead (Named w) od on true (Back w)) child.node nd in
      e_is
      ∙ ap Left (d_is ∙ ap (λ t. moved_into t child.node nd) (b_is
      ∙ ap (λ t. lead t od on true back) a_is ∙ ap (λ x. lead (Named white) od on true x) back_is)
      ∙ ap Laid white_is)

-- what was handed back then
module _ (s new : State) (child : Child) (target : Option Child) (needs : Bool) (last : Child → State)
    (result : Result (Unit {0}) (Option ℕ)) (ok : OnOk result (new ≡ last child))
    (err : IfErr result (λ fault. (fault ≡ Some enomem) × (new ≡ s) × IsTrue needs)) where
  tried : (r : Result (Unit {0}) (Option ℕ)) → OnOk r (new ≡ last child)
      → IfErr r (λ fault. (fault ≡ Some enomem) × (new ≡ s) × IsTrue needs)
      → HandsBack s (Tried needs (Plain Done) (last child)) (Plain (done_answer r)) new
  tried (Ok x) done failed = (refl, done)
  tried (Err fault) done failed = failed

  pub moved_ends : (a b r : Option ℕ) (moved : Option Child) (same : Bool) → a ≡ None → b ≡ None
      → r ≡ None → moved ≡ Some child → same ≡ false
      → HandsBack s
      (unless (option_or a (option_or b r)) (with_it moved (λ (x : Child).
      if same then done s else Tried needs (Plain Done) (last x))))
      (Plain (done_answer result)) new
  moved_ends None None None (Some x) false one two three is apart =
      subst
      (λ (y : Child). HandsBack s (Tried needs (Plain Done) (last y)) (Plain (done_answer result)) new)
      (sym (same_Some x child is)) (tried result ok err)
  moved_ends (Some e) b r moved same one two three is apart = cc one
  moved_ends None (Some e) r moved same one two three is apart = cc two
  moved_ends None None (Some e) moved same one two three is apart = cc three
  moved_ends None None None None same one two three is apart = cc is
  moved_ends None None None (Some x) true one two three is apart = cc apart
