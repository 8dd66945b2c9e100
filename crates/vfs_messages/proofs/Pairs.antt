-- Pairs of a node and a count that are copied one after another.
use Rattle.std.proofs.Common.{◌≡◌, ◌≤◌, ◌+◌, ◌*◌, ◌++◌, ◌∷◌, [], ℕ, zero, suc, List, false, nat_lt, Result, Ok, Err, IfOk, IfErr, length, take, drop, map, inr, arith, ap, sym, ◌∙◌, refl, append_assoc, length-drop, append-nil}
use Rattle.std.proofs.lemmas.Bool.Decides.{nat_tests}
use Rattle.std.proofs.lemmas.List.{drop-take}
use Rattle.std.specs.declared.vec.Vec.{Vec}
use Rattle.std.specs.declared.alloc.Global.{Global}
use Rattle.vfs_wire.specs.Fields.{value_of}
use Rattle.vfs_wire.specs.Records.{forget_one}
use Rattle.vfs_wire.specs.declared.entries.ForgetOne.{ForgetOne}
use Rattle.vfs_wire.specs.FieldLaws.{value_of-take}
use Rattle.vfs_grammar.specs.Forms.{pairs_in, pairs_of}
use Rattle.vfs_messages.specs.Parts.{GivesPairs}
use Rattle.vfs_grammar.specs.declared.error.Error.{Error}
use Rattle.vfs_grammar.specs.declared.error.Error.TheVariants.{OutOfMemory}

-- the pairs copied so far, and those of the bytes that are left, are all pairs
pub record Copied (done all : List (ℕ × ℕ)) (n : ℕ) (left : List ℕ) : Type 0 where
  pub so_far : done ++ pairs_of n left ≡ all
  pub room : n * 16 ≤ length left

-- nothing so far
pub copied_none : (all : List (ℕ × ℕ)) (count n : ℕ) (left : List ℕ) → n ≡ count → count * 16 ≤ length left → all ≡ pairs_of count left → Copied [] all n left
copied_none all count n left e room is = record { so_far = ap (λ (k : ℕ). pairs_of k left) e ∙ sym is; room = omega (arith, room, e) }

map-append : {A : Type 0} (f : A → ℕ × ℕ) (xs : List A) (y : A) → map f (xs ++ y ∷ []) ≡ map f xs ++ f y ∷ []
map-append f [] y = refl
map-append f (x ∷ xs) y = ap (λ (l : List (ℕ × ℕ)). f x ∷ l) (map-append f xs y)

-- one more
pub copied_one : {A : Type 0} (f : A → ℕ × ℕ) (old new : List A) (x : A) (one : ForgetOne) (all : List (ℕ × ℕ)) (n m : ℕ) (left rest : List ℕ) → new ≡ old ++ x ∷ [] → f x ≡ (one.nodeid, one.nlookup) → one ≡ value_of forget_one left → rest ≡ drop 16 left → n ≡ suc m
    → Copied (map f old) all n left → Copied (map f new) all m rest
copied_one f old new x one all n m left rest news pair is moved e c =
    let at : map f old ++ pairs_of (suc m) left ≡ all = ap (λ (k : ℕ). map f old ++ pairs_of k left) (sym e) ∙ c.so_far in
    let same : f x ≡ ((value_of forget_one left).nodeid, (value_of forget_one left).nlookup) = pair ∙ ap (λ (r : ForgetOne). (r.nodeid, r.nlookup)) is in
    let grown : map f new ≡ map f old ++ ((value_of forget_one left).nodeid, (value_of forget_one left).nlookup) ∷ [] = ap (map f) news ∙ map-append f old x ∙ ap (λ (p : ℕ × ℕ). map f old ++ p ∷ []) same in
    record {
      so_far = ap (λ (l : List (ℕ × ℕ)). l ++ pairs_of m rest) grown ∙ ap (λ (b : List ℕ). (map f old ++ ((value_of forget_one left).nodeid, (value_of forget_one left).nlookup) ∷ []) ++ pairs_of m b) moved
          ∙ append_assoc (map f old) (((value_of forget_one left).nodeid, (value_of forget_one left).nlookup) ∷ []) (pairs_of m (drop 16 left)) ∙ at;
      room = omega (arith, c.room, e, length-drop 16 left, ap (λ (b : List ℕ). length b) moved);
    }

-- all of them
pub copied_all : (done all : List (ℕ × ℕ)) (n : ℕ) (left : List ℕ) → n ≡ 0 → Copied done all n left → done ≡ all
copied_all done all n left e c = sym (append-nil done) ∙ ap (λ (k : ℕ). done ++ pairs_of k left) (sym e) ∙ c.so_far

-- pairs that are no more than the bytes have are those of the bytes that they take
pairs_of-take : (count : ℕ) (left : List ℕ) → count * 16 ≤ length left → pairs_of count (take (count * 16) left) ≡ pairs_of count left
pairs_of-take zero left h = refl
pairs_of-take (suc n) left h =
    let k : suc n * 16 ≡ 16 + n * 16 = omega arith in
    let front : value_of forget_one (take (suc n * 16) left) ≡ value_of forget_one left = value_of-take forget_one (suc n * 16) left (omega (arith, k)) in
    let back : drop 16 (take (suc n * 16) left) ≡ take (n * 16) (drop 16 left) = ap (λ (m : ℕ). drop 16 (take m left)) k ∙ drop-take 16 (n * 16) left in
    let rest = pairs_of-take n (drop 16 left) (omega (arith, h, k, length-drop 16 left)) in
    ap (λ (one : ForgetOne). (one.nodeid, one.nlookup) ∷ pairs_of n (drop 16 (take (suc n * 16) left))) front
    ∙ ap (λ (l : List (ℕ × ℕ)). ((value_of forget_one left).nodeid, (value_of forget_one left).nlookup) ∷ l) (ap (pairs_of n) back ∙ rest)

-- the pairs of the bytes that the list takes are those of the list, or memory was wanting
pub given_pairs : {I : Type 0} (value : I → ℕ) (r : Result (Vec (I × ℕ) Global) Error) (count : ℕ) (bytes left : List ℕ) →
    count * 16 ≤ length left → bytes ≡ take (count * 16) left →
    IfOk r (λ v. map (λ p. (value p.0, p.1)) v.items ≡ pairs_of count bytes) → IfErr r (λ e. e ≡ OutOfMemory) →
    GivesPairs value r (pairs_in count left)
given_pairs value (Ok v) count bytes left h e ok err =
    let test : nat_lt (length left) (count * 16) ≡ false = grind (arith, nat_tests) in
    rw test (ap Ok (sym (ok ∙ ap (pairs_of count) e ∙ pairs_of-take count left h)))
given_pairs value (Err x) count bytes left h e ok err =
    let test : nat_lt (length left) (count * 16) ≡ false = grind (arith, nat_tests) in
    inr (pairs_of count left, rw test refl, err)
