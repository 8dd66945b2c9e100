-- What a LOOKUP and a FORGET that are written out deliver and accept.
use Rattle.std.proofs.Common.{◌≡◌, ◌≢◌, ℕ, zero, suc, List, [], ◌∷◌, ◌++◌, Result, Ok, take, refl, ap, ◌∙◌, arith}
use Rattle.std.proofs.lemmas.List.{take_all}
use Rattle.std.proofs.lemmas.List.Sums.{sum_by-cons}
use Rattle.vfs_flags.specs.Numbers.{opcode_of}
use Rattle.vfs_wire.specs.Fields.{number}
use Rattle.vfs_grammar.specs.Books.{opcode_in, delivered, delivered_by, accepted, accepted_by}
use Rattle.vfs_grammar.specs.Words.{GivesBackWithin}
use Rattle.vfs_grammar.specs.Samples.{lookup_of_a, reply_of_node_5}
use Rattle.vfs_grammar.specs.Turn.{Turn}
use Rattle.vfs_grammar.specs.declared.error.Error.{Error}
use Rattle.laws_history.specs.Calls.{forget_of_5}

-- a client that was delivered a node once may give it back once in the next turn
pub gives_back : (n : ℕ) (looked gave : Turn) → delivered n looked ≡ 1 → accepted n looked ≡ 0
    → accepted n gave ≡ 1 → GivesBackWithin n (looked ∷ gave ∷ [])
gives_back n looked gave once none one zero = omega arith
gives_back n looked gave once none one (suc zero) =
    omega (arith, sum_by-cons (accepted n) looked [], none)
gives_back n looked gave once none one (suc (suc k)) =
    let all : take k [] ≡ [] = take_all {A = Turn} k [] (omega arith) in
    let a = sum_by-cons (accepted n) looked (gave ∷ []) in
    let b = sum_by-cons (accepted n) gave [] in
    let d = sum_by-cons (delivered n) looked (gave ∷ []) in
    rw all (omega (arith, a, b, d, none, one, once))

-- a reply with bytes accepts nothing
pub accepted-replied : (n : ℕ) (t : Turn) → t.outcome ≡ Ok 144 → accepted n t ≡ 0
accepted-replied n t whole = ap (λ (r : Result ℕ Error). accepted_by n t.request r) whole

pub is_some : (n m : ℕ) → n ≡ suc m → n ≢ 0
is_some n m is = λ none. omega (arith, none, is)

-- ---- node 5

delivered-reply : (following : List ℕ)
    → delivered_by 5 (opcode_in lookup_of_a) (Ok 144) (reply_of_node_5 ++ following) ≡ 1
unfolding number opcode_of
delivered-reply following = refl

pub delivered-lookup : (t : Turn) (following : List ℕ) → t.request ≡ lookup_of_a
    → t.outcome ≡ Ok 144 → t.room_after ≡ reply_of_node_5 ++ following → delivered 5 t ≡ 1
delivered-lookup t following asked whole room =
    ap (λ (q : List ℕ). delivered_by 5 (opcode_in q) t.outcome t.room_after) asked
    ∙ ap (λ (r : Result ℕ Error). delivered_by 5 (opcode_in lookup_of_a) r t.room_after) whole
    ∙ ap (λ (bytes : List ℕ). delivered_by 5 (opcode_in lookup_of_a) (Ok 144) bytes) room
    ∙ delivered-reply following

accepted-bytes : accepted_by 5 forget_of_5 (Ok 0) ≡ 1
unfolding number opcode_of
accepted-bytes = refl

pub accepted-forget : (t : Turn) → t.request ≡ forget_of_5 → t.outcome ≡ Ok 0 → accepted 5 t ≡ 1
accepted-forget t asked done =
    ap (λ (q : List ℕ). accepted_by 5 q t.outcome) asked
    ∙ ap (λ (r : Result ℕ Error). accepted_by 5 forget_of_5 r) done ∙ accepted-bytes
