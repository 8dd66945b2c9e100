-- What small callers cite of the books: the sums of literal bytes and events.
use Rattle.std.proofs.Common.{◌≡◌, ◌≤◌, ◌+◌, ℕ, zero, suc, List, [], ◌∷◌, ◌++◌, Option, Some, Result, Ok, take, refl, ap, ◌∙◌, arith}
use Rattle.std.proofs.lemmas.List.{take_all}
use Rattle.std.proofs.lemmas.List.Sums.{sum_by-cons}
use Rattle.vfs_flags.specs.Numbers.{opcode_of}
use Rattle.vfs_flags.specs.declared.opcode.Opcode.{Opcode}
use Rattle.vfs_wire.specs.Fields.{number}
use Rattle.vfs_files.specs.Calls.{Call, Found}
use Rattle.vfs_files.specs.Runs.{Called}
use Rattle.vfs_files.specs.declared.entry.Entry.{Entry}
use Rattle.vfs_grammar.specs.Words.{u64_at, GivesBackWithin}
use Rattle.vfs_grammar.specs.Turn.{Turn}
use Rattle.vfs_grammar.specs.declared.error.Error.{Error}
use Rattle.vfs_grammar.specs.Books.{times, opcode_in, nodes_after, delivered, delivered_by, accepted, accepted_by, answered, sent}
use Rattle.vfs_grammar.specs.Samples.{reply_of_node_5, batch_of_two}

-- the books of a node balance over one turn
abbrev Balances : (n : ℕ) → Turn → Type 0
Balances n t = answered n t.events + accepted n t ≡ delivered n t + sent n t.events

-- a whole reply accepts nothing
accepted_of_whole : (n : ℕ) (t : Turn) → t.outcome ≡ Ok 144 → accepted n t ≡ 0
accepted_of_whole n t whole = ap (λ (r : Result ℕ Error). accepted_by n t.request r) whole

-- an entry of node 5 that was answered by one call, and replied
pub delivers_once : (t : Turn) (call : Call) (entry : Entry) → Balances 5 t
    → t.events ≡ Called call (Found entry) ∷ [] → answered 5 (Called call (Found entry) ∷ []) ≡ times 5 (entry.inode ∷ [])
    → sent 5 (Called call (Found entry) ∷ []) ≡ 0 → entry.inode ≡ 5 → t.outcome ≡ Ok 144 → delivered 5 t ≡ 1
delivers_once t call entry books called counted none five whole =
    let a : answered 5 t.events ≡ 1 = ap (answered 5) called ∙ counted ∙ ap (λ (k : ℕ). times 5 (k ∷ [])) five in
    let s : sent 5 t.events ≡ 0 = ap (sent 5) called ∙ none in
    let g = accepted_of_whole 5 t whole in
    omega (arith, books, a, s, g)

-- what a reply with an entry of node 5 delivers, by the opcode of its request
reply_delivers : (opcode : Option Opcode) (following : List ℕ)
    → ((reply : List ℕ) → nodes_after opcode reply ≡ u64_at 16 reply ∷ [])
    → delivered_by 5 opcode (Ok 144) (reply_of_node_5 ++ following) ≡ 1
unfolding number
reply_delivers opcode following has = ap (times 5) (has (take 144 (reply_of_node_5 ++ following)))

-- such a reply was answered by the file system
pub reply_was_answered : (t : Turn) (opcode : Opcode) (following : List ℕ) → Balances 5 t
    → opcode_in t.request ≡ Some opcode → ((reply : List ℕ) → nodes_after (Some opcode) reply ≡ u64_at 16 reply ∷ [])
    → t.outcome ≡ Ok 144 → t.room_after ≡ reply_of_node_5 ++ following → 1 ≤ answered 5 t.events
reply_was_answered t opcode following books asked has whole room =
    let d : delivered 5 t ≡ 1 =
    ap (λ (o : Option Opcode). delivered_by 5 o t.outcome t.room_after) asked
    ∙ ap (λ (r : Result ℕ Error). delivered_by 5 (Some opcode) r t.room_after) whole
    ∙ ap (λ (bytes : List ℕ). delivered_by 5 (Some opcode) (Ok 144) bytes) room
    ∙ reply_delivers (Some opcode) following has in
    let g = accepted_of_whole 5 t whole in
    omega (arith, books, d, g)

-- ---- a batch

batch_accepts_5 : accepted_by 5 batch_of_two (Ok 0) ≡ 1
unfolding number opcode_of
batch_accepts_5 = refl

batch_accepts_7 : accepted_by 7 batch_of_two (Ok 0) ≡ 3
unfolding number opcode_of
batch_accepts_7 = refl

accepts_by : (n m : ℕ) (t : Turn) → accepted_by n batch_of_two (Ok 0) ≡ m → t.request ≡ batch_of_two → t.outcome ≡ Ok 0
    → accepted n t ≡ m
accepts_by n m t is asked done =
    ap (λ (q : List ℕ). accepted_by n q t.outcome) asked ∙ ap (λ (r : Result ℕ Error). accepted_by n batch_of_two r) done ∙ is

-- as many of node 7 are sent as the bytes say
pub sends_what_they_say : (t : Turn) → Balances 7 t → t.request ≡ batch_of_two → t.outcome ≡ Ok 0
    → sent 7 t.events ≡ answered 7 t.events + 3
sends_what_they_say t books asked done =
    let g = accepts_by 7 3 t batch_accepts_7 asked done in
    let d : delivered 7 t ≡ 0 = ap (λ (r : Result ℕ Error). delivered_by 7 (opcode_in t.request) r t.room_after) done in
    omega (arith, books, g, d)

-- a client that was delivered node 5 once may give it back once
pub gives_back : (looked gave : Turn) → delivered 5 looked ≡ 1 → looked.outcome ≡ Ok 144
    → gave.request ≡ batch_of_two → gave.outcome ≡ Ok 0 → GivesBackWithin 5 (looked ∷ gave ∷ [])
gives_back looked gave once whole asked done zero = omega arith
gives_back looked gave once whole asked done (suc zero) =
    let a = sum_by-cons (accepted 5) looked [] in
    let none = accepted_of_whole 5 looked whole in
    omega (arith, a, none)
gives_back looked gave once whole asked done (suc (suc k)) =
    let all : take k [] ≡ [] = take_all {A = Turn} k [] (omega arith) in
    let a = sum_by-cons (accepted 5) looked (gave ∷ []) in
    let b = sum_by-cons (accepted 5) gave [] in
    let d = sum_by-cons (delivered 5) looked (gave ∷ []) in
    let none = accepted_of_whole 5 looked whole in
    let one = accepts_by 5 1 gave batch_accepts_5 asked done in
    rw all (omega (arith, a, b, d, none, one, once))
