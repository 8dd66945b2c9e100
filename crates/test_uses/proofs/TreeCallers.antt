-- What the laws of a tree say of one LOOKUP, and of a session of one DESTROY.
use Rattle.std.proofs.Common.{◌≡◌, ◌≢◌, ◌≤◌, ◌<◌, ◌+◌, ◌∙◌, ℕ, zero, suc, Bool, true, false, List, [], ◌∷◌, length, take, sum_by, nat_lt, Option, Some, None, IfSome, IsSome, Result, Ok, Err, IfOk, ◌==◌, eq-eqb, ap, arith, subst, refl}
use Rattle.std.proofs.lemmas.Bool.Decides.{nat_tests}
use Rattle.vfs_flags.specs.Numbers.{opcode_of}
use Rattle.vfs_wire.specs.Fields.{number, value_of}
use Rattle.vfs_wire.specs.Records.{in_header}
use Rattle.vfs_segments.specs.Unread.{Unread}
use Rattle.vfs_segments.specs.Written.{Written}
use Rattle.vfs_files.specs.Calls.{Destroy, Lookup, entry_answer}
use Rattle.vfs_files.specs.declared.entry.Context.{Context}
use Rattle.vfs_files.specs.declared.entry.Entry.{Entry}
use Rattle.vfs_grammar.specs.Ask.{ask}
use Rattle.vfs_grammar.specs.Books.{accepted, delivered}
use Rattle.vfs_grammar.specs.Words.{GivesBackWithin}
use Rattle.vfs_grammar.specs.Forms.{Ask, Asks, within}
use Rattle.vfs_grammar.specs.Limits.{max_len}
use Rattle.vfs_grammar.specs.Reply.{echo_of}
use Rattle.vfs_grammar.specs.Turn.{Turn, IsTurn, Follows}
use Rattle.vfs_grammar.specs.declared.limits.Limits.{Limits}
use Rattle.vfs_server.specs.Session.{AreServed}
use Rattle.fs_nodes.specs.declared.node.Node.{Node}
use Rattle.fs_tree.specs.State.{State, node_at}
use Rattle.laws_tree.specs.Laws.{CountsLookups, lookups_of, names_of}
use Rattle.laws_tree.specs.Runs.{ends_client, held_by_last, last_turns, KeepsTree, LeavesNone, GivesAllBack}
use Rattle.test_uses.specs.declared.tree_laws.TheConstants.{DESTROY}

ask-destroy : (limits : Limits) (options room : ℕ)
    → ask limits options room DESTROY ≡ Asks (echo_of (value_of in_header DESTROY)) Destroy
unfolding number opcode_of
ask-destroy limits options room =
    let in_limit : nat_lt (max_len limits) 40 ≡ false = grind (arith, nat_tests) in
    ap (λ (above : Bool).
    within above (value_of in_header DESTROY) (Asks (echo_of (value_of in_header DESTROY)) Destroy))
    in_limit

-- its turn takes every lookup back
turn-destroy : (limits : Limits) (options : ℕ) (t : Turn) (after : ℕ)
    → IsTurn limits options t after → t.request ≡ DESTROY → ends_client t ≡ true
turn-destroy limits options t after s request =
    let P : Ask → Type 0 = λ a. Follows t limits options a after in
    let asks : ask limits options (length t.room) t.request
    ≡ Asks (echo_of (value_of in_header DESTROY)) Destroy =
    ap (λ (b : List ℕ). ask limits options (length t.room) b) request
    ∙ ask-destroy limits options (length t.room) in
    let f = subst P asks s in
    rw f.1 refl

-- the one turn of a session of one request
record One (limits : Limits) (options : ℕ) (reader : Unread) (turns : List Turn) : Type 0 where
  t : Turn
  after : ℕ
  turns_are : turns ≡ t ∷ []
  is_turn : IsTurn limits options t after
  request : t.request ≡ reader.left

one_turn : (limits : Limits) (options : ℕ) (reader : Unread) (writers : List Written)
    (turns : List Turn) (news : List Written) (after : ℕ)
    → AreServed limits options (reader ∷ []) writers turns news after
    → One limits options reader turns
one_turn limits options reader (w ∷ []) (t ∷ []) (n ∷ []) after s =
    record { t = t; after = s.0; turns_are = refl; is_turn = s.1.turn; request = s.1.request }
one_turn limits options reader [] turns news after s = absurd s
one_turn limits options reader (w ∷ ws) [] news after s = absurd s
one_turn limits options reader (w ∷ ws) (t ∷ ts) [] after s = absurd s
one_turn limits options reader (w ∷ v ∷ ws) (t ∷ ts) (n ∷ ns) after s = absurd s.2
one_turn limits options reader (w ∷ []) (t ∷ u ∷ ts) (n ∷ ns) after s = absurd s.2
one_turn limits options reader (w ∷ []) (t ∷ []) (n ∷ m ∷ ns) after s = absurd s.2

-- what is there has a name
named : (o : Option Node) → (IsSome o → 0 < names_of o) → IfSome o (λ node. 0 < node.names)
named None has = tt
named (Some node) has = has refl

-- what is seen of the tree
pub record Freed (new : State) : Type 0 where
  pub lookups : (n : ℕ) → n ≢ 0 → lookups_of new n ≡ 0
  pub names : (n : ℕ) → n ≢ 0 → IfSome (node_at new n) (λ node. 0 < node.names)
  pub bytes : new.used ≤ new.limits.bytes

within_nothing : (n k : ℕ)
    → sum_by (accepted n) (take k []) ≤ sum_by (delivered n) (take k [])
within_nothing n zero = omega arith
within_nothing n (suc k) = omega arith

freed : (old new : State) (t : Turn) → ends_client t ≡ true → KeepsTree old (t ∷ []) new
    → LeavesNone old (t ∷ []) new → Freed new
freed old new t ends keeps none =
    let last : last_turns (t ∷ []) ≡ [] = rw ends refl in
    let held : (n : ℕ) → held_by_last old (t ∷ []) n ≡ 0 = λ n. rw ends refl in
    let within : (n : ℕ) → GivesBackWithin n (last_turns (t ∷ [])) = λ n.
    rw last (within_nothing n) in
    let counts : (n : ℕ) → n ≢ 0 → lookups_of new n + sum_by (accepted n) []
    ≡ held_by_last old (t ∷ []) n + sum_by (delivered n) [] = λ n some.
    rw last at (keeps.lookups n some (within n)) in
    let client : (n : ℕ) → GivesAllBack old (t ∷ []) n = λ n.
    record { nothing = held n; within = within n; all = rw last refl } in
    record {
      lookups = λ n some. omega (arith, counts n some, held n);
      names = λ n some. named (node_at new n) (none n some (client n));
      bytes = keeps.tree.within.bytes;
    }

pub session_freed : (old new : State) (limits : Limits) (options : ℕ) (reader : Unread)
    (writers : List Written) (turns : List Turn) (news : List Written) (after : ℕ)
    → AreServed limits options (reader ∷ []) writers turns news after → reader.left ≡ DESTROY
    → KeepsTree old turns new → LeavesNone old turns new → Freed new
session_freed old new limits options reader writers turns news after served request keeps none =
    let o = one_turn limits options reader writers turns news after served in
    let ends = turn-destroy limits options o.t o.after o.is_turn (o.request ∙ request) in
    freed old new o.t ends (subst (λ (ts : List Turn). KeepsTree old ts new) o.turns_are keeps)
    (subst (λ (ts : List Turn). LeavesNone old ts new) o.turns_are none)

-- a LOOKUP that answers an entry counts one lookup more of its node
pub one_more : (old new : State) (ctx : Context) (parent : ℕ) (name : List ℕ)
    (result : Result Entry (Option ℕ))
    → CountsLookups old (Lookup ctx parent name) (entry_answer result) new
    → IfOk result (λ entry. lookups_of new entry.inode ≡ lookups_of old entry.inode + 1)
one_more old new ctx parent name (Ok entry) counts =
    let same : (entry.inode == entry.inode) ≡ true = eq-eqb entry.inode entry.inode refl in
    let more = rw same at (counts entry.inode (omega arith)) in
    omega (arith, more)
one_more old new ctx parent name (Err fault) counts = tt
