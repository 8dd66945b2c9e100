-- What is said of the answer of a call, by the kind of the call, as the books see it.
use Rattle.std.proofs.Common.{◌≡◌, ◌<◌, ◌^◌, ℕ, Bool, true, false, List, [], ◌∷◌, ◌++◌, Option, Some, None, refl, ap, sym, arith}
use Rattle.vfs_wire.specs.Fields.{little, number, bytes_of}
use Rattle.vfs_wire.specs.FieldLaws.{number-little}
use Rattle.vfs_wire.specs.Records.{entry_out, init_out}
use Rattle.vfs_wire_more.specs.Records.{open_out}
use Rattle.vfs_files.specs.declared.entry.Entry.{Entry}
use Rattle.vfs_files.specs.Values.{entry_out_of}
use Rattle.vfs_files.specs.Answers.{Kind, Quiet, Untold, Agreements, Entries, Creations, Answer, Done, Failed, Found, Created, IsAnswer, IsFault, FitsEntry}
use Rattle.vfs_files.specs.Calls.{Call, Lookup, Symlink, Mknod, Mkdir, Link, Create, Forget, BatchForget, Destroy, kind_of}
use Rattle.vfs_grammar.specs.Reply.{Echo, body_of, init_out_of, open_out_of}
use Rattle.vfs_grammar.specs.Words.{fault_number}
use Rattle.vfs_grammar.specs.declared.limits.Limits.{Limits}
use Rattle.vfs_grammar.specs.Books.{entry_node, answered_nodes, forgets_of}

-- a fault; a body after a header; or nothing
pub data Saying : Type 0 where
  Fault : (fault : Option ℕ) → Saying
  Body : (body : List ℕ) → Saying
  Unsaid : Saying

-- a fault is said as one, and another answer by this body
abbrev pub said_as : (body : List ℕ) → Answer → Saying
said_as body (Failed fault) = Fault fault
said_as body _ = Body body

abbrev pub say : Limits → Echo → (options : ℕ) → Kind → Answer → Saying
say limits echo options Quiet answer = Unsaid
say limits echo options Untold Done = Unsaid
say limits echo options Agreements answer = said_as (bytes_of init_out (init_out_of limits echo.max_readahead options)) answer
say limits echo options _ answer = said_as (body_of answer) answer

-- whether the answer of a call has an entry
abbrev pub has_entry : Call → Bool
has_entry (Lookup _ _ _) = true
has_entry (Symlink _ _ _ _ _) = true
has_entry (Mknod _ _ _ _ _ _ _) = true
has_entry (Mkdir _ _ _ _ _ _) = true
has_entry (Link _ _ _ _) = true
has_entry (Create _ _ _ _ _ _ _ _) = true
has_entry _ = false

-- the node that a body begins with, where it begins with an entry
abbrev pub node_first : Bool → (body : List ℕ) → List ℕ
node_first true body = number 8 body ∷ []
node_first false body = []

-- the nodes of an answer, where it has an entry
entry_nodes : (entry : Bool) → Answer → List ℕ
entry_nodes true answer = entry_node answer
entry_nodes false answer = []

answered_nodes-by : (call : Call) (answer : Answer)
    → answered_nodes call answer ≡ entry_nodes (has_entry call) answer
unfolding entry_nodes
answered_nodes-by (Lookup _ _ _) answer = refl
answered_nodes-by _ answer = refl

-- the kinds whose answers have an entry
HasEntry : Kind → Type 0
HasEntry Entries = Unit {0}
HasEntry Creations = Unit {0}
HasEntry _ = ⊥

entry_kind : (call : Call) → has_entry call ≡ true → HasEntry (kind_of call)
unfolding HasEntry
entry_kind (Lookup _ _ _) e = tt
entry_kind (Symlink _ _ _ _ _) e = tt
entry_kind (Mknod _ _ _ _ _ _ _) e = tt
entry_kind (Mkdir _ _ _ _ _ _) e = tt
entry_kind (Link _ _ _ _) e = tt
entry_kind (Create _ _ _ _ _ _ _ _) e = tt
entry_kind _ e = cc

-- these are the nodes of an answer, of which this is said
abbrev pub NodesFit : (nodes : List ℕ) → (entry : Bool) → Saying → Type 0
NodesFit nodes entry (Body body) = nodes ≡ node_first entry body
NodesFit nodes entry _ = nodes ≡ []

-- the number that an entry's bytes begin with is its node
entry_first : (e : Entry) → FitsEntry e → number 8 (bytes_of entry_out (entry_out_of e)) ≡ e.inode
entry_first e fits = number-little 8 e.inode _ fits.0

entry_first-then : (e : Entry) (rest : List ℕ) → FitsEntry e → number 8 (bytes_of entry_out (entry_out_of e) ++ rest) ≡ e.inode
unfolding little
entry_first-then e rest fits = number-little 8 e.inode _ fits.0

entry_fits : (limits : Limits) (echo : Echo) (options : ℕ) (kind : Kind) (answer : Answer)
    → HasEntry kind → IsAnswer kind answer
    → NodesFit (entry_node answer) true (say limits echo options kind answer)
unfolding HasEntry
entry_fits limits echo options Entries (Found e) has fits =
    ap (λ (k : ℕ). k ∷ []) (sym (entry_first e fits))
entry_fits limits echo options Creations (Created e handle opened) has fits =
    ap (λ (k : ℕ). k ∷ [])
    (sym (entry_first-then e (bytes_of open_out (open_out_of handle opened)) fits.0))
entry_fits limits echo options Entries (Failed fault) has fits = refl
entry_fits limits echo options Creations (Failed fault) has fits = refl
entry_fits limits echo options Entries _ has fits = absurd fits
entry_fits limits echo options Creations _ has fits = absurd fits
entry_fits limits echo options _ answer has fits = absurd has

-- where there is no entry, nothing that is said has a node
no_entry_fits : (s : Saying) → NodesFit [] false s
no_entry_fits (Fault fault) = refl
no_entry_fits (Body body) = refl
no_entry_fits Unsaid = refl

nodes_by_kind : (limits : Limits) (echo : Echo) (options : ℕ) (entry : Bool) (kind : Kind)
    (answer : Answer) → (entry ≡ true → HasEntry kind) → IsAnswer kind answer
    → NodesFit (entry_nodes entry answer) entry (say limits echo options kind answer)
unfolding entry_nodes
nodes_by_kind limits echo options true kind answer has fits =
    entry_fits limits echo options kind answer (has refl) fits
nodes_by_kind limits echo options false kind answer has fits =
    no_entry_fits (say limits echo options kind answer)

pub nodes_fit : (limits : Limits) (echo : Echo) (options : ℕ) (call : Call) (answer : Answer)
    → IsAnswer (kind_of call) answer
    → NodesFit (answered_nodes call answer) (has_entry call)
    (say limits echo options (kind_of call) answer)
nodes_fit limits echo options call answer fits =
    rw (answered_nodes-by call answer)
    (nodes_by_kind limits echo options (has_entry call) (kind_of call) answer (entry_kind call) fits)

-- a fault that is said has a number that a header can say
abbrev pub FaultFits : Saying → Type 0
FaultFits (Fault fault) = (0 < fault_number fault) × (fault_number fault < 2 ^ 31)
FaultFits _ = Unit {0}

fault_number_fits : (fault : Option ℕ) → IsFault fault → (0 < fault_number fault) × (fault_number fault < 2 ^ 31)
fault_number_fits None fits = (omega arith, omega arith)
fault_number_fits (Some number) fits = fits

pub fault_fits : (limits : Limits) (echo : Echo) (options : ℕ) (kind : Kind) (answer : Answer) → IsAnswer kind answer
    → FaultFits (say limits echo options kind answer)
fault_fits limits echo options Quiet (Failed fault) fits = tt
fault_fits limits echo options _ (Failed fault) fits = fault_number_fits fault fits
fault_fits limits echo options _ _ fits = tt

-- a call that gives back something is of a kind of which nothing is said
abbrev pub ForgetsFit : List (ℕ × ℕ) → Saying → Type 0
ForgetsFit forgets Unsaid = Unit {0}
ForgetsFit forgets _ = forgets ≡ []

-- a call of this kind gives back these: nothing, but where nothing is said of its answer
abbrev pub AreForgets : Kind → List (ℕ × ℕ) → Type 0
AreForgets Quiet forgets = Unit {0}
AreForgets _ forgets = forgets ≡ []

none_fit : (forgets : List (ℕ × ℕ)) (s : Saying) → forgets ≡ [] → ForgetsFit forgets s
none_fit forgets (Fault fault) none = none
none_fit forgets (Body body) none = none
none_fit forgets Unsaid none = tt

forgets_by_kind : (limits : Limits) (echo : Echo) (options : ℕ) (kind : Kind) (answer : Answer) (forgets : List (ℕ × ℕ)) → AreForgets kind forgets
    → ForgetsFit forgets (say limits echo options kind answer)
forgets_by_kind limits echo options Quiet answer forgets are = tt
forgets_by_kind limits echo options kind answer forgets are = none_fit forgets (say limits echo options kind answer) are

pub are_forgets : (call : Call) → AreForgets (kind_of call) (forgets_of call)
are_forgets (Forget _ _ _) = tt
are_forgets (BatchForget _ _) = tt
are_forgets Destroy = tt
are_forgets _ = refl

pub forgets_fit : (limits : Limits) (echo : Echo) (options : ℕ) (call : Call) (answer : Answer)
    → ForgetsFit (forgets_of call) (say limits echo options (kind_of call) answer)
forgets_fit limits echo options call answer = forgets_by_kind limits echo options (kind_of call) answer (forgets_of call) (are_forgets call)
