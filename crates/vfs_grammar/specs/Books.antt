-- The books of lookups and forgets. A file system counts how often it answered an entry of a node,
-- and a client gives these counts back by forgets. Four sums are kept of a node: two of the events
-- that happened, and two of the bytes that came and went. It leads to `KeepsBooks`.
use Rattle.std.specs.Prelude.{ℕ, ◌==◌, if◌then◌else◌, List, [], ◌∷◌, take, drop, sum_by, count_by, Option, Some, Result, Ok, Err, ◌≡◌, ◌≢◌, ◌≤◌, ◌+◌, ◌++◌}
use Rattle.vfs_flags.specs.Numbers.{opcode_of}
use Rattle.vfs_flags.specs.declared.opcode.Opcode.{Opcode}
use Rattle.vfs_files.specs.Calls.{Call, Lookup, Symlink, Mknod, Mkdir, Link, Create, Forget, BatchForget, Answer, Found, Created}
use Rattle.vfs_files.specs.Runs.{Event, Called}
use Rattle.vfs_wire.specs.Fields.{number, value_of}
use Rattle.vfs_wire.specs.Records.{in_header, out_header, entry_out, forget_in, batch_forget_in}
use Rattle.vfs_grammar.specs.Forms.{pairs_of}
use Rattle.vfs_grammar.specs.Nodes.{nodes_in}
use Rattle.vfs_grammar.specs.Records.{size_of}
use Rattle.vfs_grammar.specs.Turn.{Turn, events_in}
use Rattle.vfs_grammar.specs.declared.error.Error.{Error}
use Rattle.vfs_flags.specs.declared.opcode.Opcode.TheVariants as opcode

-- how often a node is in a list
abbrev pub times : (n : ℕ) → List ℕ → ℕ
times n nodes = count_by (λ node. node == n) nodes

-- the sum of the counts for a node, in pairs of a node and a count
abbrev pub forgotten : (n : ℕ) → List (ℕ × ℕ) → ℕ
forgotten n pairs = sum_by (λ pair. if pair.0 == n then pair.1 else 0) pairs

-- ---- events

-- the node of an answer's entry, a list of one, or of none where it has no entry. Node 0 too, which `node_answered` of
-- Turn leaves out, since that is for what is given back
abbrev pub entry_node : Answer → List ℕ
entry_node (Found entry) = entry.inode ∷ []
entry_node (Created entry handle opening) = entry.inode ∷ []
entry_node _ = []

-- the node of the entry that a call answered: of these six calls, and of no other
abbrev pub answered_nodes : Call → Answer → List ℕ
answered_nodes (Lookup _ _ _) answer = entry_node answer
answered_nodes (Symlink _ _ _ _ _) answer = entry_node answer
answered_nodes (Mknod _ _ _ _ _ _ _) answer = entry_node answer
answered_nodes (Mkdir _ _ _ _ _ _) answer = entry_node answer
answered_nodes (Link _ _ _ _) answer = entry_node answer
answered_nodes (Create _ _ _ _ _ _ _ _) answer = entry_node answer
answered_nodes _ answer = []

-- what a call gives back, as pairs of a node and a count: these two calls, and no other
abbrev pub forgets_of : Call → List (ℕ × ℕ)
forgets_of (Forget ctx inode count) = (inode, count) ∷ []
forgets_of (BatchForget ctx requests) = requests
forgets_of _ = []

-- the entries of a node in one event
abbrev pub answered_by : (n : ℕ) → Event → ℕ
answered_by n (Called call answer) = times n (answered_nodes call answer)
answered_by n _ = 0

-- the forgets of a node in one event
abbrev pub sent_by : (n : ℕ) → Event → ℕ
sent_by n (Called call answer) = forgotten n (forgets_of call)
sent_by n _ = 0

-- ---- bytes

-- the opcode that a request's bytes have
abbrev pub opcode_in : (request : List ℕ) → Option Opcode
opcode_in request = opcode_of (value_of in_header request).opcode

-- the node of the entry after the header of a reply
abbrev pub node_after : (reply : List ℕ) → ℕ
node_after reply = (value_of entry_out (drop (size_of out_header) reply)).nodeid

-- the nodes of the entries after the header of a reply, by its request's opcode
abbrev pub nodes_after : Option Opcode → (reply : List ℕ) → List ℕ
nodes_after (Some opcode.Lookup) reply = node_after reply ∷ []
nodes_after (Some opcode.Symlink) reply = node_after reply ∷ []
nodes_after (Some opcode.Mknod) reply = node_after reply ∷ []
nodes_after (Some opcode.Mkdir) reply = node_after reply ∷ []
nodes_after (Some opcode.Link) reply = node_after reply ∷ []
nodes_after (Some opcode.Create) reply = node_after reply ∷ []
nodes_after (Some opcode.Readdirplus) reply = nodes_in (drop (size_of out_header) reply)
nodes_after _ reply = []

-- the nodes that a reply delivers: none where its header says an error, in the four bytes from place
-- 4 on, after `len`
abbrev pub delivered_nodes : Option Opcode → (reply : List ℕ) → List ℕ
delivered_nodes opcode reply = if number 4 (drop 4 reply) == 0 then nodes_after opcode reply else []

-- what a request's bytes give back, by its opcode, as pairs of a node and a count
abbrev pub forgets_in : Option Opcode → (request : List ℕ) → List (ℕ × ℕ)
forgets_in (Some opcode.Forget) request = (
  (value_of in_header request).nodeid,
  (value_of forget_in (drop (size_of in_header) request)).nlookup,
) ∷ []
forgets_in (Some opcode.BatchForget) request =
    pairs_of (value_of batch_forget_in (drop (size_of in_header) request)).count
    (drop (size_of in_header + size_of batch_forget_in) request)
forgets_in _ request = []

-- how often a node is in the reply at the front of this room, as long as the outcome says:
-- never after an error or 0
abbrev pub delivered_by : (n : ℕ) → Option Opcode → Result ℕ Error → (room_after : List ℕ) → ℕ
delivered_by n opcode (Ok m) room_after =
    if m == 0 then 0 else times n (delivered_nodes opcode (take m room_after))
delivered_by n opcode (Err error) room_after = 0

-- the forgets of a node in a request's bytes, if its outcome is `Ok 0`: a FORGET or BATCH_FORGET that was
-- served has no reply, and one that is above a limit has a fault's
abbrev pub accepted_by : (n : ℕ) → (request : List ℕ) → Result ℕ Error → ℕ
accepted_by n request (Ok m) =
    if m == 0 then forgotten n (forgets_in (opcode_in request) request) else 0
accepted_by n request (Err error) = 0

-- ---- a turn

-- the entries of a node that were delivered to the client, in whole replies
abbrev pub delivered : (n : ℕ) → Turn → ℕ
delivered n t = delivered_by n (opcode_in t.request) t.outcome t.room_after

-- the forgets of a node that were accepted from the client
abbrev pub accepted : (n : ℕ) → Turn → ℕ
accepted n t = accepted_by n t.request t.outcome

-- The books of every node but 0 are kept over turns: they balance; and over any of these turns that
-- follow one another, as those from one INIT to the next, a client that after each turn has given
-- back no more than was delivered to it by them drives no count below zero, not even in the middle
-- of a request: after each event no more was sent back than was answered in these events.
pub record KeepsBooks (turns : List Turn) : Type 0 where
  pub balanced :
      (n : ℕ) → n ≢ 0
      → sum_by (answered_by n) (events_in turns) + sum_by (accepted n) turns
      ≡ sum_by (delivered n) turns + sum_by (sent_by n) (events_in turns)
  pub never_below :
      (before some after : List Turn) → turns ≡ before ++ (some ++ after) → (n : ℕ) → n ≢ 0
      → ((k : ℕ) → sum_by (accepted n) (take k some) ≤ sum_by (delivered n) (take k some))
      → (k : ℕ)
      → sum_by (sent_by n) (take k (events_in some)) ≤ sum_by (answered_by n) (take k (events_in some))

-- ---- no more is of the promise: the rest is for proofs, and for contracts of parts

-- the entries of a node that were answered
abbrev pub answered : (n : ℕ) → List Event → ℕ
answered n events = sum_by (answered_by n) events

-- the forgets of a node that were sent to the file system
abbrev pub sent : (n : ℕ) → List Event → ℕ
sent n events = sum_by (sent_by n) events
