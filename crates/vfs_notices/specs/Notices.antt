-- Notices: what a server tells a client unasked, as bytes. Each is a reply's header, whose `unique` is 0 and
-- whose `error` is the notice's number, then a record, and a name where it has one.
use Rattle.std.specs.Prelude.{◌≡◌, ◌≤◌, ◌<◌, ◌+◌, ◌*◌, ◌^◌, ◌⊎◌, ℕ, ℤ, pos, List, [], ◌∷◌, ◌++◌, length, drop, sum}
use Rattle.vfs_wire.specs.Fields.{Table, bytes_of}
use Rattle.vfs_wire.specs.Records.{out_header}
use Rattle.vfs_wire_more.specs.Notifications.{notify_poll_wakeup_out, notify_inval_inode_out, notify_inval_entry_out, notify_delete_out, notify_store_out, notify_retrieve_out, notify_prune_out}
use Rattle.vfs_notices.specs.declared.numbers.notice.TheConstants as number

-- the bytes that a record has
abbrev pub size_of : {R : Type 0} → Table R → ℕ
size_of t = sum t.widths

-- the header of a notice of this number, of that many bytes in all
abbrev pub header : (number len : ℕ) → List ℕ
header number len = bytes_of out_header (record { len = len; error = pos number; unique = 0 })

-- a notice: its bytes, how many they are, and how many more follow them in the same write
pub record Notice : Type 0 where
  pub bytes : List ℕ
  pub size : ℕ
  pub more : ℕ

-- the notice of this number whose header is followed by these bytes, `size` of them, and then by that many
-- more: the header's `len` counts all
abbrev pub notice_of : (number : ℕ) → (body : List ℕ) → (size more : ℕ) → Notice
notice_of number body size more = record {
  bytes = header number (size_of out_header + (size + more)) ++ body;
  size = size_of out_header + size;
  more = more;
}

-- with this record alone
abbrev pub telling : {R : Type 0} → Table R → (number : ℕ) → R → (more : ℕ) → Notice
telling t number told more = notice_of number (bytes_of t told) (size_of t) more

-- with this record, a name, and a 0 that its length does not count
abbrev pub naming : {R : Type 0} → Table R → (number : ℕ) → R → (name : List ℕ) → Notice
naming t number told name =
    notice_of number (bytes_of t told ++ (name ++ 0 ∷ [])) (size_of t + (length name + 1)) 0

-- whoever polled with this number is to poll again
abbrev pub poll : (kh : ℕ) → Notice
poll kh = telling notify_poll_wakeup_out number.POLL (record { kh = kh }) 0

-- The attributes of a node are old, and its bytes from `offset` on: `len` of them, or all where that is not
-- above 0; none where `offset` is below 0.
abbrev pub inval_inode : (node : ℕ) → (offset len : ℤ) → Notice
inval_inode node offset len =
    telling notify_inval_inode_out number.INVAL_INODE
    (record { ino = node; off = offset; len = len }) 0

-- a name in a directory is old
abbrev pub inval_entry : (parent flags : ℕ) → (name : List ℕ) → Notice
inval_entry parent flags name =
    naming notify_inval_entry_out number.INVAL_ENTRY
    (record { parent = parent; namelen = length name; flags = flags }) name

-- what follows are bytes of a node, from `offset` on
abbrev pub store : (node offset size : ℕ) → Notice
store node offset size =
    telling notify_store_out number.STORE
    (record { nodeid = node; offset = offset; size = size; padding = 0 }) size

-- bytes of a node are wanted, which come by a NOTIFY_REPLY with this number
abbrev pub retrieve : (unique node offset size : ℕ) → Notice
retrieve unique node offset size =
    telling notify_retrieve_out number.RETRIEVE
    (record {
      notify_unique = unique;
      nodeid = node;
      offset = offset;
      size = size;
      padding = 0;
    }) 0

-- a name in a directory, which was that of the node `child`, is gone
abbrev pub delete : (parent child : ℕ) → (name : List ℕ) → Notice
delete parent child name =
    naming notify_delete_out number.DELETE
    (record { parent = parent; child = child; namelen = length name; padding = 0 }) name

-- each request that has no reply yet is to be sent again
abbrev pub resend : Notice
resend = notice_of number.RESEND [] 0 0

-- each name that is kept is to be looked up again at its next use
abbrev pub inc_epoch : Notice
inc_epoch = notice_of number.INC_EPOCH [] 0 0

-- the bytes of a node's number
abbrev pub node_size : ℕ
node_size = 8

-- what follows are the numbers of that many nodes, which are to be dropped if nothing uses them
abbrev pub prune : (count : ℕ) → Notice
prune count =
    telling notify_prune_out number.PRUNE
    (record { count = count; padding = 0; spare = 0 }) (count * node_size)

-- it is no longer than a header can tell, whose `len` has 32 bits
abbrev pub HasLength : Notice → Type 0
HasLength n = n.size + n.more < 2 ^ 32

-- It was put over the first bytes of a piece, and its size answered; or it has no room there, or no length
-- that can be told, and nothing was put.
abbrev pub IsPut : Notice → (old : List ℕ) → (result : ℕ) → (new : List ℕ) → Type 0
IsPut n old result new =
    (HasLength n × (n.size ≤ length old) × (result ≡ n.size) × (new ≡ n.bytes ++ drop n.size old))
    ⊎ (((length old < n.size) ⊎ (HasLength n → ⊥)) × (result ≡ 0) × (new ≡ old))
