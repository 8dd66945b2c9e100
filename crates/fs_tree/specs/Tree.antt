-- How each call ends.
use Rattle.std.specs.Prelude.{ℕ, ◌==◌, ◌+◌, ◌-◌, ◌*◌, ◌/◌, ◌^◌, ◌||◌, ◌&&◌, nat_eq, nat_le, nat_lt, not, min, Bool, true, false, List, [], ◌∷◌, length, map, fold, take, bit_and, Option, Some, None, is_some, is_none, if◌then◌else◌}
use Rattle.std.specs.List.{list_any}
use Rattle.std.specs.Option.{option_map_or, option_or, unwrap_or}
use Rattle.vfs_flags.specs.Numbers.{eperm, enoent, eexist, enotdir, eisdir, einval, enospc, erange, enotempty, enodata, enosys, eoverflow, eopnotsupp, efbig, emlink, enodev, enxio}
use Rattle.vfs_files.specs.declared.entry.Context.{Context}
use Rattle.vfs_files.specs.declared.entry.Entry.{Entry}
use Rattle.vfs_files.specs.Values.{Item}
use Rattle.vfs_files.specs.Bytes.{part_of, most_put, fitting}
use Rattle.vfs_files.specs.Calls.{Call, Init, Lookup, Forget, BatchForget, Getattr, Setattr, Symlink, Readlink, Open, Unlink, Rmdir, Rename, Link, Mknod, Mkdir, Create, Read, Write, Fallocate, Lseek, Statfs, Readdir, Setxattr, Getxattr, Listxattr, Removexattr, Opendir, Fsync, Release, Fsyncdir, Releasedir, Destroy, Answer, Options, Found, Created, Attributes, Opened, Text, Count, Put, Wrote, Done, Offset, Statistics, Handed, Plain, Iterator, default_answer}
use Rattle.fs_nodes.specs.Pages.{reach}
use Rattle.fs_nodes.specs.Contents.{fallocated, data_from, hole_from, lacking, pages_over}
use Rattle.fs_nodes.specs.Children.{is_directory, is_file, is_link}
use Rattle.fs_nodes.specs.Listing.{items_after}
use Rattle.fs_nodes.specs.Node.{attr_of, lasting, entry_of, kind_by_mode, new_node, picked, set_attr, rewritten, truncates, is_other, opened, overwritten, accessed}
pub use Rattle.fs_nodes.specs.Refusals.{contents_refusal, namespace_refusal}
use Rattle.fs_nodes.specs.Xattrs.{xattr_named, xattr_bytes, with_xattr, without_xattr, name_list}
use Rattle.fs_nodes.specs.declared.children.Child.{Child}
use Rattle.fs_nodes.specs.declared.kind.Kind.{Kind}
use Rattle.fs_nodes.specs.declared.kind.Kind.TheVariants as kind
use Rattle.fs_nodes.specs.declared.node.Node.{Node}
use Rattle.fs_nodes.specs.declared.node.Time.{Time}
use Rattle.fs_tree.specs.Naming.{directory_refusal, is_crowded, name_refusal, has_no_number, new_in, asks_nameless, new_nameless, nameless_refusal}
use Rattle.fs_tree.specs.Outcome.{Outcome, Refused, Answered, Tried, HandsBack, done, first_of, unless, with_it, on}
use Rattle.fs_tree.specs.Rename.{renames}
use Rattle.fs_tree.specs.State.{State, node_at, room_of, with_node, with_resized, with_new, settled, change, lead, unnamed, child_at}
use Rattle.fs_tree.specs.declared.fs.Capacity.{Capacity}

-- ---- new nodes

-- a new file system: the root alone, a directory of this owner
abbrev pub root_node : (uid gid permissions : ℕ) → Time → Node
root_node uid gid permissions now =
    record (new_node now uid gid kind.Directory permissions 1 []) { lookups = 0 }

abbrev pub first_state : (uid gid permissions : ℕ) → Capacity → (writeback : Bool) → Time → State
first_state uid gid permissions limits writeback now = record {
  nodes = (1, root_node uid gid permissions now) ∷ [];
  next = 2;
  used = 0;
  inodes = 1;
  limits = limits;
  writeback = writeback;
  offered = 0;
  now = now;
}

-- ---- LOOKUP, FORGET

-- what is done with the node that a name leads to
abbrev pub at_name : State → (parent : ℕ) → (name : List ℕ) → (Child → Node → Outcome) → Outcome
at_name s parent name outcome =
    unless (directory_refusal (node_at s parent) name)
    (with_it (child_at s parent name) (λ child. with_it (node_at s child.node) (outcome child)))

-- lookups of a node are taken back
abbrev pub forgotten : State → (number count : ℕ) → State
forgotten s n count =
    option_map_or (λ node. settled s n (record node { lookups = node.lookups - count })) (node_at s n) s

-- lookups of many nodes, in order
abbrev pub all_forgotten : State → List (ℕ × ℕ) → State
all_forgotten s requests = fold (λ t r. forgotten t r.0 r.1) s requests

-- every lookup that is held: of a client that has gone away, or a new one that has none yet
abbrev pub released : State → State
released s = all_forgotten s (map (λ e. (e.0, e.1.lookups)) s.nodes)

-- ---- MKDIR, MKNOD, CREATE, TMPFILE, SYMLINK, LINK, UNLINK, RMDIR

-- why nothing of this name, with a text of that many bytes, can be made in this directory
abbrev pub make_refusal : State → (parent : ℕ) → (name : List ℕ) → (size : ℕ) → Option ℕ
make_refusal s parent name size =
    option_or (name_refusal s parent name) (first_of
    ((has_no_number s || is_crowded (node_at s parent) || nat_lt (room_of s) size, enospc) ∷ []))

-- a node of this kind is made under the next number, and its entry told so; or that is refused
abbrev pub makes :
    State → Context → (Entry → Answer) → Kind → (permissions parent : ℕ) → (name text : List ℕ) → Outcome
makes s ctx told kind permissions parent name text =
    let node = new_in s ctx kind permissions parent text in
    unless (make_refusal s parent name (length text))
    (Tried true (Plain (told (entry_of s.next node)))
    (lead (with_new s node) parent name false (Some (record { node = s.next; kind = kind }))))

-- a file is made under the next number that no name leads to, and its entry told so; or that is refused
abbrev pub makes_nameless :
    State → Context → (Entry → Answer) → (permissions parent : ℕ) → (name : List ℕ) → (flags : ℕ) → Outcome
makes_nameless s ctx told permissions parent name flags =
    let node = new_nameless s ctx permissions parent flags in
    unless (nameless_refusal s parent name)
    (Tried true (Plain (told (entry_of s.next node))) (with_new s node))

-- why no further name can lead to a node: not to a directory, nor to a file with 65000 names, nor to one that has
-- none and was not made so. An inode is counted for each name but the first
abbrev pub link_refusal : State → (parent : ℕ) → (name : List ℕ) → Node → Option ℕ
link_refusal s parent name node =
    option_or (name_refusal s parent name)
    (first_of ((is_directory node.kind, eperm)
    ∷ (node.names == 0 && not node.is_linkable, enoent)
    ∷ (nat_le 65000 node.names, emlink)
    ∷ (node.lookups == 2 ^ 64 - 1, eoverflow)
    ∷ ((not (node.names == 0) && nat_le s.limits.nodes s.inodes) || is_crowded (node_at s parent), enospc) ∷ []))

-- one name more leads to a node, and one lookup more is held. Once names were taken from it, none can lead to it
abbrev pub linked : (now : Time) → Node → Node
linked now node = record node {
  names = node.names + 1;
  is_linkable = false;
  lookups = node.lookups + 1;
  ctime = now;
}

-- a name is taken out of a directory, and one name less leads to its node
abbrev pub taken_out : State → (parent : ℕ) → (name : List ℕ) → Child → State
taken_out s parent name child = unnamed (lead s parent name true None) child.node

-- ---- SETATTR, OPEN, FALLOCATE, READ, WRITE

-- how many bytes a file may have: a signed number of 64 bits counts them
abbrev pub longest : State → ℕ
longest s = min s.limits.file (2 ^ 63 - 1)

-- up to which place a file can have bytes from off on, at most that many, in pages that are held or can be
abbrev pub most_size : State → (off len : ℕ) → Node → ℕ
most_size s off len node = min (longest s)
    (4096 * reach node.contents.held (room_of s / 4096) (off / 4096) (pages_over off len))

-- why FALLOCATE does nothing: the mode is 0, KEEP_SIZE (1), PUNCH_HOLE with it (3), which takes no room, or
-- ZERO_RANGE (16) without or with it
abbrev pub fallocate_refusal : State → (mode off len : ℕ) → Node → Option ℕ
fallocate_refusal s mode off len node =
    first_of ((len == 0, einval)
    ∷ (not (list_any (nat_eq mode) (0 ∷ 1 ∷ 3 ∷ 16 ∷ 17 ∷ [])), eopnotsupp)
    ∷ (not (is_file node.kind), enodev)
    ∷ (nat_lt (longest s) (off + len), efbig)
    ∷ (not (mode == 3) && nat_lt (most_size s off len node) (off + len), enospc) ∷ [])

-- ---- SETXATTR, GETXATTR, LISTXATTR, REMOVEXATTR

-- a text is answered to one who has place for that many bytes, or its length to one who has none
abbrev pub tells : State → (size : ℕ) → Option (List ℕ) → Outcome
tells s size None = Refused enodata
tells s size (Some text) =
    if size == 0 then Answered (Plain (Count (length text))) s
    else unless (first_of ((nat_lt size (length text), erange) ∷ [])) (Tried true (Plain (Text text)) s)

-- ---- the table

-- whether a client that offered these opens and makes files without OPEN and CREATE, once they are ENOSYS: it
-- can (ZERO_MESSAGE_OPEN), and cuts what it opens with O_TRUNC by a SETATTR (no ATOMIC_O_TRUNC)
abbrev pub opens_nothing : (offered : ℕ) → Bool
opens_nothing offered = bit_and offered 0x20008 == 0x20000

-- what INIT asks for: DO_READDIRPLUS, READDIRPLUS_AUTO, ZERO_MESSAGE_OPENDIR, HANDLE_KILLPRIV_V2, WRITEBACK_CACHE if
-- the client is to write later, and ZERO_MESSAGE_OPEN if it opens nothing
abbrev pub wanted_options : (writeback : Bool) → (offered : ℕ) → ℕ
wanted_options writeback offered =
    0x11006000 + (if writeback then 0x10000 else 0) + (if opens_nothing offered then 0x20000 else 0)

-- how a call ends; what has no line has its default answer, and everything stays. What a client reads of a
-- directory it keeps (CACHE_DIR, KEEP_CACHE): nobody else changes it. LSEEK looks for data (SEEK_DATA, 3) or a
-- hole (SEEK_HOLE, 4); what a client has yet to write would be taken for a hole, so one that writes later is to
-- look itself. Where a file's size or pages change, it loses its capabilities; a SETATTR sets the size of a file
-- that is open by a handle, or, as it may be an O_TRUNC, to 0 for a client without OPEN. What a client keeps of
-- the bytes stays true at an OPEN (KEEP_CACHE, 2), unless they are taken. A text of more bytes than an answer has
-- is not read; and a node has 65536 bytes of extended attributes at most
abbrev pub outcome : State → Call → Outcome
outcome s (Init offered) = Answered (Plain (Options (wanted_options s.writeback offered)))
    (record (released s) { offered = offered })
outcome s Destroy = done (released s)
outcome s (Lookup _ parent name) = at_name s parent name (λ child node.
    unless (first_of ((node.lookups == 2 ^ 64 - 1, eoverflow) ∷ []))
    (Answered (Plain (Found (entry_of child.node node)))
    (with_node s child.node (record node { lookups = node.lookups + 1 }))))
outcome s (Forget _ n count) = done (forgotten s n count)
outcome s (BatchForget _ requests) = done (all_forgotten s requests)
outcome s (Getattr _ n _) =
    with_it (node_at s n) (λ node. Answered (Plain (Attributes (attr_of n node) (lasting node))) s)
outcome s (Setattr _ n attr handle valid) = with_it (node_at s n) (λ node.
    let is_open = is_some handle || opens_nothing s.offered && attr.size == 0 in
    let set = set_attr s.now node attr is_open valid in
    unless (picked valid 0x8
    (option_or (contents_refusal node) (first_of ((nat_lt (longest s) attr.size, efbig) ∷ []))) None)
    (Answered (Plain (Attributes (attr_of n set) (lasting set))) (with_resized s n node set)))
outcome s (Mkdir ctx parent name mode _ _) = makes s ctx Found kind.Directory mode parent name []
outcome s (Mknod ctx parent name mode device _ _) = option_map_or
    (λ kind. makes s ctx Found kind mode parent name []) (kind_by_mode mode device) (Refused eperm)
outcome s (Create ctx parent name mode _ flags _ _) = if asks_nameless name
    then makes_nameless s ctx (λ entry. Created entry None 0) mode parent name flags
    else if opens_nothing s.offered then Refused enosys
    else makes s ctx (λ entry. Created entry None 0) kind.File mode parent name []
outcome s (Symlink ctx text parent name _) = makes s ctx Found kind.Link 0o777 parent name text
outcome s (Link _ n parent name) = on (node_at s n) (link_refusal s parent name) (λ node.
    let named = lead s parent name false (Some (record { node = n; kind = node.kind })) in
    Tried true (Plain (Found (entry_of n (linked s.now node))))
    (change (record named { inodes = named.inodes + min node.names 1 }) n (linked s.now)))
outcome s (Unlink _ parent name) = at_name s parent name (λ child node.
    unless (first_of ((is_directory node.kind, eisdir) ∷ [])) (done (taken_out s parent name child)))
outcome s (Rmdir _ parent name) = at_name s parent name (λ child node.
    unless (first_of ((not (is_directory node.kind), enotdir)
    ∷ (not (length node.children.links == 0), enotempty) ∷ [])) (done (taken_out s parent name child)))
outcome s (Rename ctx od on nd nn flags) =
    renames s ctx od on nd nn flags (child_at s nd nn) (child_at s od on)
outcome s (Readlink _ n) = with_it (node_at s n) (λ node.
    unless (first_of ((not (is_link node.kind) || nat_lt (2 ^ 32 - 17) (length node.text), einval) ∷ []))
    (Tried true (Plain (Text node.text)) (with_node s n (accessed s.now node))))
outcome s (Open ctx n kill flags) = if opens_nothing s.offered then Refused enosys
    else with_it (node_at s n) (λ node. Answered (Plain (Opened None (if truncates node flags then 0 else 2)))
    (with_resized s n node (opened s.now ctx.uid kill node flags)))
outcome s (Read _ n _ room size off _ _) = on (node_at s n) contents_refusal (λ node.
    Answered (Plain (Put (part_of node.contents.bytes off (most_put room size))))
    (if size == 0 then s else with_node s n (accessed s.now node)))
outcome s (Write _ n _ bytes size off _ delayed kill _) = with_it (node_at s n) (λ node.
    let most = most_size s off size node in
    let fit = fitting most off (take size bytes) in
    unless (option_or (contents_refusal node)
    (first_of ((nat_lt 0 size && nat_le (longest s) off, efbig)
    ∷ (nat_lt 0 size && nat_le most off, enospc) ∷ [])))
    (Tried (nat_lt 0 (length fit) && nat_lt 0 (lacking node.contents off (length fit)))
    (Plain (Wrote (length fit))) (with_resized s n node (overwritten s.now delayed kill node off fit))))
outcome s (Fallocate _ n _ mode off len) = on (node_at s n) (fallocate_refusal s mode off len) (λ node.
    let new = rewritten s.now true false node (fallocated mode off len node.contents) in
    Tried (not (mode == 3) && nat_lt 0 (lacking node.contents off len)) (Plain Done)
    (with_resized s n node new))
outcome s (Lseek _ n _ off whence) = if s.writeback then Refused enosys else with_it (node_at s n) (λ node.
    let at = if whence == 4 then Some (hole_from node.contents off) else data_from node.contents off in
    unless (first_of ((not (is_file node.kind) || not (whence == 3 || whence == 4), einval)
    ∷ (nat_le (length node.contents.bytes) off || is_none at, enxio) ∷ []))
    (Answered (Plain (Offset (unwrap_or at 0))) s))
outcome s (Statfs _ _) = Answered (Plain (Statistics (record {
  f_bsize = 4096;
  f_frsize = 4096;
  f_blocks = s.limits.bytes / 4096;
  f_bfree = room_of s / 4096;
  f_bavail = room_of s / 4096;
  f_files = s.limits.nodes;
  f_ffree = s.limits.nodes - s.inodes;
  f_namemax = 255;
}))) s
outcome s (Setxattr _ n name value flags _) = with_it (node_at s n) (λ node.
    let old = xattr_named node.xattrs name in
    let set = record node { xattrs = with_xattr node.xattrs name value; ctime = s.now } in
    unless (option_or (namespace_refusal name)
    (first_of ((bit_and flags 1 == 1 && is_some old, eexist) ∷ (bit_and flags 2 == 2 && is_none old, enodata)
    ∷ (nat_lt 65536 (xattr_bytes set.xattrs), enospc)
    ∷ (nat_lt (room_of s) (xattr_bytes set.xattrs - xattr_bytes node.xattrs), enospc) ∷ [])))
    (Tried true (Plain Done) (with_resized s n node set)))
outcome s (Getxattr _ n name size) = with_it (node_at s n) (λ node.
    unless (namespace_refusal name) (tells s size (xattr_named node.xattrs name)))
outcome s (Listxattr ctx n size) =
    with_it (node_at s n) (λ node. tells s size (Some (name_list (is_other ctx.uid) node.xattrs)))
outcome s (Removexattr _ n name) = with_it (node_at s n) (λ node.
    unless (option_or (namespace_refusal name)
    (first_of ((is_none (xattr_named node.xattrs name), enodata) ∷ [])))
    (done (with_resized s n node (record node { xattrs = without_xattr node.xattrs name; ctime = s.now }))))
outcome s (Readdir _ n _ size off) = with_it (node_at s n) (λ node.
    unless (first_of ((not (is_directory node.kind), enotdir) ∷ []))
    (Tried true (Iterator (items_after n node off size)) (with_node s n (accessed s.now node))))
outcome s (Opendir _ _ _) = if bit_and s.offered 0x1000000 == 0x1000000 then Refused enosys
    else Answered (Plain (Opened None 10)) s
outcome s (Fsync _ _ _ _) = done s
outcome s (Release _ _ _ _ _ _ _) = done s
outcome s (Fsyncdir _ _ _ _) = done s
outcome s (Releasedir _ _ _ _) = done s
outcome s call = Answered (Plain (default_answer call)) s

-- from the old state this call may hand this back and leave the new state
abbrev pub TreeAllows : State → Call → Handed (List Item) → State → Type 0
TreeAllows old call handed new = HandsBack old (outcome old call) handed new
