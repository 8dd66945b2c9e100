-- What is told determines the call.
use Rattle.std.proofs.Common.{◌≡◌, ◌==◌, ◌∙◌, ◌+◌, ℕ, Bool, true, false, List, Option, None, Some, refl, ap, sym, arith}
use Rattle.std.proofs.lemmas.Bool.Decides.{nat_tests}
use Rattle.std.specs.Prelude.{bit_and, unwrap_or, if◌then◌else◌}
use Rattle.vfs_flags.specs.Flags.{has_flag}
use Rattle.vfs_files.specs.Calls.{Call}
use Rattle.vfs_files.specs.Calls as call
use Rattle.vfs_files.specs.Values.{ExtensionValues}
use Rattle.vfs_files.specs.declared.entry.Context.{Context}
use Rattle.vfs_wire.specs.declared.attributes.SetattrIn.{SetattrIn}
use Rattle.vfs_grammar.specs.Ask.{if_set}
use Rattle.vfs_grammar.specs.Forms.{pairs_of}
use Rattle.vfs_grammar.specs.Reply.{Echo}
use Rattle.codec_calls.specs.Shapes.{bit, bit_of, context_bit}
use Rattle.codec_calls.specs.declared.call.CallData.{CallData}
use Rattle.codec_calls.specs.declared.call.SetattrData.{SetattrData}
use Rattle.codec_calls.specs.declared.call.has.TheConstants as has
use Rattle.codec_decode.specs.Asked.{ArePlaced, IsContextPlaced, bytes_in, told_of}
use Rattle.laws_flight.specs.ToldCall.{ToldIsCall}

-- ---- what the data tell

-- who calls
abbrev caller : CallData → Context
caller d = record { uid = d.uid; gid = d.gid; pid = d.pid }

-- the record of a SETATTR
abbrev setattr_in_of : SetattrData → SetattrIn
setattr_in_of r = record {
  valid = r.valid;
  padding = r.padding;
  fh = r.fh;
  size = r.size;
  lock_owner = r.lock_owner;
  atime = r.atime;
  mtime = r.mtime;
  ctime = r.ctime;
  atimensec = r.atimensec;
  mtimensec = r.mtimensec;
  ctimensec = r.ctimensec;
  mode = r.mode;
  unused4 = r.unused4;
  uid = r.uid;
  gid = r.gid;
  unused5 = r.unused5;
}

-- the handle and the owner of locks, where there is one
abbrev handle_in : CallData → Option ℕ
handle_in d = if_set d.has has.HANDLE d.handle

abbrev owner_in : CallData → Option ℕ
owner_in d = if_set d.has has.OWNER d.lock_owner

-- Its caller and its numbers. Two equal ones have each in common.
data Numbers : Type 0 where
  Told : (ctx : Context) (node handle offset length lock_owner other_node other_handle other_offset flags mode umask rdev size more : ℕ)
      → Numbers

abbrev numbers_in : CallData → Numbers
numbers_in d =
    Told (caller d) d.node d.handle d.offset d.length d.lock_owner d.other_node d.other_handle d.other_offset d.flags d.mode d.umask d.rdev
    d.size d.more

-- ---- bits

handle_told : (h : Option ℕ) → if_set (bit_of h has.HANDLE) has.HANDLE (unwrap_or h 0) ≡ h
handle_told None = refl
handle_told (Some h) = refl

owner_told : (o : Option ℕ) → if_set (bit_of o has.OWNER) has.OWNER (unwrap_or o 0) ≡ o
owner_told None = refl
owner_told (Some o) = refl

kill_told : (k : Bool) → has_flag (bit k has.KILL_SUIDGID) has.KILL_SUIDGID ≡ k
kill_told true = refl
kill_told false = refl

datasync_told : (k : Bool) → has_flag (bit k has.FSYNC_FDATASYNC) has.FSYNC_FDATASYNC ≡ k
datasync_told true = refl
datasync_told false = refl

-- the bits of a WRITE
abbrev write_has : (owner : Option ℕ) → (delayed kill : Bool) → ℕ
write_has o d k = bit_of o has.OWNER + (bit d has.WRITE_CACHE + bit k has.KILL_SUIDGID)

record WriteTold (o : Option ℕ) (d k : Bool) : Type 0 where
  owner : if_set (write_has o d k) has.OWNER (unwrap_or o 0) ≡ o
  delayed : has_flag (write_has o d k) has.WRITE_CACHE ≡ d
  kill : has_flag (write_has o d k) has.KILL_SUIDGID ≡ k

write_told : (o : Option ℕ) (d k : Bool) → WriteTold o d k
write_told None true true = record { owner = refl; delayed = refl; kill = refl }
write_told None true false = record { owner = refl; delayed = refl; kill = refl }
write_told None false true = record { owner = refl; delayed = refl; kill = refl }
write_told None false false = record { owner = refl; delayed = refl; kill = refl }
write_told (Some o) true true = record { owner = refl; delayed = refl; kill = refl }
write_told (Some o) true false = record { owner = refl; delayed = refl; kill = refl }
write_told (Some o) false true = record { owner = refl; delayed = refl; kill = refl }
write_told (Some o) false false = record { owner = refl; delayed = refl; kill = refl }

-- the bits of a RELEASE
abbrev release_has : (owner : Option ℕ) → (flushes flock : Bool) → ℕ
release_has o f k = bit_of o has.OWNER + (bit f has.RELEASE_FLUSH + bit k has.RELEASE_FLOCK_UNLOCK)

record ReleaseTold (o : Option ℕ) (f k : Bool) : Type 0 where
  owner : if_set (release_has o f k) has.OWNER (unwrap_or o 0) ≡ o
  flushes : has_flag (release_has o f k) has.RELEASE_FLUSH ≡ f
  flock : has_flag (release_has o f k) has.RELEASE_FLOCK_UNLOCK ≡ k

release_told : (o : Option ℕ) (f k : Bool) → ReleaseTold o f k
release_told None true true = record { owner = refl; flushes = refl; flock = refl }
release_told None true false = record { owner = refl; flushes = refl; flock = refl }
release_told None false true = record { owner = refl; flushes = refl; flock = refl }
release_told None false false = record { owner = refl; flushes = refl; flock = refl }
release_told (Some o) true true = record { owner = refl; flushes = refl; flock = refl }
release_told (Some o) true false = record { owner = refl; flushes = refl; flock = refl }
release_told (Some o) false true = record { owner = refl; flushes = refl; flock = refl }
release_told (Some o) false false = record { owner = refl; flushes = refl; flock = refl }

-- ---- extensions

-- the bits of extensions, and of a file that is to lose bits
abbrev has_extensions : (kill : Bool) → ExtensionValues → ℕ
has_extensions kill ext = bit kill has.KILL_SUIDGID + (context_bit ext.context + bit_of ext.group has.GROUP)

extended_kill : (kill : Bool) (context : Option (List ℕ × List ℕ)) (group : Option ℕ)
    → has_flag (has_extensions kill (record { context = context; group = group })) has.KILL_SUIDGID ≡ kill
extended_kill true None None = refl
extended_kill true None (Some g) = refl
extended_kill true (Some c) None = refl
extended_kill true (Some c) (Some g) = refl
extended_kill false None None = refl
extended_kill false None (Some g) = refl
extended_kill false (Some c) None = refl
extended_kill false (Some c) (Some g) = refl

pair_is : (a b : List ℕ) (pair : List ℕ × List ℕ) → a ≡ pair.0 → b ≡ pair.1 → (let p : List ℕ × List ℕ = (a, b) in p) ≡ pair
pair_is a b (x, y) e f =
    ap (λ (v : List ℕ). let p : List ℕ × List ℕ = (v, b) in p) e
    ∙ ap (λ (v : List ℕ). let p : List ℕ × List ℕ = (x, v) in p) f

abbrev in_ranges : (request : List ℕ) → CallData → List ℕ × List ℕ
in_ranges q told = (bytes_in q told.context_name, bytes_in q told.context)

-- what extensions are told so
abbrev extensions_from : (has group : ℕ) → (context : List ℕ × List ℕ) → ExtensionValues
extensions_from h group context = record {
  context = if bit_and h has.CONTEXT == 0 then None else Some context;
  group = if_set h has.GROUP group;
}

told_so : (kill : Bool) (context : Option (List ℕ × List ℕ)) (group : Option ℕ) (q : List ℕ) (told : CallData)
    → IsContextPlaced q context told
    → extensions_from (has_extensions kill (record { context = context; group = group })) (unwrap_or group 0) (in_ranges q told)
    ≡ (let e : ExtensionValues = record { context = context; group = group } in e)
told_so true None None q told placed = refl
told_so true None (Some g) q told placed = refl
told_so true (Some c) None q told placed =
    ap (λ (p : List ℕ × List ℕ). let e : ExtensionValues = record { context = Some p; group = None } in e)
    (pair_is _ _ c placed.0.bytes_are placed.1.bytes_are)
told_so true (Some c) (Some g) q told placed =
    ap (λ (p : List ℕ × List ℕ). let e : ExtensionValues = record { context = Some p; group = Some g } in e)
    (pair_is _ _ c placed.0.bytes_are placed.1.bytes_are)
told_so false None None q told placed = refl
told_so false None (Some g) q told placed = refl
told_so false (Some c) None q told placed =
    ap (λ (p : List ℕ × List ℕ). let e : ExtensionValues = record { context = Some p; group = None } in e)
    (pair_is _ _ c placed.0.bytes_are placed.1.bytes_are)
told_so false (Some c) (Some g) q told placed =
    ap (λ (p : List ℕ × List ℕ). let e : ExtensionValues = record { context = Some p; group = Some g } in e)
    (pair_is _ _ c placed.0.bytes_are placed.1.bytes_are)

same_extensions : (q : List ℕ) (told : CallData) (kill kill' : Bool) (ext ext' : ExtensionValues) → has_extensions kill ext ≡ has_extensions kill' ext'
    → unwrap_or ext.group 0 ≡ unwrap_or ext'.group 0 → IsContextPlaced q ext.context told → IsContextPlaced q ext'.context told → ext ≡ ext'
same_extensions q told kill kill' ext ext' bits group placed placed' =
    sym (told_so kill ext.context ext.group q told placed)
    ∙ ap (λ (h : ℕ). extensions_from h (unwrap_or ext.group 0) (in_ranges q told)) bits
    ∙ ap (λ (g : ℕ). extensions_from (has_extensions kill' ext') g (in_ranges q told)) group
    ∙ told_so kill' ext'.context ext'.group q told placed'

-- ---- each call

same_test : (n m : ℕ) → n ≡ m → (n == m) ≡ true
same_test n m e = grind (arith, nat_tests, e)

-- two names that are in one place
same_bytes : (bytes name other : List ℕ) → bytes ≡ name → bytes ≡ other → name ≡ other
same_bytes bytes name other e f = sym e ∙ f

module _ (q : List ℕ) (options room : ℕ) (one other : Echo) (told : CallData) where
  abbrev First : Call → CallData
  First a = told_of options room one a

  abbrev Second : Call → CallData
  Second b = told_of options room other b

  -- Two calls that are told alike have one number, and so are of one kind. Then their numbers are those that are told, and so are
  -- their names and values.
  alike : (a b : Call) → ((First a).call == (Second b).call) ≡ true → (Unit {0} → First a ≡ Second b)
      → ArePlaced q a told → ArePlaced q b told → a ≡ b
  alike (call.Lookup ctx parent name) (call.Lookup ctx' parent' name') n e p p' =
      let same_name : name ≡ name' = same_bytes _ _ _ p.bytes_are p'.bytes_are in
      cc (ap numbers_in (e tt))
  alike _ (call.Lookup ctx' parent' name') n e _ _ = absurd cc
  alike (call.Symlink ctx text parent name ext) (call.Symlink ctx' text' parent' name' ext') n e p p' =
      let same_name : name ≡ name' = same_bytes _ _ _ p.0.bytes_are p'.0.bytes_are in
      let same_text : text ≡ text' = same_bytes _ _ _ p.1.bytes_are p'.1.bytes_are in
      let same_ext : ext ≡ ext' = same_extensions q told false false ext ext' (ap (λ (d : CallData). d.has) (e tt)) (ap (λ (d : CallData). d.group) (e tt)) p.2 p'.2 in
      cc (ap numbers_in (e tt))
  alike (call.Mknod ctx inode name mode rdev umask ext) (call.Mknod ctx' inode' name' mode' rdev' umask' ext') n e p p' =
      let same_name : name ≡ name' = same_bytes _ _ _ p.0.bytes_are p'.0.bytes_are in
      let same_ext : ext ≡ ext' = same_extensions q told false false ext ext' (ap (λ (d : CallData). d.has) (e tt)) (ap (λ (d : CallData). d.group) (e tt)) p.1 p'.1 in
      cc (ap numbers_in (e tt))
  alike (call.Mkdir ctx parent name mode umask ext) (call.Mkdir ctx' parent' name' mode' umask' ext') n e p p' =
      let same_name : name ≡ name' = same_bytes _ _ _ p.0.bytes_are p'.0.bytes_are in
      let same_ext : ext ≡ ext' = same_extensions q told false false ext ext' (ap (λ (d : CallData). d.has) (e tt)) (ap (λ (d : CallData). d.group) (e tt)) p.1 p'.1 in
      cc (ap numbers_in (e tt))
  alike (call.Create ctx parent name mode kill flags umask ext) (call.Create ctx' parent' name' mode' kill' flags' umask' ext') n e p p' =
      let same_name : name ≡ name' = same_bytes _ _ _ p.0.bytes_are p'.0.bytes_are in
      let same_kill : kill ≡ kill' = sym (extended_kill kill ext.context ext.group) ∙ ap (λ (d : CallData). has_flag d.has has.KILL_SUIDGID) (e tt) ∙ extended_kill kill' ext'.context ext'.group in
      let same_ext : ext ≡ ext' = same_extensions q told kill kill' ext ext' (ap (λ (d : CallData). d.has) (e tt)) (ap (λ (d : CallData). d.group) (e tt)) p.1 p'.1 in
      cc (ap numbers_in (e tt))
  alike (call.Unlink ctx parent name) (call.Unlink ctx' parent' name') n e p p' =
      let same_name : name ≡ name' = same_bytes _ _ _ p.bytes_are p'.bytes_are in
      cc (ap numbers_in (e tt))
  alike (call.Rmdir ctx parent name) (call.Rmdir ctx' parent' name') n e p p' =
      let same_name : name ≡ name' = same_bytes _ _ _ p.bytes_are p'.bytes_are in
      cc (ap numbers_in (e tt))
  alike (call.Rename ctx olddir oldname newdir newname flags) (call.Rename ctx' olddir' oldname' newdir' newname' flags') n e p p' =
      let same_oldname : oldname ≡ oldname' = same_bytes _ _ _ p.0.bytes_are p'.0.bytes_are in
      let same_newname : newname ≡ newname' = same_bytes _ _ _ p.1.bytes_are p'.1.bytes_are in
      cc (ap numbers_in (e tt))
  alike (call.Link ctx inode newparent newname) (call.Link ctx' inode' newparent' newname') n e p p' =
      let same_newname : newname ≡ newname' = same_bytes _ _ _ p.bytes_are p'.bytes_are in
      cc (ap numbers_in (e tt))
  alike (call.Setxattr ctx inode name value flags extra) (call.Setxattr ctx' inode' name' value' flags' extra') n e p p' =
      let same_name : name ≡ name' = same_bytes _ _ _ p.0.bytes_are p'.0.bytes_are in
      let same_value : value ≡ value' = same_bytes _ _ _ p.1.bytes_are p'.1.bytes_are in
      cc (ap numbers_in (e tt))
  alike (call.Getxattr ctx inode name size) (call.Getxattr ctx' inode' name' size') n e p p' =
      let same_name : name ≡ name' = same_bytes _ _ _ p.bytes_are p'.bytes_are in
      cc (ap numbers_in (e tt))
  alike (call.Removexattr ctx inode name) (call.Removexattr ctx' inode' name') n e p p' =
      let same_name : name ≡ name' = same_bytes _ _ _ p.bytes_are p'.bytes_are in
      cc (ap numbers_in (e tt))
  alike (call.Getattr ctx inode handle) (call.Getattr ctx' inode' handle') n e p p' =
      let same_handle : handle ≡ handle' = sym (handle_told handle) ∙ ap handle_in (e tt) ∙ handle_told handle' in
      cc (ap numbers_in (e tt))
  alike (call.Setattr ctx inode attr handle valid) (call.Setattr ctx' inode' attr' handle' valid') n e p p' =
      let same_handle : handle ≡ handle' = sym (handle_told handle) ∙ ap handle_in (e tt) ∙ handle_told handle' in
      let same_attr : attr ≡ attr' = ap (λ (d : CallData). setattr_in_of d.attr) (e tt) in
      cc (ap numbers_in (e tt))
  alike (call.Open ctx inode kill flags) (call.Open ctx' inode' kill' flags') n e p p' =
      let same_kill : kill ≡ kill' = sym (kill_told kill) ∙ ap (λ (d : CallData). has_flag d.has has.KILL_SUIDGID) (e tt) ∙ kill_told kill' in
      cc (ap numbers_in (e tt))
  alike (call.Read ctx inode handle space size offset owner flags) (call.Read ctx' inode' handle' space' size' offset' owner' flags') n e p p' =
      let same_owner : owner ≡ owner' = sym (owner_told owner) ∙ ap owner_in (e tt) ∙ owner_told owner' in
      cc (ap numbers_in (e tt))
  alike (call.Write ctx inode handle bytes size offset owner delayed kill flags) (call.Write ctx' inode' handle' bytes' size' offset' owner' delayed' kill' flags') n e p p' =
      let same_bytes : bytes ≡ bytes' = same_bytes _ _ _ p.bytes_are p'.bytes_are in
      let same_owner : owner ≡ owner' = sym ((write_told owner delayed kill).owner) ∙ ap owner_in (e tt) ∙ (write_told owner' delayed' kill').owner in
      let same_delayed : delayed ≡ delayed' = sym ((write_told owner delayed kill).delayed) ∙ ap (λ (d : CallData). has_flag d.has has.WRITE_CACHE) (e tt) ∙ (write_told owner' delayed' kill').delayed in
      let same_kill : kill ≡ kill' = sym ((write_told owner delayed kill).kill) ∙ ap (λ (d : CallData). has_flag d.has has.KILL_SUIDGID) (e tt) ∙ (write_told owner' delayed' kill').kill in
      cc (ap numbers_in (e tt))
  alike (call.Release ctx inode flags handle flushes flock owner) (call.Release ctx' inode' flags' handle' flushes' flock' owner') n e p p' =
      let same_owner : owner ≡ owner' = sym ((release_told owner flushes flock).owner) ∙ ap owner_in (e tt) ∙ (release_told owner' flushes' flock').owner in
      let same_flushes : flushes ≡ flushes' = sym ((release_told owner flushes flock).flushes) ∙ ap (λ (d : CallData). has_flag d.has has.RELEASE_FLUSH) (e tt) ∙ (release_told owner' flushes' flock').flushes in
      let same_flock : flock ≡ flock' = sym ((release_told owner flushes flock).flock) ∙ ap (λ (d : CallData). has_flag d.has has.RELEASE_FLOCK_UNLOCK) (e tt) ∙ (release_told owner' flushes' flock').flock in
      cc (ap numbers_in (e tt))
  alike (call.Fsync ctx inode datasync handle) (call.Fsync ctx' inode' datasync' handle') n e p p' =
      let same_datasync : datasync ≡ datasync' = sym (datasync_told datasync) ∙ ap (λ (d : CallData). has_flag d.has has.FSYNC_FDATASYNC) (e tt) ∙ datasync_told datasync' in
      cc (ap numbers_in (e tt))
  alike (call.Fsyncdir ctx inode datasync handle) (call.Fsyncdir ctx' inode' datasync' handle') n e p p' =
      let same_datasync : datasync ≡ datasync' = sym (datasync_told datasync) ∙ ap (λ (d : CallData). has_flag d.has has.FSYNC_FDATASYNC) (e tt) ∙ datasync_told datasync' in
      cc (ap numbers_in (e tt))
  alike (call.BatchForget ctx pairs) (call.BatchForget ctx' pairs') n e p p' =
      let same_pairs : pairs ≡ pairs' = sym p.pairs_are ∙ ap (λ (d : CallData). pairs_of d.length (bytes_in q told.data)) (e tt) ∙ p'.pairs_are in
      cc (ap numbers_in (e tt))
  alike a b n e _ _ = first_of (cc, cc (ap numbers_in (e tt)))

pub told_is_call : ToldIsCall
told_is_call q options room one other a b told is_a is_b =
    let e = sym is_a.numbers ∙ is_b.numbers in
    alike q options room one other told a b (same_test _ _ (ap (λ (d : CallData). d.call) e)) (λ _. e) is_a.places is_b.places
