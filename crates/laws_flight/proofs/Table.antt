-- What is told of a request is in the row of its call, and what the row says is what an answer wants.
use Rattle.std.proofs.Common.{◌≡◌, ◌+◌, ◌-◌, ◌≤◌, ◌∙◌, ◌==◌, ◌||◌, not, nat_lt, if◌then◌else◌, drop, ℕ, Bool, true, false, List, Option, None, Some, Ok, Err, is_some, length, refl, ap, sym, subst, inl, inr, arith}
use Rattle.std.proofs.lemmas.Bool.Decides.{nat_tests}
use Rattle.std.proofs.lemmas.List.{length-drop, length-take}
use Rattle.std.specs.Prelude.{⊤}
use Rattle.vfs_flags.specs.Numbers.{number_of}
use Rattle.vfs_flags.specs.declared.opcode.Opcode.TheVariants.{Interrupt}
use Rattle.vfs_wire.specs.Fields.{value_of}
use Rattle.vfs_wire.specs.Records.{in_header}
use Rattle.vfs_wire.specs.declared.headers.InHeader.{InHeader}
use Rattle.vfs_wire_more.specs.Locks.{interrupt_in}
use Rattle.vfs_wire_more.specs.declared.locks.InterruptIn.{InterruptIn}
use Rattle.vfs_segments.specs.Written.{Written}
use Rattle.vfs_files.specs.Calls.{Call}
use Rattle.vfs_files.specs.Calls as call
use Rattle.vfs_files.specs.Values.{ExtensionValues}
use Rattle.vfs_grammar.specs.Ask.{ask}
use Rattle.vfs_grammar.specs.Forms.{Ask, Ends, Asks, Lists, WithMemory}
use Rattle.vfs_grammar.specs.Limits.{max_len}
use Rattle.vfs_grammar.specs.Records.{size_of}
use Rattle.vfs_grammar.specs.Reply.{Echo}
use Rattle.vfs_grammar.specs.declared.error.Error.TheVariants.{DecodeMessage}
use Rattle.vfs_grammar.specs.declared.limits.Limits.{Limits}
use Rattle.codec_calls.specs.Shapes.{bit, bit_of, context_bit, context_name_of, context_value_of, no_range, shape_of, unplaced}
use Rattle.codec_calls.specs.declared.call.CallData.{CallData}
use Rattle.codec_calls.specs.declared.call.Range.{Range}
use Rattle.codec_calls.specs.declared.call.has.TheConstants as has
use Rattle.codec_encode.specs.Told.{TellsEcho, TellsOffer, TellsCall}
use Rattle.codec_decode.specs.Asked.{IsAsked, IsTold, IsNameIn, IsContextPlaced, Stand, bytes_in, long_range, of_context, with_its_ranges, without_places, told_of, interrupted_by, interrupted_or_none, unique_or_none}
use Rattle.codec_decode.specs.Asked.{Tells as TellsWith}
use Rattle.codec_decode.specs.declared.asked.Asked.TheVariants as asked
use Rattle.laws_flight.specs.Table.{TellsByTable, TellsAsked, TellsContext, AreOf, of_request, interrupted}

-- data with the places of others, and with what these were asked with
abbrev with_places : (told x : CallData) → CallData
with_places told x = record x {
  options = told.options;
  room = told.room;
  name = record { at = told.name.at; len = x.name.len };
  other_name = record { at = told.other_name.at; len = x.other_name.len };
  «data» = record { at = told.data.at; len = x.data.len };
  context_name = record { at = told.context_name.at; len = x.context_name.len };
  context = record { at = told.context.at; len = x.context.len };
}

placed : (told x : CallData) → without_places told ≡ x → told ≡ with_places told x
placed told x h = ap (with_places told) h

own_name : (told x : CallData) → told ≡ x → told ≡ record x { name = told.name }
own_name told x h = h ∙ sym (ap (λ (c : CallData). let d : CallData = record x { name = c.name } in d) h)

own_other : (told x : CallData) → told ≡ x → told ≡ record x { other_name = told.other_name }
own_other told x h = h ∙ sym (ap (λ (c : CallData). let d : CallData = record x { other_name = c.other_name } in d) h)

own_data : (told x : CallData) → told ≡ x → told ≡ record x { «data» = told.data }
own_data told x h = h ∙ sym (ap (λ (c : CallData). let d : CallData = record x { «data» = c.data } in d) h)

own_context : (told x : CallData) → told ≡ x
    → told ≡ record x { context_name = told.context_name; context = told.context }
own_context told x h =
    h ∙ sym (ap (λ (c : CallData). let d : CallData = record x { context_name = c.context_name; context = c.context } in d) h)

own_has : (told x : CallData) (n : ℕ) → told ≡ x → x.has ≡ n → told ≡ record x { has = n }
own_has told x n h is = h ∙ ap (λ (n : ℕ). let d : CallData = record x { has = n } in d) is

bit_same : (o : Option ℕ) (b : ℕ) → bit_of o b ≡ bit (is_some o) b
bit_same None b = refl
bit_same (Some n) b = refl

context_same : (o : Option (List ℕ × List ℕ)) → context_bit o ≡ bit (is_some o) has.CONTEXT
context_same None = refl
context_same (Some context) = refl

-- the bits of extensions
bits : (ext : ExtensionValues)
    → context_bit ext.context + bit_of ext.group has.GROUP
    ≡ bit (is_some ext.context) has.CONTEXT + bit (is_some ext.group) has.GROUP
bits ext =
    ap (λ n. n + bit_of ext.group has.GROUP) (context_same ext.context)
    ∙ ap (λ n. bit (is_some ext.context) has.CONTEXT + n) (bit_same ext.group has.GROUP)

-- a context is where the data say, or they say none
context_told : (q : List ℕ) (told : CallData) (context : Option (List ℕ × List ℕ))
    → told.context_name ≡ of_context context told.context_name → told.context ≡ of_context context told.context
    → IsContextPlaced q context told → TellsContext q told context
context_told q told None name value h = (name, value)
context_told q told (Some context) name value h = h

module _ (q : List ℕ) (options room : ℕ) (echo : Echo) (told : CallData) where
  -- the data have the ranges of the call alone
  exact : (c : Call) → IsTold q options room echo c told
      → told ≡ with_its_ranges c (with_places told (told_of options room echo c))
  exact c is = is.others ∙ ap (with_its_ranges c) (placed told _ is.numbers)

  pub row : (c : Call) → IsTold q options room echo c told → TellsByTable q told (of_request echo told) c
  row (call.Lookup ctx parent name) is =
      (own_name told _ (exact (call.Lookup ctx parent name) is), is.places)
  row (call.Forget ctx inode count) is =
      exact (call.Forget ctx inode count) is
  row (call.Getattr ctx inode handle) is =
      own_has told _ _ (exact (call.Getattr ctx inode handle) is) (bit_same handle has.HANDLE)
  row (call.Setattr ctx inode attr handle valid) is =
      own_has told _ _ (exact (call.Setattr ctx inode attr handle valid) is) (bit_same handle has.HANDLE)
  row (call.Readlink ctx inode) is =
      exact (call.Readlink ctx inode) is
  row (call.Symlink ctx text parent name ext) is =
      (((own_has told _ _ (own_context told _ (own_other told _ (own_name told _ (exact (call.Symlink ctx text parent name ext) is)))) (ap (λ n. bit false has.KILL_SUIDGID + n) (bits ext)), is.places.0), context_told q told ext.context (ap (λ (c : CallData). c.context_name) is.others) (ap (λ (c : CallData). c.context) is.others) is.places.2), is.places.1)
  row (call.Mknod ctx inode name mode rdev umask ext) is =
      ((own_has told _ _ (own_context told _ (own_name told _ (exact (call.Mknod ctx inode name mode rdev umask ext) is))) (ap (λ n. bit false has.KILL_SUIDGID + n) (bits ext)), is.places.0), context_told q told ext.context (ap (λ (c : CallData). c.context_name) is.others) (ap (λ (c : CallData). c.context) is.others) is.places.1)
  row (call.Mkdir ctx parent name mode umask ext) is =
      ((own_has told _ _ (own_context told _ (own_name told _ (exact (call.Mkdir ctx parent name mode umask ext) is))) (ap (λ n. bit false has.KILL_SUIDGID + n) (bits ext)), is.places.0), context_told q told ext.context (ap (λ (c : CallData). c.context_name) is.others) (ap (λ (c : CallData). c.context) is.others) is.places.1)
  row (call.Unlink ctx parent name) is =
      (own_name told _ (exact (call.Unlink ctx parent name) is), is.places)
  row (call.Rmdir ctx parent name) is =
      (own_name told _ (exact (call.Rmdir ctx parent name) is), is.places)
  row (call.Rename ctx olddir oldname newdir newname flags) is =
      ((own_other told _ (own_name told _ (exact (call.Rename ctx olddir oldname newdir newname flags) is)), is.places.0), is.places.1)
  row (call.Link ctx inode newparent newname) is =
      (own_name told _ (exact (call.Link ctx inode newparent newname) is), is.places)
  row (call.Open ctx inode kill_priv flags) is =
      exact (call.Open ctx inode kill_priv flags) is
  row (call.Read ctx inode handle space size offset owner flags) is =
      own_has told _ _ (exact (call.Read ctx inode handle space size offset owner flags) is) (bit_same owner has.OWNER)
  row (call.Write ctx inode handle bytes size offset owner delayed kill_priv flags) is =
      (own_has told _ _ (own_data told _ (exact (call.Write ctx inode handle bytes size offset owner delayed kill_priv flags) is)) (ap (λ n. n + (bit delayed has.WRITE_CACHE + bit kill_priv has.KILL_SUIDGID)) (bit_same owner has.OWNER)), is.places)
  row (call.Statfs ctx inode) is =
      exact (call.Statfs ctx inode) is
  row (call.Release ctx inode flags handle flush flock_release owner) is =
      own_has told _ _ (exact (call.Release ctx inode flags handle flush flock_release owner) is) (ap (λ n. n + (bit flush has.RELEASE_FLUSH + bit flock_release has.RELEASE_FLOCK_UNLOCK)) (bit_same owner has.OWNER))
  row (call.Fsync ctx inode datasync handle) is =
      exact (call.Fsync ctx inode datasync handle) is
  row (call.Setxattr ctx inode name value flags extra) is =
      ((own_data told _ (own_name told _ (exact (call.Setxattr ctx inode name value flags extra) is)), is.places.0), is.places.1)
  row (call.Getxattr ctx inode name size) is =
      (own_name told _ (exact (call.Getxattr ctx inode name size) is), is.places)
  row (call.Listxattr ctx inode size) is =
      exact (call.Listxattr ctx inode size) is
  row (call.Removexattr ctx inode name) is =
      (own_name told _ (exact (call.Removexattr ctx inode name) is), is.places)
  row (call.Flush ctx inode handle lock_owner) is =
      exact (call.Flush ctx inode handle lock_owner) is
  row (call.Init capable) is =
      exact (call.Init capable) is
  row (call.Opendir ctx inode flags) is =
      exact (call.Opendir ctx inode flags) is
  row (call.Readdir ctx inode handle size offset) is =
      exact (call.Readdir ctx inode handle size offset) is
  row (call.Releasedir ctx inode flags handle) is =
      exact (call.Releasedir ctx inode flags handle) is
  row (call.Fsyncdir ctx inode datasync handle) is =
      exact (call.Fsyncdir ctx inode datasync handle) is
  row call.Getlk is =
      exact call.Getlk is
  row call.Setlk is =
      exact call.Setlk is
  row call.Setlkw is =
      exact call.Setlkw is
  row (call.Access ctx inode mask) is =
      exact (call.Access ctx inode mask) is
  row (call.Create ctx parent name mode kill_priv flags umask ext) is =
      ((own_has told _ _ (own_context told _ (own_name told _ (exact (call.Create ctx parent name mode kill_priv flags umask ext) is))) (ap (λ n. bit kill_priv has.KILL_SUIDGID + n) (bits ext)), is.places.0), context_told q told ext.context (ap (λ (c : CallData). c.context_name) is.others) (ap (λ (c : CallData). c.context) is.others) is.places.1)
  row call.Bmap is =
      exact call.Bmap is
  row call.Destroy is =
      exact call.Destroy is
  row call.Ioctl is =
      exact call.Ioctl is
  row call.Poll is =
      exact call.Poll is
  row call.NotifyReply is =
      exact call.NotifyReply is
  row (call.BatchForget ctx pairs) is =
      (own_data told _ (exact (call.BatchForget ctx pairs) is), ap (λ (c : CallData). c.data.len) is.numbers, is.places)
  row (call.Fallocate ctx inode handle mode offset len) is =
      exact (call.Fallocate ctx inode handle mode offset len) is
  row (call.Lseek ctx inode handle offset whence) is =
      exact (call.Lseek ctx inode handle offset whence) is
  row (call.Copyfilerange ctx inode_in handle_in offset_in inode_out handle_out offset_out len flags) is =
      exact (call.Copyfilerange ctx inode_in handle_in offset_in inode_out handle_out offset_out len flags) is
  row (call.Syncfs ctx inode) is =
      exact (call.Syncfs ctx inode) is
  row call.Tmpfile is =
      exact call.Tmpfile is

-- a row of this call says what an answer to it wants
from_row : (c : Call) (echo : Echo) (told x : CallData) → told ≡ x
    → (x.unique ≡ echo.unique) × (x.readahead ≡ echo.max_readahead)
    → (x.call ≡ (shape_of c).call) × (x.answer ≡ (shape_of c).answer) × (x.size ≡ (shape_of c).size)
    → TellsOffer x c → TellsEcho told echo × TellsCall told c
from_row c echo told x h e n o = (
  record {
    unique = ap (λ (c : CallData). c.unique) h ∙ e.0;
    readahead = ap (λ (c : CallData). c.readahead) h ∙ e.1;
  },
  record {
    number = ap (λ (c : CallData). c.call) h ∙ n.0;
    kind = ap (λ (c : CallData). c.answer) h ∙ n.1;
    size = ap (λ (c : CallData). c.size) h ∙ n.2;
    offer = subst (λ (x : CallData). TellsOffer x c) (sym h) o;
  },
)

module _ (q : List ℕ) (echo : Echo) (told : CallData) where
  pub tells_call : (c : Call) → TellsByTable q told (of_request echo told) c → TellsEcho told echo × TellsCall told c
  tells_call (call.Lookup ctx parent name) h = from_row (call.Lookup ctx parent name) echo told _ h.0 (refl, refl) (refl, refl, refl) tt
  tells_call (call.Forget ctx inode count) h = from_row (call.Forget ctx inode count) echo told _ h (refl, refl) (refl, refl, refl) tt
  tells_call (call.Getattr ctx inode handle) h = from_row (call.Getattr ctx inode handle) echo told _ h (refl, refl) (refl, refl, refl) tt
  tells_call (call.Setattr ctx inode attr handle valid) h = from_row (call.Setattr ctx inode attr handle valid) echo told _ h (refl, refl) (refl, refl, refl) tt
  tells_call (call.Readlink ctx inode) h = from_row (call.Readlink ctx inode) echo told _ h (refl, refl) (refl, refl, refl) tt
  tells_call (call.Symlink ctx text parent name ext) h = from_row (call.Symlink ctx text parent name ext) echo told _ h.0.0.0 (refl, refl) (refl, refl, refl) tt
  tells_call (call.Mknod ctx inode name mode rdev umask ext) h = from_row (call.Mknod ctx inode name mode rdev umask ext) echo told _ h.0.0 (refl, refl) (refl, refl, refl) tt
  tells_call (call.Mkdir ctx parent name mode umask ext) h = from_row (call.Mkdir ctx parent name mode umask ext) echo told _ h.0.0 (refl, refl) (refl, refl, refl) tt
  tells_call (call.Unlink ctx parent name) h = from_row (call.Unlink ctx parent name) echo told _ h.0 (refl, refl) (refl, refl, refl) tt
  tells_call (call.Rmdir ctx parent name) h = from_row (call.Rmdir ctx parent name) echo told _ h.0 (refl, refl) (refl, refl, refl) tt
  tells_call (call.Rename ctx olddir oldname newdir newname flags) h = from_row (call.Rename ctx olddir oldname newdir newname flags) echo told _ h.0.0 (refl, refl) (refl, refl, refl) tt
  tells_call (call.Link ctx inode newparent newname) h = from_row (call.Link ctx inode newparent newname) echo told _ h.0 (refl, refl) (refl, refl, refl) tt
  tells_call (call.Open ctx inode kill_priv flags) h = from_row (call.Open ctx inode kill_priv flags) echo told _ h (refl, refl) (refl, refl, refl) tt
  tells_call (call.Read ctx inode handle space size offset owner flags) h = from_row (call.Read ctx inode handle space size offset owner flags) echo told _ h (refl, refl) (refl, refl, refl) tt
  tells_call (call.Write ctx inode handle bytes size offset owner delayed kill_priv flags) h = from_row (call.Write ctx inode handle bytes size offset owner delayed kill_priv flags) echo told _ h.0 (refl, refl) (refl, refl, refl) tt
  tells_call (call.Statfs ctx inode) h = from_row (call.Statfs ctx inode) echo told _ h (refl, refl) (refl, refl, refl) tt
  tells_call (call.Release ctx inode flags handle flush flock_release owner) h = from_row (call.Release ctx inode flags handle flush flock_release owner) echo told _ h (refl, refl) (refl, refl, refl) tt
  tells_call (call.Fsync ctx inode datasync handle) h = from_row (call.Fsync ctx inode datasync handle) echo told _ h (refl, refl) (refl, refl, refl) tt
  tells_call (call.Setxattr ctx inode name value flags extra) h = from_row (call.Setxattr ctx inode name value flags extra) echo told _ h.0.0 (refl, refl) (refl, refl, refl) tt
  tells_call (call.Getxattr ctx inode name size) h = from_row (call.Getxattr ctx inode name size) echo told _ h.0 (refl, refl) (refl, refl, refl) tt
  tells_call (call.Listxattr ctx inode size) h = from_row (call.Listxattr ctx inode size) echo told _ h (refl, refl) (refl, refl, refl) tt
  tells_call (call.Removexattr ctx inode name) h = from_row (call.Removexattr ctx inode name) echo told _ h.0 (refl, refl) (refl, refl, refl) tt
  tells_call (call.Flush ctx inode handle lock_owner) h = from_row (call.Flush ctx inode handle lock_owner) echo told _ h (refl, refl) (refl, refl, refl) tt
  tells_call (call.Init capable) h = from_row (call.Init capable) echo told _ h (refl, refl) (refl, refl, refl) refl
  tells_call (call.Opendir ctx inode flags) h = from_row (call.Opendir ctx inode flags) echo told _ h (refl, refl) (refl, refl, refl) tt
  tells_call (call.Readdir ctx inode handle size offset) h = from_row (call.Readdir ctx inode handle size offset) echo told _ h (refl, refl) (refl, refl, refl) tt
  tells_call (call.Releasedir ctx inode flags handle) h = from_row (call.Releasedir ctx inode flags handle) echo told _ h (refl, refl) (refl, refl, refl) tt
  tells_call (call.Fsyncdir ctx inode datasync handle) h = from_row (call.Fsyncdir ctx inode datasync handle) echo told _ h (refl, refl) (refl, refl, refl) tt
  tells_call call.Getlk h = from_row call.Getlk echo told _ h (refl, refl) (refl, refl, refl) tt
  tells_call call.Setlk h = from_row call.Setlk echo told _ h (refl, refl) (refl, refl, refl) tt
  tells_call call.Setlkw h = from_row call.Setlkw echo told _ h (refl, refl) (refl, refl, refl) tt
  tells_call (call.Access ctx inode mask) h = from_row (call.Access ctx inode mask) echo told _ h (refl, refl) (refl, refl, refl) tt
  tells_call (call.Create ctx parent name mode kill_priv flags umask ext) h = from_row (call.Create ctx parent name mode kill_priv flags umask ext) echo told _ h.0.0 (refl, refl) (refl, refl, refl) tt
  tells_call call.Bmap h = from_row call.Bmap echo told _ h (refl, refl) (refl, refl, refl) tt
  tells_call call.Destroy h = from_row call.Destroy echo told _ h (refl, refl) (refl, refl, refl) tt
  tells_call call.Ioctl h = from_row call.Ioctl echo told _ h (refl, refl) (refl, refl, refl) tt
  tells_call call.Poll h = from_row call.Poll echo told _ h (refl, refl) (refl, refl, refl) tt
  tells_call call.NotifyReply h = from_row call.NotifyReply echo told _ h (refl, refl) (refl, refl, refl) tt
  tells_call (call.BatchForget ctx pairs) h = from_row (call.BatchForget ctx pairs) echo told _ h.0 (refl, refl) (refl, refl, refl) tt
  tells_call (call.Fallocate ctx inode handle mode offset len) h = from_row (call.Fallocate ctx inode handle mode offset len) echo told _ h (refl, refl) (refl, refl, refl) tt
  tells_call (call.Lseek ctx inode handle offset whence) h = from_row (call.Lseek ctx inode handle offset whence) echo told _ h (refl, refl) (refl, refl, refl) tt
  tells_call (call.Copyfilerange ctx inode_in handle_in offset_in inode_out handle_out offset_out len flags) h = from_row (call.Copyfilerange ctx inode_in handle_in offset_in inode_out handle_out offset_out len flags) echo told _ h (refl, refl) (refl, refl, refl) tt
  tells_call (call.Syncfs ctx inode) h = from_row (call.Syncfs ctx inode) echo told _ h (refl, refl) (refl, refl, refl) tt
  tells_call call.Tmpfile h = from_row call.Tmpfile echo told _ h (refl, refl) (refl, refl, refl) tt

-- what is told of a request tells what it asks for, with the options and the room that it was asked with
pub told_asked : (q : List ℕ) (options interrupts room : ℕ) (a : Ask) (before after : Written) (told : CallData)
    → TellsWith ⊤ q options interrupts room a before asked.Call after told
    → TellsAsked q told a × (told.options ≡ options) × (told.room ≡ room)
told_asked q options interrupts room (Ends reply) before after told t = absurd t
told_asked q options interrupts room (Asks echo c) before after told t = (
  row q options room echo told c t.1,
  ap (λ (c : CallData). c.options) t.1.numbers,
  ap (λ (c : CallData). c.room) t.1.numbers,
)
told_asked q options interrupts room (Lists echo l) before after told t = (
  ap (λ (c : CallData). let d : CallData = record c { options = told.options; room = told.room } in d) t.1,
  ap (λ (c : CallData). c.options) t.1,
  ap (λ (c : CallData). c.room) t.1,
)
told_asked q options interrupts room (WithMemory rest) before after told (inl t) =
    told_asked q options interrupts room rest before after told t
told_asked q options interrupts room (WithMemory rest) before after told (inr t) = absurd t.1

pub are_of : (limits : Limits) (q : List ℕ) (options room : ℕ) (before after : Written) (told : CallData)
    → IsAsked limits options q before asked.Call after told → length before.left ≡ room
    → AreOf limits q told × (told.options ≡ options) × (told.room ≡ room)
are_of limits q options room before after told is all =
    let t = told_asked q options (interrupted_by limits q) (length before.left)
    (ask limits options (length before.left) q) before after told is in
    let same : ask limits options (length before.left) q ≡ ask limits told.options told.room q =
    ap (λ (o : ℕ). ask limits o (length before.left) q) (sym t.1) ∙ ap (λ (n : ℕ). ask limits told.options n q) (sym t.2) in
    (subst (TellsAsked q told) same t.0, t.1, t.2 ∙ all)

-- ---- from the row of a call to what is told of it

range_length : (q : List ℕ) (range : Range) (bytes : List ℕ) → range.at + range.len ≤ length q
    → bytes_in q range ≡ bytes → range.len ≡ length bytes
range_length q range bytes within are =
    omega (arith, within, sym (ap length are) ∙ length-take range.len (drop range.at q), length-drop range.at q)

-- a name has as many bytes as the range in which it is
name_range : (q : List ℕ) (range : Range) (name : List ℕ) → IsNameIn q range name → long_range range ≡ unplaced name
name_range q range name is =
    ap (λ (n : ℕ). let r : Range = record { at = 0; len = n } in r)
    (range_length q range name (omega (arith, is.within)) is.bytes_are)

value_range : (q : List ℕ) (range : Range) (bytes : List ℕ) → Stand q range bytes → long_range range ≡ unplaced bytes
value_range q range bytes is =
    ap (λ (n : ℕ). let r : Range = record { at = 0; len = n } in r) (range_length q range bytes is.within is.bytes_are)

context_ranges : (q : List ℕ) (told : CallData) (context : Option (List ℕ × List ℕ)) → TellsContext q told context
    → (long_range told.context_name ≡ context_name_of context) × (long_range told.context ≡ context_value_of context)
context_ranges q told None h = (ap long_range h.0, ap long_range h.1)
context_ranges q told (Some context) h =
    (name_range q told.context_name context.0 h.0, value_range q told.context context.1 h.1)

context_placed : (q : List ℕ) (told : CallData) (context : Option (List ℕ × List ℕ)) → TellsContext q told context
    → IsContextPlaced q context told
context_placed q told None h = tt
context_placed q told (Some context) h = h

-- the ranges of a context are told where there is one
context_others : (q : List ℕ) (told : CallData) (context : Option (List ℕ × List ℕ)) → TellsContext q told context
    → (told.context_name ≡ of_context context told.context_name) × (told.context ≡ of_context context told.context)
context_others q told None h = h
context_others q told (Some context) h = (refl, refl)

-- data with these ranges
abbrev with_ranges : CallData → (name other_name bytes context_name context : Range) → CallData
with_ranges told name other_name bytes context_name context = record told {
  name = name;
  other_name = other_name;
  «data» = bytes;
  context_name = context_name;
  context = context;
}

-- the data of a call that may have a context have its ranges alone
others_of : (told : CallData) (o : Range) (context : Option (List ℕ × List ℕ)) → told.other_name ≡ o
    → told.data ≡ no_range
    → (told.context_name ≡ of_context context told.context_name) × (told.context ≡ of_context context told.context)
    → told
    ≡ with_ranges told told.name o no_range (of_context context told.context_name) (of_context context told.context)
others_of told o context other bytes e =
    ap (λ (r : Range). with_ranges told told.name r told.data told.context_name told.context) other
    ∙ ap (λ (r : Range). with_ranges told told.name o r told.context_name told.context) bytes
    ∙ ap (λ (r : Range). with_ranges told told.name o no_range r told.context) e.0
    ∙ ap (λ (r : Range). with_ranges told told.name o no_range (of_context context told.context_name) r) e.1

fit_name : (told x : CallData) → without_places told ≡ record x { name = long_range told.name }
    → long_range told.name ≡ x.name → without_places told ≡ x
fit_name told x h e = h ∙ ap (λ (r : Range). let d : CallData = record x { name = r } in d) e

fit_other : (told x : CallData) → without_places told ≡ record x { other_name = long_range told.other_name }
    → long_range told.other_name ≡ x.other_name → without_places told ≡ x
fit_other told x h e = h ∙ ap (λ (r : Range). let d : CallData = record x { other_name = r } in d) e

fit_data : (told x : CallData) → without_places told ≡ record x { «data» = long_range told.data }
    → long_range told.data ≡ x.data → without_places told ≡ x
fit_data told x h e = h ∙ ap (λ (r : Range). let d : CallData = record x { «data» = r } in d) e

fit_context_name : (told x : CallData) → without_places told ≡ record x { context_name = long_range told.context_name }
    → long_range told.context_name ≡ x.context_name → without_places told ≡ x
fit_context_name told x h e = h ∙ ap (λ (r : Range). let d : CallData = record x { context_name = r } in d) e

fit_context : (told x : CallData) → without_places told ≡ record x { context = long_range told.context }
    → long_range told.context ≡ x.context → without_places told ≡ x
fit_context told x h e = h ∙ ap (λ (r : Range). let d : CallData = record x { context = r } in d) e

fit_has : (told x : CallData) (n : ℕ) → without_places told ≡ record x { has = n } → n ≡ x.has → without_places told ≡ x
fit_has told x n h e = h ∙ ap (λ (n : ℕ). let d : CallData = record x { has = n } in d) e

module _ (q : List ℕ) (echo : Echo) (told : CallData) where
  pub is_told : (c : Call) → TellsByTable q told (of_request echo told) c → IsTold q told.options told.room echo c told
  is_told (call.Lookup ctx parent name) h = record {
    numbers = fit_name told _ (ap without_places h.0) (name_range q told.name name h.1);
    places = h.1;
    others = h.0 ∙ sym (ap (with_its_ranges (call.Lookup ctx parent name)) h.0);
  }
  is_told (call.Forget ctx inode count) h = record {
    numbers = ap without_places h;
    places = tt;
    others = h ∙ sym (ap (with_its_ranges (call.Forget ctx inode count)) h);
  }
  is_told (call.Getattr ctx inode handle) h = record {
    numbers = fit_has told _ _ (ap without_places h) (sym (bit_same handle has.HANDLE));
    places = tt;
    others = h ∙ sym (ap (with_its_ranges (call.Getattr ctx inode handle)) h);
  }
  is_told (call.Setattr ctx inode attr handle valid) h = record {
    numbers = fit_has told _ _ (ap without_places h) (sym (bit_same handle has.HANDLE));
    places = tt;
    others = h ∙ sym (ap (with_its_ranges (call.Setattr ctx inode attr handle valid)) h);
  }
  is_told (call.Readlink ctx inode) h = record {
    numbers = ap without_places h;
    places = tt;
    others = h ∙ sym (ap (with_its_ranges (call.Readlink ctx inode)) h);
  }
  is_told (call.Symlink ctx text parent name ext) h = record {
    numbers = fit_name told _ (fit_other told _ (fit_context_name told _ (fit_context told _ (fit_has told _ _ (ap without_places h.0.0.0) (sym (ap (λ n. bit false has.KILL_SUIDGID + n) (bits ext)))) (context_ranges q told ext.context h.0.1).1) (context_ranges q told ext.context h.0.1).0) (name_range q told.other_name text h.1)) (name_range q told.name name h.0.0.1);
    places = (h.0.0.1, h.1, context_placed q told ext.context h.0.1);
    others = others_of told told.other_name ext.context refl (ap (λ (c : CallData). c.data) h.0.0.0) (context_others q told ext.context h.0.1);
  }
  is_told (call.Mknod ctx inode name mode rdev umask ext) h = record {
    numbers = fit_name told _ (fit_context_name told _ (fit_context told _ (fit_has told _ _ (ap without_places h.0.0) (sym (ap (λ n. bit false has.KILL_SUIDGID + n) (bits ext)))) (context_ranges q told ext.context h.1).1) (context_ranges q told ext.context h.1).0) (name_range q told.name name h.0.1);
    places = (h.0.1, context_placed q told ext.context h.1);
    others = others_of told no_range ext.context (ap (λ (c : CallData). c.other_name) h.0.0) (ap (λ (c : CallData). c.data) h.0.0) (context_others q told ext.context h.1);
  }
  is_told (call.Mkdir ctx parent name mode umask ext) h = record {
    numbers = fit_name told _ (fit_context_name told _ (fit_context told _ (fit_has told _ _ (ap without_places h.0.0) (sym (ap (λ n. bit false has.KILL_SUIDGID + n) (bits ext)))) (context_ranges q told ext.context h.1).1) (context_ranges q told ext.context h.1).0) (name_range q told.name name h.0.1);
    places = (h.0.1, context_placed q told ext.context h.1);
    others = others_of told no_range ext.context (ap (λ (c : CallData). c.other_name) h.0.0) (ap (λ (c : CallData). c.data) h.0.0) (context_others q told ext.context h.1);
  }
  is_told (call.Unlink ctx parent name) h = record {
    numbers = fit_name told _ (ap without_places h.0) (name_range q told.name name h.1);
    places = h.1;
    others = h.0 ∙ sym (ap (with_its_ranges (call.Unlink ctx parent name)) h.0);
  }
  is_told (call.Rmdir ctx parent name) h = record {
    numbers = fit_name told _ (ap without_places h.0) (name_range q told.name name h.1);
    places = h.1;
    others = h.0 ∙ sym (ap (with_its_ranges (call.Rmdir ctx parent name)) h.0);
  }
  is_told (call.Rename ctx olddir oldname newdir newname flags) h = record {
    numbers = fit_name told _ (fit_other told _ (ap without_places h.0.0) (name_range q told.other_name newname h.1)) (name_range q told.name oldname h.0.1);
    places = (h.0.1, h.1);
    others = h.0.0 ∙ sym (ap (with_its_ranges (call.Rename ctx olddir oldname newdir newname flags)) h.0.0);
  }
  is_told (call.Link ctx inode newparent newname) h = record {
    numbers = fit_name told _ (ap without_places h.0) (name_range q told.name newname h.1);
    places = h.1;
    others = h.0 ∙ sym (ap (with_its_ranges (call.Link ctx inode newparent newname)) h.0);
  }
  is_told (call.Open ctx inode kill_priv flags) h = record {
    numbers = ap without_places h;
    places = tt;
    others = h ∙ sym (ap (with_its_ranges (call.Open ctx inode kill_priv flags)) h);
  }
  is_told (call.Read ctx inode handle space size offset owner flags) h = record {
    numbers = fit_has told _ _ (ap without_places h) (sym (bit_same owner has.OWNER));
    places = tt;
    others = h ∙ sym (ap (with_its_ranges (call.Read ctx inode handle space size offset owner flags)) h);
  }
  is_told (call.Write ctx inode handle bytes size offset owner delayed kill_priv flags) h = record {
    numbers = fit_data told _ (fit_has told _ _ (ap without_places h.0) (sym (ap (λ n. n + (bit delayed has.WRITE_CACHE + bit kill_priv has.KILL_SUIDGID)) (bit_same owner has.OWNER)))) (value_range q told.data bytes h.1);
    places = h.1;
    others = h.0 ∙ sym (ap (with_its_ranges (call.Write ctx inode handle bytes size offset owner delayed kill_priv flags)) h.0);
  }
  is_told (call.Statfs ctx inode) h = record {
    numbers = ap without_places h;
    places = tt;
    others = h ∙ sym (ap (with_its_ranges (call.Statfs ctx inode)) h);
  }
  is_told (call.Release ctx inode flags handle flush flock_release owner) h = record {
    numbers = fit_has told _ _ (ap without_places h) (sym (ap (λ n. n + (bit flush has.RELEASE_FLUSH + bit flock_release has.RELEASE_FLOCK_UNLOCK)) (bit_same owner has.OWNER)));
    places = tt;
    others = h ∙ sym (ap (with_its_ranges (call.Release ctx inode flags handle flush flock_release owner)) h);
  }
  is_told (call.Fsync ctx inode datasync handle) h = record {
    numbers = ap without_places h;
    places = tt;
    others = h ∙ sym (ap (with_its_ranges (call.Fsync ctx inode datasync handle)) h);
  }
  is_told (call.Setxattr ctx inode name value flags extra) h = record {
    numbers = fit_name told _ (fit_data told _ (ap without_places h.0.0) (value_range q told.data value h.1)) (name_range q told.name name h.0.1);
    places = (h.0.1, h.1);
    others = h.0.0 ∙ sym (ap (with_its_ranges (call.Setxattr ctx inode name value flags extra)) h.0.0);
  }
  is_told (call.Getxattr ctx inode name size) h = record {
    numbers = fit_name told _ (ap without_places h.0) (name_range q told.name name h.1);
    places = h.1;
    others = h.0 ∙ sym (ap (with_its_ranges (call.Getxattr ctx inode name size)) h.0);
  }
  is_told (call.Listxattr ctx inode size) h = record {
    numbers = ap without_places h;
    places = tt;
    others = h ∙ sym (ap (with_its_ranges (call.Listxattr ctx inode size)) h);
  }
  is_told (call.Removexattr ctx inode name) h = record {
    numbers = fit_name told _ (ap without_places h.0) (name_range q told.name name h.1);
    places = h.1;
    others = h.0 ∙ sym (ap (with_its_ranges (call.Removexattr ctx inode name)) h.0);
  }
  is_told (call.Flush ctx inode handle lock_owner) h = record {
    numbers = ap without_places h;
    places = tt;
    others = h ∙ sym (ap (with_its_ranges (call.Flush ctx inode handle lock_owner)) h);
  }
  is_told (call.Init capable) h = record {
    numbers = ap without_places h;
    places = tt;
    others = h ∙ sym (ap (with_its_ranges (call.Init capable)) h);
  }
  is_told (call.Opendir ctx inode flags) h = record {
    numbers = ap without_places h;
    places = tt;
    others = h ∙ sym (ap (with_its_ranges (call.Opendir ctx inode flags)) h);
  }
  is_told (call.Readdir ctx inode handle size offset) h = record {
    numbers = ap without_places h;
    places = tt;
    others = h ∙ sym (ap (with_its_ranges (call.Readdir ctx inode handle size offset)) h);
  }
  is_told (call.Releasedir ctx inode flags handle) h = record {
    numbers = ap without_places h;
    places = tt;
    others = h ∙ sym (ap (with_its_ranges (call.Releasedir ctx inode flags handle)) h);
  }
  is_told (call.Fsyncdir ctx inode datasync handle) h = record {
    numbers = ap without_places h;
    places = tt;
    others = h ∙ sym (ap (with_its_ranges (call.Fsyncdir ctx inode datasync handle)) h);
  }
  is_told call.Getlk h = record {
    numbers = ap without_places h;
    places = tt;
    others = h ∙ sym (ap (with_its_ranges call.Getlk) h);
  }
  is_told call.Setlk h = record {
    numbers = ap without_places h;
    places = tt;
    others = h ∙ sym (ap (with_its_ranges call.Setlk) h);
  }
  is_told call.Setlkw h = record {
    numbers = ap without_places h;
    places = tt;
    others = h ∙ sym (ap (with_its_ranges call.Setlkw) h);
  }
  is_told (call.Access ctx inode mask) h = record {
    numbers = ap without_places h;
    places = tt;
    others = h ∙ sym (ap (with_its_ranges (call.Access ctx inode mask)) h);
  }
  is_told (call.Create ctx parent name mode kill_priv flags umask ext) h = record {
    numbers = fit_name told _ (fit_context_name told _ (fit_context told _ (fit_has told _ _ (ap without_places h.0.0) (sym (ap (λ n. bit kill_priv has.KILL_SUIDGID + n) (bits ext)))) (context_ranges q told ext.context h.1).1) (context_ranges q told ext.context h.1).0) (name_range q told.name name h.0.1);
    places = (h.0.1, context_placed q told ext.context h.1);
    others = others_of told no_range ext.context (ap (λ (c : CallData). c.other_name) h.0.0) (ap (λ (c : CallData). c.data) h.0.0) (context_others q told ext.context h.1);
  }
  is_told call.Bmap h = record {
    numbers = ap without_places h;
    places = tt;
    others = h ∙ sym (ap (with_its_ranges call.Bmap) h);
  }
  is_told call.Destroy h = record {
    numbers = ap without_places h;
    places = tt;
    others = h ∙ sym (ap (with_its_ranges call.Destroy) h);
  }
  is_told call.Ioctl h = record {
    numbers = ap without_places h;
    places = tt;
    others = h ∙ sym (ap (with_its_ranges call.Ioctl) h);
  }
  is_told call.Poll h = record {
    numbers = ap without_places h;
    places = tt;
    others = h ∙ sym (ap (with_its_ranges call.Poll) h);
  }
  is_told call.NotifyReply h = record {
    numbers = ap without_places h;
    places = tt;
    others = h ∙ sym (ap (with_its_ranges call.NotifyReply) h);
  }
  is_told (call.BatchForget ctx pairs) h = record {
    numbers = fit_data told _ (ap without_places h.0) (ap (λ (n : ℕ). let r : Range = record { at = 0; len = n } in r) h.1);
    places = h.2;
    others = h.0 ∙ sym (ap (with_its_ranges (call.BatchForget ctx pairs)) h.0);
  }
  is_told (call.Fallocate ctx inode handle mode offset len) h = record {
    numbers = ap without_places h;
    places = tt;
    others = h ∙ sym (ap (with_its_ranges (call.Fallocate ctx inode handle mode offset len)) h);
  }
  is_told (call.Lseek ctx inode handle offset whence) h = record {
    numbers = ap without_places h;
    places = tt;
    others = h ∙ sym (ap (with_its_ranges (call.Lseek ctx inode handle offset whence)) h);
  }
  is_told (call.Copyfilerange ctx inode_in handle_in offset_in inode_out handle_out offset_out len flags) h = record {
    numbers = ap without_places h;
    places = tt;
    others = h ∙ sym (ap (with_its_ranges (call.Copyfilerange ctx inode_in handle_in offset_in inode_out handle_out offset_out len flags)) h);
  }
  is_told (call.Syncfs ctx inode) h = record {
    numbers = ap without_places h;
    places = tt;
    others = h ∙ sym (ap (with_its_ranges (call.Syncfs ctx inode)) h);
  }
  is_told call.Tmpfile h = record {
    numbers = ap without_places h;
    places = tt;
    others = h ∙ sym (ap (with_its_ranges call.Tmpfile) h);
  }

-- ---- the request that an INTERRUPT means

picked : (short above other : Bool) (n : ℕ)
    → (if above then 0 else if other then (if short then 0 else n) else 0) ≡ (if short || above || not other then 0 else n)
picked true true true n = refl
picked true true false n = refl
picked true false true n = refl
picked true false false n = refl
picked false true true n = refl
picked false true false n = refl
picked false false true n = refl
picked false false false n = refl

unique_of : (short : Bool) (r : InterruptIn)
    → unique_or_none (if short then Err DecodeMessage else Ok r) ≡ (if short then 0 else r.unique)
unique_of true r = refl
unique_of false r = refl

-- a request is as long as a header and what is after it
short_before : (n : ℕ) (whole : Bool) → nat_lt n 40 ≡ true → nat_lt n 48 ≡ whole → whole ≡ true
short_before n true h k = refl
short_before n false h k = absurd (grind (arith, nat_tests, h, k))

short_after : (n : ℕ) (whole rest : Bool) → nat_lt n 40 ≡ false → nat_lt n 48 ≡ whole → nat_lt (n - 40) 8 ≡ rest
    → whole ≡ rest
short_after n true true h k l = refl
short_after n false false h k l = refl
short_after n true false h k l = absurd (grind (arith, nat_tests, h, k, l))
short_after n false true h k l = absurd (grind (arith, nat_tests, h, k, l))

module _ (limits : Limits) (q : List ℕ) where
  abbrev header : InHeader
  header = value_of in_header q

  abbrev rest : List ℕ
  rest = drop (size_of in_header) q

  by_header : (cut : Bool) → nat_lt (length q) 40 ≡ cut
      → interrupted_or_none limits (if cut then Err DecodeMessage else Ok header) rest ≡ interrupted limits q
  by_header true is =
      let whole = short_before (length q) (nat_lt (length q) 48) is refl in
      ap (λ (b : Bool). if b || nat_lt (max_len limits) header.len || not (header.opcode == number_of Interrupt) then 0
      else (value_of interrupt_in rest).unique) (sym whole)
  by_header false is =
      let whole = short_after (length q) (nat_lt (length q) 48) (nat_lt (length rest) 8) is refl
      (ap (λ (n : ℕ). nat_lt n 8) (sym (length-drop 40 q))) in
      ap (λ (n : ℕ). if nat_lt (max_len limits) header.len then 0 else if header.opcode == number_of Interrupt then n else 0)
      (unique_of (nat_lt (length rest) 8) (value_of interrupt_in rest))
      ∙ picked (nat_lt (length rest) 8) (nat_lt (max_len limits) header.len) (header.opcode == number_of Interrupt)
      (value_of interrupt_in rest).unique
      ∙ ap (λ (b : Bool). if b || nat_lt (max_len limits) header.len || not (header.opcode == number_of Interrupt) then 0
      else (value_of interrupt_in rest).unique) (sym whole)

pub interrupted_same : (limits : Limits) (q : List ℕ) → interrupted_by limits q ≡ interrupted limits q
interrupted_same limits q = by_header limits q (nat_lt (length q) 40) refl
