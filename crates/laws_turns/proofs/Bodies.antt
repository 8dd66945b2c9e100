-- Replies to answers: their bodies are short enough for a header to say their length, and each begins
-- with its header.
use Rattle.std.proofs.Common.{◌≡◌, ◌≤◌, ◌+◌, ◌-◌, ◌^◌, ◌<◌, ◌++◌, ℕ, ℤ, List, length, take, Option, pos, ◌-ℤ◌, ap, sym, ◌∙◌, arith, length-append}
use Rattle.std.proofs.lemmas.List.{take_all, take_at}
use Rattle.vfs_wire.specs.Fields.{bytes_of}
use Rattle.vfs_wire.specs.Records.{out_header, attr_out, entry_out, kstatfs, init_out, kstatfs_of}
use Rattle.vfs_wire.specs.declared.headers.OutHeader.{OutHeader}
use Rattle.vfs_wire.specs.FieldLaws.{length-little, length-bytes_of}
use Rattle.vfs_wire_more.specs.Records.{open_out, write_out, getxattr_out}
use Rattle.vfs_wire.specs.declared.init.InitOut.{InitOut}
use Rattle.vfs_files.specs.Answers.{Kind, Quiet, Untold, Data, Agreements, Entries, TimedAttributes, Openings, Creations, Capacities, Texts, TextsOrCounts, Offsets, Writes, IsAnswer, Answer, Done, Failed, Options, Found, Put, Attributes, Opened, Created, Statistics, Text, Count, Offset, Wrote}
use Rattle.vfs_files.specs.Values.{entry_out_of}
use Rattle.vfs_files.specs.declared.entry.Entry.{Entry}
use Rattle.vfs_grammar.specs.Reply.{Reply, NoReply, Bytes, OpenAfter, Echo, body_of, answer_reply, reply_of, fault_reply, body_reply, init_out_of, open_out_of}
use Rattle.vfs_grammar.specs.Words.{fault_number, attr_out_of, getxattr_out_of, write_out_of}
use Rattle.vfs_grammar.specs.Records.{size_of}
use Rattle.vfs_grammar.specs.declared.limits.Limits.{Limits}
use Rattle.vfs_grammar.proofs.Rooms.{length-header, length-fault_reply, length-body_reply}

-- a body that a header can say, with the header in front of it
abbrev pub IsShort : (body : List ℕ) → Type 0
IsShort body = length body < 2 ^ 32 - 16

length-init_out : (r : InitOut) → length (bytes_of init_out r) ≡ 64
length-init_out r = simp (length-append, length-little)

pub init_out_is_short : (r : InitOut) → IsShort (bytes_of init_out r)
init_out_is_short r = omega (arith, length-init_out r)

length-getxattr_out : (n : ℕ) → length (bytes_of getxattr_out (getxattr_out_of n)) ≡ 8
length-getxattr_out n = simp (length-append, length-little)

length-offset : (n : ℕ) → length (body_of (Offset n)) ≡ 8
length-offset n = simp (length-append, length-little)

length-write_out : (n : ℕ) → length (bytes_of write_out (write_out_of n)) ≡ 8
length-write_out n = simp (length-append, length-little)

created_is_short : (entry : Entry) (handle : Option ℕ) (options : ℕ) → IsAnswer Creations (Created entry handle options)
    → IsShort (bytes_of entry_out (entry_out_of entry) ++ bytes_of open_out (open_out_of handle options))
created_is_short entry handle options a =
    omega (
      arith,
      length-append (bytes_of entry_out (entry_out_of entry)) (bytes_of open_out (open_out_of handle options)),
      length-bytes_of entry_out (entry_out_of entry) a.0,
      length-bytes_of open_out (open_out_of handle options) a.1,
    )

-- the body of an answer of the call's kind, its numbers in their widths
bodies_are_short : (kind : Kind) (answer : Answer) → IsAnswer kind answer → IsShort (body_of answer)
bodies_are_short kind Done a = omega arith
bodies_are_short kind (Failed fault) a = omega arith
bodies_are_short kind (Options want) a = omega arith
bodies_are_short (Data size) (Put bytes) a = a.1
bodies_are_short Entries (Found entry) a = omega (arith, length-bytes_of entry_out (entry_out_of entry) a)
bodies_are_short TimedAttributes (Attributes attr timeout) a = omega (arith, length-bytes_of attr_out (attr_out_of attr timeout) a)
bodies_are_short Openings (Opened handle options) a = omega (arith, length-bytes_of open_out (open_out_of handle options) a)
bodies_are_short Creations (Created entry handle options) a = created_is_short entry handle options a
bodies_are_short Capacities (Statistics statistics) a = omega (arith, length-bytes_of kstatfs (kstatfs_of statistics) a)
bodies_are_short Texts (Text bytes) a = a
bodies_are_short TextsOrCounts (Text bytes) a = a
bodies_are_short TextsOrCounts (Count n) a = omega (arith, length-getxattr_out n)
bodies_are_short Offsets (Offset offset) a = omega (arith, length-offset offset)
bodies_are_short Writes (Wrote count) a = omega (arith, length-write_out count)
bodies_are_short _ _ a = absurd a

-- bytes that begin with the header of their own length, which it can say
pub record IsReply (unique : ℕ) (reply : List ℕ) : Type 0 where
  pub error : ℤ
  pub long : size_of out_header ≤ length reply
  pub fits : length reply < 2 ^ 32
  pub header : take (size_of out_header) reply ≡ bytes_of out_header (record { len = length reply; error = error; unique = unique })

pub IsReply-fault : (fault : Option ℕ) (unique : ℕ) → IsReply unique (fault_reply fault unique)
IsReply-fault fault unique =
    let size = length-fault_reply fault unique in
    let e = pos 0 -ℤ pos (fault_number fault) in
    record {
      error = e;
      long = omega (arith, size);
      fits = omega (arith, size);
      header = take_all 16 (fault_reply fault unique) (omega (arith, size))
          ∙ ap (λ (n : ℕ). bytes_of out_header (record { len = n; error = e; unique = unique })) (sym size);
    }

pub IsReply-body : (body : List ℕ) (unique : ℕ) → length body < 2 ^ 32 - 16 → IsReply unique (body_reply body unique)
IsReply-body body unique short =
    let size = length-body_reply body unique in
    let h : OutHeader = record { len = 16 + length body; error = pos 0; unique = unique } in
    record {
      error = pos 0;
      long = omega (arith, size);
      fits = omega (arith, size, short);
      header = take_at (bytes_of out_header h) body 16 (length-header h)
          ∙ ap (λ (n : ℕ). bytes_of out_header (record { len = n; error = pos 0; unique = unique })) (sym size);
    }

IsReply-answer : (body : List ℕ) (unique : ℕ) (answer : Answer) → IsShort body → IsReply unique (answer_reply body unique answer)
IsReply-answer body unique (Failed fault) short = IsReply-fault fault unique
IsReply-answer body unique _ short = IsReply-body body unique short

-- What holds of nothing, and of each reply that begins with its header, holds of what comes back of
-- a call.
pub replies_hold : (P : Reply → Type 0) (limits : Limits) (echo : Echo) (options : ℕ) (kind : Kind) (answer : Answer)
    → IsAnswer kind answer → P NoReply → ((reply : List ℕ) → IsReply echo.unique reply → P (Bytes reply))
    → ((reply : List ℕ) → IsReply echo.unique reply → P (OpenAfter reply)) → P (reply_of limits echo options kind answer)
replies_hold P limits echo options Quiet answer a none bytes open_after = none
replies_hold P limits echo options Untold Done a none bytes open_after = none
replies_hold P limits echo options (Data size) answer a none bytes open_after =
    open_after _ (IsReply-answer (body_of answer) echo.unique answer (bodies_are_short (Data size) answer a))
replies_hold P limits echo options Agreements answer a none bytes open_after =
    let out = init_out_of limits echo.max_readahead options in
    bytes _ (IsReply-answer (bytes_of init_out out) echo.unique answer (init_out_is_short out))
replies_hold P limits echo options kind answer a none bytes open_after =
    bytes _ (IsReply-answer (body_of answer) echo.unique answer (bodies_are_short kind answer a))
