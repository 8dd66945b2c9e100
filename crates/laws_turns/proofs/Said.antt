-- What the bytes of a reply that fits say is what was answered.
use Rattle.std.proofs.Common.{◌≡◌, ◌<◌, ◌≤◌, ◌-◌, ℕ, Bool, true, false, List, [], ◌∷◌, ◌++◌, length, take, drop, nat_le, if◌then◌else◌, Option, Result, Ok, Err, refl, ap, sym, ◌∙◌, subst, inl, inr, append_assoc, pos, ◌+◌, ◌*◌, ◌/◌, ◌%◌, ◌^◌, bit_or, lit<, zero, suc, slice_index, arith}
use Rattle.std.proofs.lemmas.List.{take_at, drop_at, drop-drop, take-append-drop}
use Rattle.std.proofs.lemmas.Nat.{and_le_r, or_lt}
use Rattle.std.proofs.Math.Nat.{mul-div-le, mul-le-mul_right}
use Rattle.std.specs.declared.time.Duration.{Duration}
use Rattle.vfs_flags.specs.Flags.{supported_fs_options}
use Rattle.vfs_wire.specs.Fields.{Table, Fit, little, number, row, numbers_at, bytes_of, value_of}
use Rattle.vfs_wire.specs.FieldLaws.{length-little, number-little, length-bytes_of, value_of-bytes_of-then}
use Rattle.vfs_wire.specs.Records.{attr_out, entry_out, out_header, init_out}
use Rattle.vfs_wire_more.specs.Records.{open_out, write_out, getxattr_out}
use Rattle.vfs_wire.specs.declared.attributes.Attr.{Attr}
use Rattle.vfs_wire_more.specs.declared.files.WriteOut.{WriteOut}
use Rattle.vfs_wire.specs.declared.headers.OutHeader.{OutHeader}
use Rattle.vfs_wire_more.specs.declared.xattrs.GetxattrOut.{GetxattrOut}
use Rattle.vfs_files.specs.Answers.{Kind, Agreements, Data, Entries, TimedAttributes, Openings, Creations, Capacities, Texts, TextsOrCounts, Offsets, Writes, IsAnswer, Answer, Failed, Options, Found, Put, Attributes, Opened, Created, Statistics, Text, Count, Offset, Wrote, Done, read_answer}
use Rattle.vfs_files.specs.Calls.{Call, Init, kind_of}
use Rattle.vfs_files.specs.Values.{entry_out_of}
use Rattle.vfs_files.specs.Runs.{Called}
use Rattle.vfs_files.specs.declared.entry.Entry.{Entry}
use Rattle.vfs_grammar.specs.Ask.{ask}
use Rattle.vfs_grammar.specs.Forms.{Ask, Ends, Asks, Lists, WithMemory}
use Rattle.vfs_grammar.specs.Listing.{Listing}
use Rattle.laws_turns.specs.Turns.{AnswersWhole, body_in}
use Rattle.vfs_grammar.specs.Limits.{AreLimits, max_pages}
use Rattle.vfs_grammar.specs.Options.{agreed, options_after}
use Rattle.vfs_grammar.specs.Reply.{Bytes, OpenAfter, Echo, reply_of, body_of, body_reply, init_out_of, open_out_of}
use Rattle.vfs_grammar.specs.Words.{attr_out_of, getxattr_out_of, write_out_of, IsRead}
use Rattle.vfs_grammar.specs.Room.{IsReplied}
use Rattle.vfs_grammar.specs.Turn.{Turn, Follows}
use Rattle.vfs_grammar.specs.declared.limits.Limits.{Limits}
use Rattle.vfs_grammar.specs.declared.error.Error.TheVariants.{EncodeMessage}
use Rattle.vfs_grammar.proofs.Rooms.{length-header}
use Rattle.laws_turns.proofs.EachTurn.{after_call, of_its_kind}

-- how many pages a payload takes can be said in two bytes
pages_fit : (limits : Limits) → AreLimits limits → max_pages limits < 256 ^ 2
pages_fit limits are =
    let n : ℕ = limits.max_buffer - 1 in
    let pages : ℕ = n / limits.page_size in
    let whole : limits.page_size * pages ≤ n = mul-div-le n limits.page_size in
    let large : 4096 * pages ≤ limits.page_size * pages = mul-le-mul_right pages are.page in
    let most : limits.max_buffer ≤ 134217728 = are.greatest in
    omega (arith, whole, large, most)

-- bytes that are at the beginning of a room
record Begins (reply room_after : List ℕ) : Type 0 where
  rest : List ℕ
  is : room_after ≡ reply ++ rest

put_begins : (fits : Bool) (reply room room_after : List ℕ) (n : ℕ) → (if fits then Ok (length reply) else Err EncodeMessage) ≡ Ok n
    → room_after ≡ (if fits then reply ++ drop (length reply) room else take (length room) reply) → Begins reply room_after
put_begins true reply room room_after n o left = record { rest = drop (length reply) room; is = left }
put_begins false reply room room_after n o left = absurd (let e = o in cc)

-- an answer of a kind came back
record Says (limits : Limits) (after : ℕ) (answer : Answer) (t : Turn) : Type 0 where
  kind : Kind
  echo : Echo
  of_kind : IsAnswer kind answer
  replied : IsReplied (reply_of limits echo after kind answer) t.room t.outcome t.room_after

listed_says : (limits : Limits) (after : ℕ) (echo : Echo) (l : Listing) (t : Turn) (records : List ℕ) (result : Result ℕ (Option ℕ)) (call : Call) (answer : Answer)
    → IsRead l t.events records result → t.events ≡ Called call answer ∷ [] → IsAnswer (Data l.size) (read_answer result records)
    → IsReplied (reply_of limits echo after (Data l.size) (read_answer result records)) t.room t.outcome t.room_after
    → Says limits after answer t
listed_says limits after echo l t records result call answer (inl u) e a p =
    let x = sym u.1 ∙ e in
    let answered : Failed u.0 ≡ answer = cc in
    let fault : IsAnswer (Data l.size) (Failed u.0) = subst (λ r. IsAnswer (Data l.size) (read_answer r records)) u.3 a in
    let replied : IsReplied (reply_of limits echo after (Data l.size) (Failed u.0)) t.room t.outcome t.room_after =
    subst (λ r. IsReplied (reply_of limits echo after (Data l.size) (read_answer r records)) t.room t.outcome t.room_after) u.3 p in
    let says : Says limits after (Failed u.0) t = record { kind = Data l.size; echo = echo; of_kind = fault; replied = replied } in
    subst (λ (y : Answer). Says limits after y t) answered says
listed_says limits after echo l t records result call answer (inr o) e a p = absurd (let x = sym o.1 ∙ e in cc)

says : (limits : Limits) (options : ℕ) (a : Ask) (t : Turn) (after : ℕ) (call : Call) (answer : Answer)
    → Follows t limits options a after → t.events ≡ Called call answer ∷ [] → Says limits after answer t
says limits options (Ends reply) t after call answer f e = absurd (let a = sym f.0 ∙ e in cc)
says limits options (Asks echo c) t after call answer f e =
    let a = sym f.1 ∙ e in
    let answered : f.0 ≡ answer = cc in
    let it : Says limits after f.0 t = record { kind = kind_of c; echo = echo; of_kind = f.2; replied = f.3 } in
    subst (λ (y : Answer). Says limits after y t) answered it
says limits options (Lists echo l) t after call answer f e = listed_says limits after echo l t f.0 f.1 call answer f.2 e f.3 f.4
says limits options (WithMemory rest) t after call answer (inl f) e = says limits options rest t after call answer f e
says limits options (WithMemory rest) t after call answer (inr f) e = absurd (let a = sym f.0 ∙ e in cc)

answered_says : (limits : Limits) (options : ℕ) (answer : Answer) (t : Turn) (after : ℕ) → AnswersWhole limits options answer t after → Says limits after answer t
answered_says limits options answer t after a = says limits options (ask limits options (length t.room) t.request) t after a.call answer a.turn a.called

-- ---- by the answer

-- the room after the header begins with the body
following : (body room_after : List ℕ) (unique : ℕ) → (b : Begins (body_reply body unique) room_after) → body_in room_after ≡ body ++ b.rest
following body room_after unique b =
    let h : OutHeader = record { len = 16 + length body; error = pos 0; unique = unique } in
    ap (drop 16) (b.is ∙ append_assoc (bytes_of out_header h) body b.rest) ∙ drop_at (bytes_of out_header h) (body ++ b.rest) 16 (length-header h)

decoded : {R : Type 0} (table : Table R) (x : R) (room_after : List ℕ) (unique : ℕ) → Fit table.widths (table.fields x) → table.made (table.fields x) ≡ x
    → Begins (body_reply (bytes_of table x) unique) room_after → value_of table (body_in room_after) ≡ x
decoded table x room_after unique fit again b =
    ap (value_of table) (following (bytes_of table x) room_after unique b) ∙ value_of-bytes_of-then table x b.rest fit again

-- the k-th number of a row is read from its place, where it is in its width
number_in_row : (k i : ℕ) (ws xs bytes rest : List ℕ) → drop i bytes ≡ row ws xs ++ rest → length xs ≡ length ws → k < length ws
    → slice_index xs k < 256 ^ slice_index ws k → slice_index (numbers_at i ws bytes) k ≡ slice_index xs k
number_in_row k i [] xs bytes rest e l h fit = absurd (omega arith)
number_in_row k i (w ∷ ws) [] bytes rest e l h fit = absurd (omega arith)
number_in_row zero i (w ∷ ws) (x ∷ xs) bytes rest e l h fit =
    ap (number w) (e ∙ append_assoc (little w x) (row ws xs) rest) ∙ number-little w x (row ws xs ++ rest) fit
number_in_row (suc k) i (w ∷ ws) (x ∷ xs) bytes rest e l h fit =
    let parts : drop i bytes ≡ little w x ++ (row ws xs ++ rest) = e ∙ append_assoc (little w x) (row ws xs) rest in
    let others : drop (i + w) bytes ≡ row ws xs ++ rest =
    sym (drop-drop w i bytes) ∙ ap (drop w) parts ∙ drop_at (little w x) (row ws xs ++ rest) w (length-little w x) in
    number_in_row k (i + w) ws xs bytes rest others (omega arith) (omega arith) fit

module _ (limits : Limits) (echo : Echo) (after : ℕ) (t : Turn) (len : ℕ) (fits : t.outcome ≡ Ok len) where
  SaidBy : Kind → Answer → Type 0
  SaidBy kind answer = IsReplied (reply_of limits echo after kind answer) t.room t.outcome t.room_after

  -- the room begins with a body that came back after its header
  said : (body : List ℕ) → IsReplied (Bytes (body_reply body echo.unique)) t.room t.outcome t.room_after
      → Begins (body_reply body echo.unique) t.room_after
  said body p =
      put_begins (nat_le (length (body_reply body echo.unique)) (length t.room)) (body_reply body echo.unique) t.room t.room_after len (sym p.says ∙ fits) p.leaves

  said_openly : (body : List ℕ) → IsReplied (OpenAfter (body_reply body echo.unique)) t.room t.outcome t.room_after
      → Begins (body_reply body echo.unique) t.room_after
  said_openly body p =
      let size = length (body_reply body echo.unique) in
      record {
        rest = drop size t.room_after;
        is = sym (take-append-drop size t.room_after) ∙ ap (λ (l : List ℕ). l ++ drop size t.room_after) p.begins;
      }

  entry_by : (kind : Kind) (entry : Entry) → IsAnswer kind (Found entry) → SaidBy kind (Found entry)
      → value_of entry_out (body_in t.room_after) ≡ entry_out_of entry
  unfolding SaidBy
  entry_by Entries entry a b = decoded entry_out (entry_out_of entry) t.room_after echo.unique a refl (said _ b)
  entry_by _ entry a b = absurd a

  attributes_by : (kind : Kind) (attributes : Attr) (timeout : Duration) → IsAnswer kind (Attributes attributes timeout) → SaidBy kind (Attributes attributes timeout)
      → value_of attr_out (body_in t.room_after) ≡ attr_out_of attributes timeout
  unfolding SaidBy
  attributes_by TimedAttributes attributes timeout a b = decoded attr_out (attr_out_of attributes timeout) t.room_after echo.unique a refl (said _ b)
  attributes_by _ attributes timeout a b = absurd a

  opening_by : (kind : Kind) (handle : Option ℕ) (how : ℕ) → IsAnswer kind (Opened handle how) → SaidBy kind (Opened handle how)
      → value_of open_out (body_in t.room_after) ≡ open_out_of handle how
  unfolding SaidBy
  opening_by Openings handle how a b = decoded open_out (open_out_of handle how) t.room_after echo.unique a refl (said _ b)
  opening_by _ handle how a b = absurd a

  creation_by : (kind : Kind) (entry : Entry) (handle : Option ℕ) (how : ℕ) → IsAnswer kind (Created entry handle how) → SaidBy kind (Created entry handle how)
      → (value_of entry_out (body_in t.room_after) ≡ entry_out_of entry) × (value_of open_out (drop 128 (body_in t.room_after)) ≡ open_out_of handle how)
  unfolding SaidBy
  creation_by Creations entry handle how a p =
      let first = bytes_of entry_out (entry_out_of entry) in
      let second = bytes_of open_out (open_out_of handle how) in
      let b = said (first ++ second) p in
      let parts : body_in t.room_after ≡ first ++ (second ++ b.rest) = following (first ++ second) t.room_after echo.unique b ∙ append_assoc first second b.rest in
      let size : length first ≡ 128 = length-bytes_of entry_out (entry_out_of entry) a.0 in (
        ap (value_of entry_out) parts ∙ value_of-bytes_of-then entry_out (entry_out_of entry) (second ++ b.rest) a.0 refl,
        ap (λ (l : List ℕ). value_of open_out (drop 128 l)) parts ∙ ap (value_of open_out) (drop_at first (second ++ b.rest) 128 size)
            ∙ value_of-bytes_of-then open_out (open_out_of handle how) b.rest a.1 refl,
      )
  creation_by _ entry handle how a b = absurd a

  count_by : (kind : Kind) (size : ℕ) → IsAnswer kind (Count size) → SaidBy kind (Count size) → (value_of getxattr_out (body_in t.room_after)).size ≡ size
  unfolding SaidBy
  count_by TextsOrCounts size a b =
      ap (λ (r : GetxattrOut). r.size) (decoded getxattr_out (getxattr_out_of size) t.room_after echo.unique (a, (lit< tt, tt)) refl (said _ b))
  count_by _ size a b = absurd a

  written_by : (kind : Kind) (count : ℕ) → IsAnswer kind (Wrote count) → SaidBy kind (Wrote count) → (value_of write_out (body_in t.room_after)).size ≡ count
  unfolding SaidBy
  written_by Writes count a b =
      ap (λ (r : WriteOut). r.size) (decoded write_out (write_out_of count) t.room_after echo.unique (a, (lit< tt, tt)) refl (said _ b))
  written_by _ count a b = absurd a

  bytes_by : (bytes : List ℕ) → Begins (body_reply bytes echo.unique) t.room_after → take (length bytes) (body_in t.room_after) ≡ bytes
  bytes_by bytes b = ap (take (length bytes)) (following bytes t.room_after echo.unique b) ∙ take_at bytes b.rest (length bytes) refl

  -- the body of an answer, by its kind; no other kind has a body
  body_by : (kind : Kind) (answer : Answer) → IsAnswer kind answer → SaidBy kind answer
      → take (length (body_of answer)) (body_in t.room_after) ≡ body_of answer
  unfolding SaidBy
  body_by kind Done a b = refl
  body_by kind (Failed fault) a b = refl
  body_by kind (Options want) a b = refl
  body_by (Data size) (Put bytes) a b = bytes_by bytes (said_openly bytes b)
  body_by Entries (Found entry) a b = bytes_by _ (said _ b)
  body_by TimedAttributes (Attributes attributes timeout) a b = bytes_by _ (said _ b)
  body_by Openings (Opened handle how) a b = bytes_by _ (said _ b)
  body_by Creations (Created entry handle how) a b = bytes_by _ (said _ b)
  body_by Capacities (Statistics statistics) a b = bytes_by _ (said _ b)
  body_by Texts (Text bytes) a b = bytes_by bytes (said bytes b)
  body_by TextsOrCounts (Text bytes) a b = bytes_by bytes (said bytes b)
  body_by TextsOrCounts (Count size) a b = bytes_by _ (said _ b)
  body_by Offsets (Offset offset) a b = bytes_by _ (said _ b)
  body_by Writes (Wrote count) a b = bytes_by _ (said _ b)
  body_by _ _ a b = absurd a

  max_write_by : (kind : Kind) (want : ℕ) → IsAnswer kind (Options want) → SaidBy kind (Options want) → limits.max_buffer < 256 ^ 4
      → (value_of init_out (body_in t.room_after)).max_write ≡ limits.max_buffer
  unfolding SaidBy
  max_write_by Agreements want a p small =
      let out = init_out_of limits echo.max_readahead after in
      let b = said (bytes_of init_out out) p in
      number_in_row 6 0 init_out.widths (init_out.fields out) (body_in t.room_after) b.rest (following (bytes_of init_out out) t.room_after echo.unique b) refl (lit< tt) small
  max_write_by _ want a b small = absurd a

  max_pages_by : (kind : Kind) (want : ℕ) → IsAnswer kind (Options want) → SaidBy kind (Options want) → max_pages limits < 256 ^ 2
      → (value_of init_out (body_in t.room_after)).max_pages ≡ max_pages limits
  unfolding SaidBy
  max_pages_by Agreements want a p small =
      let out = init_out_of limits echo.max_readahead after in
      let b = said (bytes_of init_out out) p in
      number_in_row 8 0 init_out.widths (init_out.fields out) (body_in t.room_after) b.rest (following (bytes_of init_out out) t.room_after echo.unique b) refl (lit< tt) small
  max_pages_by _ want a b small = absurd a

  -- the two words of flags in INIT's reply are the options together
  flags_by : (kind : Kind) (want : ℕ) → IsAnswer kind (Options want) → SaidBy kind (Options want) → after < 2 ^ 64
      → (value_of init_out (body_in t.room_after)).flags + 2 ^ 32 * (value_of init_out (body_in t.room_after)).flags2 ≡ after
  unfolding SaidBy
  flags_by Agreements want a p small =
      let out = init_out_of limits echo.max_readahead after in
      let b = said (bytes_of init_out out) p in
      let begins = following (bytes_of init_out out) t.room_after echo.unique b in
      let low : (value_of init_out (body_in t.room_after)).flags ≡ after % 2 ^ 32 =
      number_in_row 3 0 init_out.widths (init_out.fields out) (body_in t.room_after) b.rest begins refl (lit< tt) (omega arith) in
      let high : (value_of init_out (body_in t.room_after)).flags2 ≡ after / 2 ^ 32 =
      number_in_row 10 0 init_out.widths (init_out.fields out) (body_in t.room_after) b.rest begins refl (lit< tt) (omega arith) in
      omega (arith, low, high)
  flags_by _ want a b small = absurd a

agreed_small : (offered want : ℕ) → want < 2 ^ 64 → agreed offered want < 2 ^ 64
agreed_small offered want h =
    omega (arith, and_le_r offered (bit_or want supported_fs_options), or_lt 64 want supported_fs_options h (lit< tt))

-- only INIT is answered by options
options_small : (call : Call) (want options : ℕ) → IsAnswer (kind_of call) (Options want) → options_after call (Options want) options < 2 ^ 64
options_small (Init offered) want options a = agreed_small offered want a
options_small _ want options a = absurd a

module _ (limits : Limits) (options after : ℕ) (t : Turn) where
  pub flags_said : (want : ℕ) → AnswersWhole limits options (Options want) t after
      → (value_of init_out (body_in t.room_after)).flags + 2 ^ 32 * (value_of init_out (body_in t.room_after)).flags2 ≡ after
  unfolding SaidBy
  flags_said want a =
      let is = after_call limits options (ask limits options (length t.room) t.request) t after a.call (Options want) a.turn a.called in
      let small = options_small a.call want options (of_its_kind limits options after a.call (Options want) [] t a.turn a.called) in
      let s = answered_says limits options (Options want) t after a in
      flags_by limits s.echo after t a.len a.fits s.kind want s.of_kind s.replied (omega (arith, is, small))

  pub max_write_said : (want : ℕ) → AnswersWhole limits options (Options want) t after → limits.max_buffer < 256 ^ 4
      → (value_of init_out (body_in t.room_after)).max_write ≡ limits.max_buffer
  unfolding SaidBy
  max_write_said want a small =
      let s = answered_says limits options (Options want) t after a in
      max_write_by limits s.echo after t a.len a.fits s.kind want s.of_kind s.replied small

  pub max_pages_said : (want : ℕ) → AnswersWhole limits options (Options want) t after → AreLimits limits
      → (value_of init_out (body_in t.room_after)).max_pages ≡ max_pages limits
  unfolding SaidBy
  max_pages_said want a are =
      let s = answered_says limits options (Options want) t after a in
      max_pages_by limits s.echo after t a.len a.fits s.kind want s.of_kind s.replied (pages_fit limits are)

  pub entry_said : (entry : Entry) → AnswersWhole limits options (Found entry) t after → value_of entry_out (body_in t.room_after) ≡ entry_out_of entry
  unfolding SaidBy
  entry_said entry a = let s = answered_says limits options (Found entry) t after a in entry_by limits s.echo after t a.len a.fits s.kind entry s.of_kind s.replied

  pub attributes_said : (attributes : Attr) (timeout : Duration) → AnswersWhole limits options (Attributes attributes timeout) t after
      → value_of attr_out (body_in t.room_after) ≡ attr_out_of attributes timeout
  unfolding SaidBy
  attributes_said attributes timeout a =
      let s = answered_says limits options (Attributes attributes timeout) t after a in
      attributes_by limits s.echo after t a.len a.fits s.kind attributes timeout s.of_kind s.replied

  pub opening_said : (handle : Option ℕ) (how : ℕ) → AnswersWhole limits options (Opened handle how) t after
      → value_of open_out (body_in t.room_after) ≡ open_out_of handle how
  unfolding SaidBy
  opening_said handle how a =
      let s = answered_says limits options (Opened handle how) t after a in
      opening_by limits s.echo after t a.len a.fits s.kind handle how s.of_kind s.replied

  pub creation_said : (entry : Entry) (handle : Option ℕ) (how : ℕ) → AnswersWhole limits options (Created entry handle how) t after
      → (value_of entry_out (body_in t.room_after) ≡ entry_out_of entry) × (value_of open_out (drop 128 (body_in t.room_after)) ≡ open_out_of handle how)
  unfolding SaidBy
  creation_said entry handle how a =
      let s = answered_says limits options (Created entry handle how) t after a in
      creation_by limits s.echo after t a.len a.fits s.kind entry handle how s.of_kind s.replied

  pub count_said : (size : ℕ) → AnswersWhole limits options (Count size) t after → (value_of getxattr_out (body_in t.room_after)).size ≡ size
  unfolding SaidBy
  count_said size a = let s = answered_says limits options (Count size) t after a in count_by limits s.echo after t a.len a.fits s.kind size s.of_kind s.replied

  pub written_said : (count : ℕ) → AnswersWhole limits options (Wrote count) t after → (value_of write_out (body_in t.room_after)).size ≡ count
  unfolding SaidBy
  written_said count a = let s = answered_says limits options (Wrote count) t after a in written_by limits s.echo after t a.len a.fits s.kind count s.of_kind s.replied

  pub body_said : (answer : Answer) → AnswersWhole limits options answer t after → take (length (body_of answer)) (body_in t.room_after) ≡ body_of answer
  unfolding SaidBy
  body_said answer a = let s = answered_says limits options answer t after a in body_by limits s.echo after t a.len a.fits s.kind answer s.of_kind s.replied
