-- What the clause on directories says of a READDIR that is written out.
use Rattle.std.proofs.Common.{◌≡◌, ◌≤◌, ◌⊎◌, ◌||◌, ℕ, pos, Bool, false, List, [], ◌∷◌, ◌++◌, length, take, nat_lt, Option, Some, None, Result, Ok, Err, ap, ◌∙◌, arith, subst, inl, inr}
use Rattle.std.proofs.lemmas.Bool.Decides.{nat_tests}
use Rattle.std.proofs.lemmas.List.Elements.{All-cons, All-nil}
use Rattle.std.specs.List.{flat_map}
use Rattle.vfs_flags.specs.Numbers.{opcode_of}
use Rattle.vfs_wire.specs.Fields.{little, number, value_of}
use Rattle.vfs_wire.specs.Records.{in_header}
use Rattle.vfs_segments.specs.Written.{Written, whole}
use Rattle.vfs_files.specs.Values.{Item}
use Rattle.vfs_files.specs.Calls.{Call, Failed, Handed}
use Rattle.vfs_files.specs.Runs.{Event, Called, Taken}
use Rattle.vfs_grammar.specs.Directories.{EndsWhole, EndsFull, GoesOn, CameWhole, listing_reply}
use Rattle.vfs_grammar.specs.Listing.{Line, line_bytes, Listing}
use Rattle.vfs_grammar.specs.Ask.{ask}
use Rattle.vfs_grammar.specs.Forms.{Ask, Lists, within}
use Rattle.vfs_grammar.specs.Limits.{max_len}
use Rattle.vfs_grammar.specs.Reply.{Echo, echo_of, body_reply}
use Rattle.vfs_grammar.specs.Room.{IsPutOpen}
use Rattle.vfs_grammar.specs.Turn.{Turn}
use Rattle.vfs_grammar.specs.Words.{IsRead}
use Rattle.vfs_grammar.specs.declared.limits.Limits.{Limits}
use Rattle.vfs_grammar.specs.declared.error.Error.{Error}
use Rattle.vfs_server.specs.Step.{ServerState, ReadsDirectories, turn_over}
use Rattle.test_uses.specs.Requests.{small_readdir, no_directory_reply, no_records_reply, ReadsOneRecord}
use Rattle.test_uses.specs.declared.server.TheConstants.{READDIR}

abbrev small_listing : Listing
small_listing = record { plus = false; ctx = record { uid = 0; gid = 0; pid = pos 0 }; parent = 1; handle = 0; size = 24; offset = 0; space = 24 }

-- what the request asks
ask-readdir : (limits : Limits) (options : ℕ) → 24 ≤ limits.max_buffer → ask limits options 40 READDIR ≡ Lists (echo_of (value_of in_header READDIR)) small_listing
unfolding number opcode_of
ask-readdir limits options h =
    let lists : Bool → Ask = λ b. within (b || false) (value_of in_header READDIR) (Lists (echo_of (value_of in_header READDIR)) small_listing) in
    let in_limit : nat_lt (max_len limits) 80 ≡ false = grind (arith, nat_tests) in
    let few : nat_lt limits.max_buffer 24 ≡ false = grind (arith, nat_tests) in
    ap (λ (above : Bool). within above (value_of in_header READDIR) (lists (nat_lt limits.max_buffer 24))) in_limit ∙ ap lists few

-- where `readdir` failed, its fault is the reply
failed_reply : (events : List Event) (records : List ℕ) (answer : Result ℕ (Option ℕ)) (room : List ℕ) (outcome : Result ℕ Error) (room_after : List ℕ)
    → events ≡ Called small_readdir (Failed (Some 20)) ∷ [] → IsRead small_listing events records answer → IsPutOpen (listing_reply answer records 9) room outcome room_after
    → (outcome ≡ Ok 16) × (take 16 room_after ≡ no_directory_reply)
unfolding little number
failed_reply events records answer room outcome room_after e (inl u) p =
    let fault : u.0 ≡ Some 20 = cc (e, u.1) in
    let is : answer ≡ Err (Some 20) = cc (fault, u.3) in
    let q = subst (λ (a : Result ℕ (Option ℕ)). IsPutOpen (listing_reply a records 9) room outcome room_after) is p in
    (q.says, q.begins)
failed_reply events records answer room outcome room_after e (inr o) p = absurd (cc (e, o.1))

-- the item that events begin with, where they begin with a taking
first_item : List Event → Option (Option Item)
first_item (Taken item ∷ events) = Some item
first_item _ = None

-- where the first taking was the end, there is no record
no_records : (lines : List Line) (records : List ℕ) → records ≡ flat_map line_bytes lines
    → EndsWhole false small_listing.ctx 1 (Taken None ∷ []) lines ⊎ EndsFull false small_listing.ctx 1 24 (Taken None ∷ []) lines records
    → records ≡ []
unfolding first_item
no_records [] records b ends = b
no_records (l ∷ ls) records b (inl e) = absurd (let f : Some None ≡ Some (Some l.item) = ap first_item e in cc)
no_records (l ∷ ls) records b (inr f) = absurd (let g : Some None ≡ Some (Some l.item) = ap first_item f.events_are in cc)

empty_reply : (t : Turn) → CameWhole small_listing 9 (Taken None ∷ []) t → (t.outcome ≡ Ok 16) × (take 16 t.room_after ≡ no_records_reply)
unfolding little number
empty_reply t w =
    let none = no_records w.whole.lines w.records w.whole.records_are w.whole.ends in
    let q = subst (λ (r : List ℕ). IsPutOpen (body_reply r 9) t.room t.outcome t.room_after) none w.replied in
    (q.says, q.begins)

module _ {S I : Type 0} (allows : S → Call → Handed I → S → Type 0) (gives : I → Option Item → I → Type 0) where
  pub seen-readdir : (old : ServerState S) (writer : Written) (outcome : Result ℕ Error) (writer_after : Written) (new : ServerState S)
      → ReadsDirectories allows gives old READDIR writer outcome writer_after new → 24 ≤ old.limits.max_buffer → writer.passed ≡ [] → length writer.left ≡ 40
      → ReadsOneRecord allows gives old.fs outcome (whole writer_after) new.fs
  unfolding number
  seen-readdir old writer outcome writer_after new reads limit passed room =
      let echo : Echo = echo_of (value_of in_header READDIR) in
      let asks : ask old.limits old.options (length writer.left) READDIR ≡ Lists echo small_listing =
      ap (λ (n : ℕ). ask old.limits old.options n READDIR) room ∙ ask-readdir old.limits old.options limit in
      let r = reads echo small_listing asks in
      let t = turn_over READDIR writer r.events outcome r.room_after in
      let kept : whole writer_after ≡ r.room_after = r.leaves.kept ∙ ap (λ (p : List ℕ). p ++ r.room_after) passed in
      record {
        events = r.events;
        is_run = r.is_run;
        few = r.few;
        failed = λ e. rw kept (failed_reply r.events r.stops.records r.stops.answer writer.left outcome r.room_after e r.stops.stops r.stops.replied);
        empty = λ e. rw kept (empty_reply t (r.whole (Taken None ∷ []) e (omega arith) (All-cons GoesOn (Taken None) [] tt (All-nil GoesOn))));
      }
