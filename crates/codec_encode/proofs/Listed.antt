-- The reply to a READDIR or READDIRPLUS, of the items that were offered.
use Rattle.std.proofs.Common.{◌≡◌, ◌≤◌, ◌<◌, ◌-◌, ◌^◌, ℕ, pos, Bool, true, false, ◌&&◌, ◌==◌, nat_le, nat_lt, List, [], ◌∷◌, ◌++◌, length, Option, Result, Ok, Err, IfOk, inl, inr, refl, sym, ap, subst, ◌∙◌, arith, append-nil, length-drop, sum_by}
use Rattle.std.proofs.lemmas.Bool.Decides.{nat_tests}
use Rattle.std.specs.List.{flat_map}
use Rattle.vfs_segments.specs.Written.{Written, Moves, held_over}
use Rattle.vfs_files.specs.declared.entry.Context.{Context}
use Rattle.vfs_files.specs.Calls.{Readdir, Failed, Data, Counts, IsAnswer, read_answer}
use Rattle.vfs_files.specs.Runs.{Event, Called, OpenedDirectory}
use Rattle.vfs_messages.specs.Rooms.{PutsAfterHeader, Replies}
use Rattle.vfs_grammar.specs.Listing.{Line, Stop, IsListing, AreWritten, Stops, answer_of, line_events, stop_events, line_bytes, line_len}
use Rattle.vfs_grammar.specs.Words.{reply_to}
use Rattle.vfs_listings.specs.Reading.{Puts}
use Rattle.vfs_listings.proofs.Filling.{moves_of, counts_of_listing}
use Rattle.codec_calls.specs.declared.call.CallData.{CallData}
use Rattle.codec_calls.specs.declared.data.AnswerData.{AnswerData}
use Rattle.codec_calls.specs.declared.data.ItemData.{ItemData}
use Rattle.codec_encode.specs.Said.{IsFailed}
use Rattle.codec_encode.specs.Offered.{ReadsOffered, ListsOffered}
use Rattle.codec_encode.specs.Listing.{listing_told, IsListed}
use Rattle.codec_encode.specs.declared.answered.Answered.{Answered}

-- records were put, and perhaps the beginning of one more
records_after : (old held new : Written) (records beyond : List ℕ) → held ≡ held_over old 16 → 16 ≤ length old.left → Puts held (records ++ beyond) new
    → PutsAfterHeader old records new
records_after old held new records beyond e enough puts = record {
  beyond = beyond;
  enough = enough;
  moves = subst (λ (w : Written). Moves w (records ++ beyond) new) e (moves_of held new (records ++ beyond) puts);
}

-- nothing was put
none_after : (old held new : Written) → held ≡ held_over old 16 → 16 ≤ length old.left → new ≡ held → PutsAfterHeader old [] new
none_after old held new e enough same = record {
  beyond = [];
  enough = enough;
  moves = subst (λ (w : Written). Moves w [] new) e (rw same (record {
    passed = sym (append-nil held.passed);
    left = omega arith;
    held_at = refl;
    held = refl;
    lengths = refl;
  }));
}

-- items that were offered and read are a listing of these events and records
abbrev offered_events : (ctx : Context) (parent : ℕ) (plus : Bool) → List Line → Stop → List Event
offered_events ctx parent plus lines stop = flat_map (line_events ctx parent plus) lines ++ stop_events ctx parent plus stop

abbrev listing_of : (ctx : Context) (parent space : ℕ) (plus : Bool) (size : ℕ) (items : List ItemData) (old : Written) (answer : Result ℕ (Option ℕ)) (taken : ℕ) (new : Written)
    → length old.left ≡ space → (r : ReadsOffered plus size items old answer taken new)
    → IsListing plus ctx parent size space (offered_events ctx parent plus r.lines r.stop) (flat_map line_bytes r.lines) answer
listing_of ctx parent space plus size items old answer taken new e r = record {
  lines = r.lines;
  stop = r.stop;
  written = subst (λ n. AreWritten plus size n 0 r.lines) e r.written;
  stops = subst (λ n. Stops plus size n (sum_by line_len r.lines) r.stop) e r.stops;
  events_are = refl;
  records_are = refl;
  answer_is = subst (λ n. answer ≡ answer_of plus size n (sum_by line_len r.lines) r.stop) e r.answer_is;
}

short_by : (answer : Result ℕ (Option ℕ)) (body : List ℕ) (size : ℕ) → Counts answer body size → IfOk answer (λ n. n < 2 ^ 32 - 16)
short_by (Ok n) body size h = omega (arith, h.0, h.2)
short_by (Err fault) body size h = tt

-- how many bytes of records there are leaves room for a header
pub short : (plus : Bool) (size : ℕ) (a : AnswerData) (items : List ItemData) (old : Written) (answer : Result ℕ (Option ℕ)) (taken : ℕ) (new : Written)
    → size < 2 ^ 32 - 16 → ListsOffered plus size a items old answer taken new → IfOk answer (λ n. n < 2 ^ 32 - 16)
short plus size a items old answer taken new small (inl h) = rw h.2 tt
short plus size a items old answer taken new small (inr h) =
    let nobody : Context = record { uid = 0; gid = 0; pid = pos 0 } in
    short_by answer _ size (counts_of_listing plus nobody 0 size (length old.left) _ _ answer (listing_of nobody 0 (length old.left) plus size items old answer taken new refl h.1) small)

module _ (call : CallData) (a : AnswerData) (items : List ItemData) (old held mid : Written) (answer : Result ℕ (Option ℕ)) (came : Answered) (new : Written)
    (holds : held ≡ held_over old 16) (enough : 16 ≤ length old.left) (room : length old.left ≡ call.room) (small : call.size < 2 ^ 32 - 16)
    (kind : (bytes : List ℕ) (size : ℕ) → Counts answer bytes size → IsAnswer (Data size) (read_answer answer bytes))
    (replied : (before : Written) (bytes : List ℕ) (size : ℕ) → PutsAfterHeader before bytes mid → Counts answer bytes size
    → Replies (reply_to call.unique (Data size) (read_answer answer bytes)) before came.outcome new)
    (same_options : came.options ≡ call.options) (none_given : came.given ≡ 0) where
  unopened : (fault : Option ℕ) → IsFailed a fault → answer ≡ Err fault → came.taken ≡ 0 → mid ≡ held → IsListed call a items old came new
  unopened fault failed e none same =
      let l = listing_told call in
      let counted : Counts answer [] call.size = rw e tt in
      record {
        events = Called (Readdir l.ctx l.parent l.handle l.size l.offset) (Failed fault) ∷ [];
        records = [];
        answer = answer;
        read = inl (fault, refl, refl, e);
        offered = (failed, none);
        fits = kind [] call.size counted;
        replied = replied old [] call.size (none_after old held mid holds enough same) counted;
        same_options = same_options;
        none_given = none_given;
      }

  -- the space for records is that which the header leaves
  space : length held.left ≡ call.room - 16
  space = ap (λ (w : Written). length w.left) holds ∙ omega (arith, length-drop 16 old.left, room)

  opened : a.error ≡ pos 0 → ReadsOffered (listing_told call).plus call.size items held answer came.taken mid → IsListed call a items old came new
  opened none r =
      let l = listing_told call in
      let events = offered_events l.ctx l.parent l.plus r.lines r.stop in
      let records = flat_map line_bytes r.lines in
      let listing = listing_of l.ctx l.parent l.space l.plus l.size items held answer came.taken mid space r in
      let counted = counts_of_listing l.plus l.ctx l.parent l.size l.space events records answer listing small in
      record {
        events = OpenedDirectory (Readdir l.ctx l.parent l.handle l.size l.offset) ∷ events;
        records = records;
        answer = answer;
        read = inr (events, refl, listing);
        offered = (none, r.offered, r.taken_is);
        fits = kind records call.size counted;
        replied = replied old records call.size (records_after old held mid records _ holds enough r.puts) counted;
        same_options = same_options;
        none_given = none_given;
      }

  pub listed : ListsOffered (listing_told call).plus call.size a items held answer came.taken mid → IsListed call a items old came new
  listed (inl h) = unopened h.0 h.1 h.2 h.3 h.4
  listed (inr h) = opened h.0 h.1

and_parts : (a b : Bool) → (a && b) ≡ true → (a ≡ true) × (b ≡ true)
and_parts true b h = (refl, h)
and_parts false b h = cc

-- where a directory can be answered
pub can_facts : (space room size : ℕ) → ((space == room) && (nat_le 16 space && nat_lt size (2 ^ 32 - 16))) ≡ true
    → (space ≡ room) × (16 ≤ space) × (size < 2 ^ 32 - 16)
can_facts space room size h =
    let both = and_parts (space == room) (nat_le 16 space && nat_lt size (2 ^ 32 - 16)) h in
    let rest = and_parts (nat_le 16 space) (nat_lt size (2 ^ 32 - 16)) both.1 in
    let a : (space == room) ≡ true = both.0 in
    let b : nat_le 16 space ≡ true = rest.0 in
    let c : nat_lt size (2 ^ 32 - 16) ≡ true = rest.1 in
    (grind (arith, nat_tests), grind (arith, nat_tests), grind (arith, nat_tests))
