-- A session that grows by one step.
use Rattle.std.proofs.Common.{◌≡◌, ◌≢◌, ℕ, List, [], ◌∷◌, ◌++◌, Option, None, Result, Err, refl, ap, sym, ◌∙◌, append_assoc, subst, get_or, get_or-drop, take, drop, length, ◌+◌, ◌<◌, arith, add-zero, length-append}
use Rattle.std.proofs.Math.ListN.{set}
use Rattle.std.proofs.lemmas.List.{map-append, take_more, take_more_set, drop-drop, drop-set-lt}
use Rattle.vfs_segments.specs.Unread.{Unread}
use Rattle.vfs_segments.specs.Written.{Written}
use Rattle.vfs_files.specs.Values.{Item}
use Rattle.vfs_files.specs.Calls.{Call, Handed}
use Rattle.vfs_files.specs.Runs.{Event, IsRun, RunsJoin}
use Rattle.vfs_grammar.specs.Turn.{Turn, AreTurns, events_in}
use Rattle.vfs_grammar.specs.declared.limits.Limits.{Limits}
use Rattle.vfs_grammar.specs.declared.error.Error.{Error}
use Rattle.vfs_grammar.specs.declared.error.Error.TheVariants.{OutOfMemory}
use Rattle.vfs_server.specs.Memory.{WantsNoMemory}
use Rattle.vfs_server.specs.Step.{ServerState, IsStep, turn_over}
use Rattle.vfs_grammar.specs.Books.{KeepsBooks}
use Rattle.vfs_grammar.proofs.Turns.{events_in-push}
use Rattle.vfs_server.specs.Session.{AreServed}
use Rattle.vfs_server.specs.Sparing.{IsServedSparingly, AreServedSparingly, IsSparing}

module _ (limits : Limits) where
  -- requests in order go on by one more
  served_push : (options : ℕ) (rs : List Unread) (ws : List Written) (ts : List Turn) (ns : List Written) (mid : ℕ) (r : Unread) (w : Written) (t : Turn) (n : Written) (after : ℕ)
      → AreServedSparingly limits options rs ws ts ns mid → IsServedSparingly limits mid r w t n after
      → AreServedSparingly limits options (rs ++ r ∷ []) (ws ++ w ∷ []) (ts ++ t ∷ []) (ns ++ n ∷ []) after
  served_push options [] [] [] [] mid r w t n after are one = (after, subst (λ (o : ℕ). IsServedSparingly limits o r w t n after) are one, refl)
  served_push options (a ∷ rs) (b ∷ ws) (c ∷ ts) (d ∷ ns) mid r w t n after are one = (are.0, are.1, served_push are.0 rs ws ts ns mid r w t n after are.2 one)
  served_push options [] [] [] (d ∷ ns) mid r w t n after are one = absurd are
  served_push options [] [] (c ∷ ts) ns mid r w t n after are one = absurd are
  served_push options [] (b ∷ ws) ts ns mid r w t n after are one = absurd are
  served_push options (a ∷ rs) [] ts ns mid r w t n after are one = absurd are
  served_push options (a ∷ rs) (b ∷ ws) [] ns mid r w t n after are one = absurd are
  served_push options (a ∷ rs) (b ∷ ws) (c ∷ ts) [] mid r w t n after are one = absurd are

  -- the turns of requests in order are turns in order
  turns_of_served : (options : ℕ) (rs : List Unread) (ws : List Written) (ts : List Turn) (ns : List Written) (after : ℕ)
      → AreServed limits options rs ws ts ns after → AreTurns limits options ts after
  turns_of_served options [] [] [] [] after are = are
  turns_of_served options (a ∷ rs) (b ∷ ws) (c ∷ ts) (d ∷ ns) after are = (are.0, are.1.turn, turns_of_served are.0 rs ws ts ns after are.2)
  turns_of_served options [] [] [] (d ∷ ns) after are = absurd are
  turns_of_served options [] [] (c ∷ ts) ns after are = absurd are
  turns_of_served options [] (b ∷ ws) ts ns after are = absurd are
  turns_of_served options (a ∷ rs) [] ts ns after are = absurd are
  turns_of_served options (a ∷ rs) (b ∷ ws) [] ns after are = absurd are
  turns_of_served options (a ∷ rs) (b ∷ ws) (c ∷ ts) [] after are = absurd are

  -- requests that were served sparingly were served
  served_plainly : (options : ℕ) (rs : List Unread) (ws : List Written) (ts : List Turn) (ns : List Written) (after : ℕ)
      → AreServedSparingly limits options rs ws ts ns after → AreServed limits options rs ws ts ns after
  served_plainly options [] [] [] [] after are = are
  served_plainly options (a ∷ rs) (b ∷ ws) (c ∷ ts) (d ∷ ns) after are = (are.0, are.1.served, served_plainly are.0 rs ws ts ns after are.2)
  served_plainly options [] [] [] (d ∷ ns) after are = absurd are
  served_plainly options [] [] (c ∷ ts) ns after are = absurd are
  served_plainly options [] (b ∷ ws) ts ns after are = absurd are
  served_plainly options (a ∷ rs) [] ts ns after are = absurd are
  served_plainly options (a ∷ rs) (b ∷ ws) [] ns after are = absurd are
  served_plainly options (a ∷ rs) (b ∷ ws) (c ∷ ts) [] after are = absurd are

module _ {S I : Type 0} (allows : S → Call → Handed I → S → Type 0) (gives : I → Option Item → I → Type 0) (join : RunsJoin allows gives) (keep : (limits : Limits) (options after : ℕ) (turns : List Turn) → AreTurns limits options turns after → KeepsBooks turns) (old : ServerState S) where
  -- nothing was asked yet
  pub session_none : IsSparing allows gives old [] [] [] [] old
  session_none = record {
    session = record { turns = []; is_run = refl; served = refl; outcomes_are = refl; books = keep old.limits old.options old.options [] refl; same_limits = refl };
    sparing = refl;
  }

  -- a session goes on by one step, which wants no more memory than it may, and leaves no hold
  pub session_push : (readers : List Unread) (writers : List Written) (outcomes : List (Result ℕ Error)) (afters : List Written) (mid : ServerState S) (reader : Unread) (writer : Written) (outcome : Result ℕ Error) (after : Written) (new : ServerState S)
      → IsSparing allows gives old readers writers outcomes afters mid
      → IsStep allows gives mid reader.left writer outcome after new
      → (WantsNoMemory mid.limits mid.options (length writer.left) reader → outcome ≢ Err OutOfMemory) → after.held ≡ 0
      → IsSparing allows gives old (readers ++ reader ∷ []) (writers ++ writer ∷ []) (outcomes ++ outcome ∷ []) (afters ++ after ∷ []) new
  session_push readers writers outcomes afters mid reader writer outcome after new before k memory held =
      let s = before.session in
      let t : Turn = turn_over reader.left writer k.events outcome k.room_after in
      let one : IsServedSparingly mid.limits mid.options reader writer t after new.options =
      record { served = record { request = refl; room = refl; turn = k.turn; leaves = k.leaves; hold_given_up = held }; memory = memory } in
      let more = served_push old.limits old.options readers writers s.turns afters mid.options reader writer t after new.options before.sparing
      (subst (λ (p : Limits). IsServedSparingly p mid.options reader writer t after new.options) s.same_limits one) in
      let served = served_plainly old.limits old.options (readers ++ reader ∷ []) (writers ++ writer ∷ []) (s.turns ++ t ∷ []) (afters ++ after ∷ []) new.options more in
      record {
        session = record {
          turns = s.turns ++ t ∷ [];
          is_run = subst (λ (es : List Event). IsRun allows gives None old.fs es new.fs) (sym (events_in-push s.turns t))
              (join None old.fs mid.fs new.fs (events_in s.turns) k.events s.is_run k.is_run);
          served = served;
          outcomes_are = map-append (λ (t : Turn). t.outcome) s.turns (t ∷ []) ∙ ap (λ xs. xs ++ outcome ∷ []) s.outcomes_are;
          books = keep old.limits old.options new.options (s.turns ++ t ∷ []) (turns_of_served old.limits old.options (readers ++ reader ∷ []) (writers ++ writer ∷ []) (s.turns ++ t ∷ []) (afters ++ after ∷ []) new.options served);
          same_limits = k.same_limits ∙ s.same_limits;
        };
        sparing = more;
      }

-- what is at a place that two lists have in common from there on
same_at : {X : Type 0} (xs ys : List X) (i : ℕ) (d : X) → drop i xs ≡ drop i ys → get_or xs i d ≡ get_or ys i d
same_at xs ys i d e =
    let p : get_or (drop i xs) 0 d ≡ get_or (drop i ys) 0 d = ap (λ zs. get_or zs 0 d) e in
    simp (get_or-drop, add-zero) at p

pub same_after : {X : Type 0} (xs ys : List X) (i : ℕ) (x : X) → drop i xs ≡ drop i ys → drop (i + 1) (set xs i x) ≡ drop (i + 1) ys
same_after xs ys i x e =
    let lt : i < i + 1 = omega arith in
    drop-set-lt (i + 1) xs i x lt ∙ (sym (drop-drop 1 i xs) ∙ (ap (λ zs. drop 1 zs) e ∙ drop-drop 1 i ys))

module _ {S I : Type 0} (allows : S → Call → Handed I → S → Type 0) (gives : I → Option Item → I → Type 0) (join : RunsJoin allows gives) (keep : (limits : Limits) (options after : ℕ) (turns : List Turn) → AreTurns limits options turns after → KeepsBooks turns) (old : ServerState S) where
  -- a session goes on by the step at the next place of the lists
  pub session_more : (readers : List Unread) (reader : Unread) (writers before : List Written) (outcomes : List (Result ℕ Error)) (i : ℕ) (mid : ServerState S) (d : Written) (outcome : Result ℕ Error) (after : Written) (new : ServerState S)
      → i < length writers → i < length before → i < length outcomes → drop i writers ≡ drop i before
      → IsSparing allows gives old readers (take i before) (take i outcomes) (take i writers) mid
      → IsStep allows gives mid reader.left (get_or writers i d) outcome after new
      → (WantsNoMemory mid.limits mid.options (length (get_or writers i d).left) reader → outcome ≢ Err OutOfMemory) → after.held ≡ 0
      → IsSparing allows gives old (readers ++ reader ∷ []) (take (i + 1) before) (take (i + 1) (set outcomes i outcome)) (take (i + 1) (set writers i after)) new
  session_more readers reader writers before outcomes i mid d outcome after new a b c e s k memory held =
      let same : get_or before i d ≡ get_or writers i d = sym (same_at writers before i d e) in
      rw (take_more before i d b, take_more_set outcomes i outcome c, take_more_set writers i after a, same)
      (session_push allows gives join keep old readers (take i before) (take i outcomes) (take i writers) mid reader (get_or writers i d) outcome after new s k memory held)

-- an item goes from the front of what is left to the end of what was taken
pub passed_on : {X : Type 0} (xs ys zs all : List X) (x : X) → ys ≡ x ∷ zs → xs ++ ys ≡ all → (xs ++ x ∷ []) ++ zs ≡ all
passed_on xs ys zs all x e h = append_assoc xs (x ∷ []) zs ∙ (ap (λ ws. xs ++ ws) (sym e) ∙ h)

pub below_all : {X : Type 0} (xs ys zs all : List X) (x : X) → ys ≡ x ∷ zs → xs ++ ys ≡ all → length xs < length all
below_all xs ys zs all x e h = rw (← h, e) (rw (length-append xs (x ∷ zs)) (omega arith))
