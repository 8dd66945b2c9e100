-- The turns of the last client: those since an INIT or a DESTROY.
use Rattle.std.proofs.Common.{◌≡◌, ◌||◌, ⊎_elim, ℕ, Bool, true, false, List, [], ◌∷◌, ◌++◌, length, Option, Some, None, Result, Ok, Err, refl, ap, ◌∙◌, if◌then◌else◌}
use Rattle.std.specs.List.{AllByRecursion, list_any, flat_map}
use Rattle.vfs_files.specs.Calls.{Call, Readdir, Answer, kind_of}
use Rattle.vfs_files.specs.Runs.{Event, Called}
use Rattle.vfs_files.specs.declared.entry.Context.{Context}
use Rattle.vfs_grammar.specs.Forms.{Ask, Ends, Asks, Lists, WithMemory}
use Rattle.vfs_grammar.specs.Listing.{Line, Stop, End, At, Got, given_back, node_got, line_events, stop_events, is_dot}
use Rattle.vfs_grammar.specs.Words.{lookup_of, lookups, IsUnopened, IsOpened, IsDirectoryOf}
use Rattle.vfs_grammar.specs.Ask.{ask}
use Rattle.vfs_grammar.specs.Reply.{Reply, reply_of}
use Rattle.vfs_grammar.specs.Room.{unseen}
use Rattle.vfs_grammar.specs.Turn.{Turn, Follows, AreTurns, events_in, node_answered}
use Rattle.vfs_grammar.specs.declared.limits.Limits.{Limits}
use Rattle.fs_tree.specs.State.{State}
use Rattle.laws_tree.specs.Runs.{takes_all, since, ends_client, last_turns}
use Rattle.laws_tree.proofs.Endings.{IsOrdinary, IsEnding, which}

-- ---- lists

pub none_any : {A : Type 0} (test : A → Bool) (xs ys : List A) → list_any test (xs ++ ys)
    ≡ (list_any test xs || list_any test ys)
none_any test [] ys = refl
none_any test (x ∷ xs) ys =
    ap (λ b. test x || b) (none_any test xs ys) ∙ or_assoc (test x) (list_any test xs) (list_any test ys)
  where
    or_assoc : (a b c : Bool) → (a || (b || c)) ≡ ((a || b) || c)
    or_assoc true b c = refl
    or_assoc false b c = refl

or_false : (a b : Bool) → (a || b) ≡ false → (a ≡ false) × (b ≡ false)
or_false true b is = cc is
or_false false b is = (refl, is)

-- where none passes, all are left
pub none_since : {A : Type 0} (test : A → Bool) (xs : List A) → list_any test xs ≡ false
    → since test xs ≡ xs
none_since test [] none = refl
none_since {A} test (x ∷ xs) none =
    let parts = or_false (test x) (list_any test xs) none in
    by (list_any test xs) (test x) parts.1 parts.0
  where
    by : (b t : Bool) → b ≡ false → t ≡ false
        → (if b then since test xs else if t then xs else x ∷ xs) ≡ x ∷ xs
    by true t calm out = cc calm
    by false true calm out = cc out
    by false false calm out = refl

-- of two lists in a row
pub since_both : {A : Type 0} (test : A → Bool) (xs ys : List A)
    → since test (xs ++ ys)
    ≡ (if list_any test ys then since test ys
    else if list_any test xs then since test xs ++ ys else xs ++ ys)
since_both test [] ys = by (list_any test ys) refl
  where
    by : (b : Bool) → list_any test ys ≡ b
        → since test ys ≡ (if b then since test ys else ys)
    by true is = refl
    by false is = none_since test ys is
since_both test (x ∷ xs) ys =
    let more = since_both test xs ys in
    let any = none_any test xs ys in
    ap (λ b. if b then since test (xs ++ ys) else if test x then xs ++ ys else x ∷ (xs ++ ys)) any
    ∙ by (list_any test xs) (list_any test ys) (test x) more
  where
    by : (a b t : Bool)
        → since test (xs ++ ys)
        ≡ (if b then since test ys else if a then since test xs ++ ys else xs ++ ys)
        → (if a || b then since test (xs ++ ys) else if t then xs ++ ys else x ∷ (xs ++ ys))
        ≡ (if b then since test ys
        else if t || a then (if a then since test xs else if t then xs else x ∷ xs) ++ ys
        else (x ∷ xs) ++ ys)
    by true true true more = more
    by true true false more = more
    by true false true more = more
    by true false false more = more
    by false true true more = more
    by false true false more = more
    by false false true more = refl
    by false false false more = refl

-- ---- events of a turn

back_goes_on : (ctx : Context) (node : Option ℕ) → list_any takes_all (given_back ctx node) ≡ false
back_goes_on ctx None = refl
back_goes_on ctx (Some node) = refl

both_go_on : (xs ys : List Event) → list_any takes_all xs ≡ false → list_any takes_all ys ≡ false
    → list_any takes_all (xs ++ ys) ≡ false
both_go_on xs ys one two = none_any takes_all xs ys ∙ ap (λ b. b || list_any takes_all ys) one ∙ two

-- no event of a directory takes all back
module _ (ctx : Context) (parent : ℕ) where
  found_goes_on : (name : List ℕ) (got : Got)
      → list_any takes_all (lookup_of ctx parent name got) ≡ false
  found_goes_on name (Ok (Some entry)) = refl
  found_goes_on name (Ok None) = refl
  found_goes_on name (Err fault) = refl

  lookups_go_on : (plus dot : Bool) (l : Line)
      → list_any takes_all (lookups ctx parent plus dot l) ≡ false
  lookups_go_on false dot l = refl
  lookups_go_on true true l = refl
  lookups_go_on true false l = found_goes_on l.item.name l.got

  line_goes_on : (plus : Bool) (l : Line)
      → list_any takes_all (line_events ctx parent plus l) ≡ false
  line_goes_on plus l = lookups_go_on plus (is_dot l.item.name) l

  lines_go_on : (plus : Bool) (ls : List Line)
      → list_any takes_all (flat_map (line_events ctx parent plus) ls) ≡ false
  lines_go_on plus [] = refl
  lines_go_on plus (l ∷ ls) =
      both_go_on (line_events ctx parent plus l) (flat_map (line_events ctx parent plus) ls)
      (line_goes_on plus l) (lines_go_on plus ls)

  stop_goes_on : (plus : Bool) (stop : Stop)
      → list_any takes_all (stop_events ctx parent plus stop) ≡ false
  stop_goes_on plus End = refl
  stop_goes_on plus (At l) =
      both_go_on (line_events ctx parent plus l) (given_back ctx (node_got l.got))
      (line_goes_on plus l) (back_goes_on ctx (node_got l.got))

directory_goes_on : (plus : Bool) (ctx : Context) (parent handle size offset space : ℕ)
    (events : List Event) (body : List ℕ) (result : Result ℕ (Option ℕ))
    → IsDirectoryOf plus ctx parent handle size offset space events body result
    → list_any takes_all events ≡ false
directory_goes_on plus ctx parent handle size offset space events body result read =
    ⊎_elim
    (λ (u : IsUnopened (Readdir ctx parent handle size offset) events body result).
    ap (list_any takes_all) u.1)
    (λ (o : IsOpened plus (Readdir ctx parent handle size offset) ctx parent size space events body
    result).
    let lines = flat_map (line_events ctx parent plus) o.2.lines in
    let stop = stop_events ctx parent plus o.2.stop in
    ap (list_any takes_all) o.1
    ∙ ap (list_any takes_all) o.2.events_are
    ∙ both_go_on lines stop (lines_go_on ctx parent plus o.2.lines)
    (stop_goes_on ctx parent plus o.2.stop))
    read

-- ---- turns

-- where a turn takes all back, nothing happens after that in it
abbrev pub IsLone : Turn → Type 0
IsLone t = list_any takes_all t.events ≡ true → since takes_all t.events ≡ []

-- where nothing is taken back in it, there is nothing to be said
still_lone : (t : Turn) → list_any takes_all t.events ≡ false → IsLone t
still_lone t none some = cc (none, some)

-- (the state is any)
lone_call : (s : State) (t : Turn) (call : Call) (answer : Answer) (ctx : Context) (space : ℕ)
    (reply : Reply)
    → t.events ≡ Called call answer
    ∷ given_back ctx (unseen space reply (node_answered (kind_of call) answer))
    → IsLone t
lone_call s t call answer ctx space reply is =
    ⊎_elim
    (λ (o : IsOrdinary s call answer).
    let back = given_back ctx (unseen space reply (node_answered (kind_of call) answer)) in
    still_lone t
    (ap (list_any takes_all) is
    ∙ ap (λ b. b || list_any takes_all back) o.goes_on
    ∙ back_goes_on ctx (unseen space reply (node_answered (kind_of call) answer))))
    (λ (e : IsEnding s call answer). λ some.
    let only : t.events ≡ Called call answer ∷ [] =
    is ∙ ap (λ node. Called call answer ∷ given_back ctx (unseen space reply node)) e.unseen in
    ap (since takes_all) only
    ∙ ap (λ (b : Bool). if b then [] else Called call answer ∷ []) e.ends)
    (which s call answer)

lone : (s : State) (limits : Limits) (options : ℕ) (t : Turn) (a : Ask) (after : ℕ)
    → Follows t limits options a after → IsLone t
lone s limits options t (Ends reply) after f = still_lone t (ap (list_any takes_all) f.0)
lone s limits options t (Asks echo call) after f =
    lone_call s t call f.0 echo.ctx (length t.room)
    (reply_of limits echo after (kind_of call) f.0) f.1
lone s limits options t (Lists echo l) after f =
    still_lone t
    (directory_goes_on l.plus l.ctx l.parent l.handle l.size l.offset l.space t.events f.0 f.1 f.2)
lone s limits options t (WithMemory rest) after f =
    ⊎_elim (λ g. lone s limits options t rest after g)
    (λ h. still_lone t (ap (list_any takes_all) h.0)) f

each_lone : (s : State) (limits : Limits) (options : ℕ) (turns : List Turn) (after : ℕ)
    → AreTurns limits options turns after → AllByRecursion IsLone turns
each_lone s limits options [] after are = tt
each_lone s limits options (t ∷ ts) after are = (
  lone s limits options t (ask limits options (length t.room) t.request) are.0 are.1,
  each_lone s limits are.0 ts after are.2,
)

-- the events since then are those of the turns since then
pub record LastTurns (turns : List Turn) : Type 0 where
  pub any : list_any takes_all (events_in turns) ≡ list_any ends_client turns
  pub events : since takes_all (events_in turns) ≡ events_in (last_turns turns)

last_are : (turns : List Turn) → AllByRecursion IsLone turns → LastTurns turns
last_are [] lone = record { any = refl; events = refl }
last_are (t ∷ ts) each =
    let rest = last_are ts each.1 in
    let later = events_in ts in
    record {
      any = none_any takes_all t.events later ∙ ap (λ b. ends_client t || b) rest.any;
      events =
          since_both takes_all t.events later
          ∙ ap (λ b. if b then since takes_all later
          else if ends_client t then since takes_all t.events ++ later else t.events ++ later)
          rest.any
          ∙ by (list_any ends_client ts) (ends_client t) each.0 rest.events;
    }
  where
    by : (b a : Bool) → (a ≡ true → since takes_all t.events ≡ [])
        → since takes_all (events_in ts) ≡ events_in (since ends_client ts)
        → (if b then since takes_all (events_in ts)
        else if a then since takes_all t.events ++ events_in ts else t.events ++ events_in ts)
        ≡ events_in (if b then since ends_client ts else if a then ts else t ∷ ts)
    by true a here rest = rest
    by false true here rest = ap (λ es. es ++ events_in ts) (here refl)
    by false false here rest = refl

pub last_turns_are : (s : State) (limits : Limits) (options : ℕ) (turns : List Turn) (after : ℕ)
    → AreTurns limits options turns after → LastTurns turns
last_turns_are s limits options turns after are =
    last_are turns (each_lone s limits options turns after are)

-- they are turns in order too
pub last_in_order : (limits : Limits) (options : ℕ) (turns : List Turn) (after : ℕ)
    → AreTurns limits options turns after → (first : ℕ) × AreTurns limits first (last_turns turns) after
last_in_order limits options [] after are = (options, are)
last_in_order limits options (t ∷ ts) after are =
    by (list_any ends_client ts) (ends_client t) (last_in_order limits are.0 ts after are.2)
  where
    by : (b a : Bool) → (first : ℕ) × AreTurns limits first (since ends_client ts) after
        → (first : ℕ)
        × AreTurns limits first (if b then since ends_client ts else if a then ts else t ∷ ts) after
    by true a rest = rest
    by false true rest = (are.0, are.2)
    by false false rest = (options, are)
