-- A session is a history: its run is cut where each turn ends.
use Rattle.std.proofs.Common.{inl, inr, ℕ, List, [], ◌∷◌, ◌++◌, map, Option, Some, None, Result, refl, ap, sym, subst, ◌∙◌}
use Rattle.vfs_segments.specs.Unread.{Unread}
use Rattle.vfs_segments.specs.Written.{Written}
use Rattle.vfs_files.specs.Values.{Item}
use Rattle.vfs_files.specs.Calls.{Call, Handed}
use Rattle.vfs_files.specs.Runs.{Event, Called, OpenedDirectory, Taken, IsRun}
use Rattle.vfs_files.specs.declared.entry.Context.{Context}
use Rattle.vfs_grammar.specs.Forms.{Ask, Ends, Asks, Lists, WithMemory}
use Rattle.vfs_grammar.specs.Listing.{Listing, given_back}
use Rattle.vfs_grammar.specs.Ask.{ask}
use Rattle.vfs_grammar.specs.Turn.{Turn, AreTurns, Follows, events_in}
use Rattle.vfs_grammar.specs.Words.{IsRead}
use Rattle.vfs_grammar.specs.declared.limits.Limits.{Limits}
use Rattle.vfs_server.specs.Step.{ServerState}
use Rattle.vfs_server.specs.Session.{AreServed}
use Rattle.laws_history.specs.History.{Handled, IsHistory}
use Rattle.laws_history.specs.Sessions.{SessionsAreHistories}

-- the turns of requests in order are turns in order
turns_of_served : (limits : Limits) (options : ℕ) (rs : List Unread) (ws : List Written) (ts : List Turn) (ns : List Written) (after : ℕ)
    → AreServed limits options rs ws ts ns after → AreTurns limits options ts after
turns_of_served limits options [] [] [] [] after are = are
turns_of_served limits options (a ∷ rs) (b ∷ ws) (c ∷ ts) (d ∷ ns) after are = (are.0, are.1.turn, turns_of_served limits are.0 rs ws ts ns after are.2)
turns_of_served limits options [] [] [] (d ∷ ns) after are = absurd are
turns_of_served limits options [] [] (c ∷ ts) ns after are = absurd are
turns_of_served limits options [] (b ∷ ws) ts ns after are = absurd are
turns_of_served limits options (a ∷ rs) [] ts ns after are = absurd are
turns_of_served limits options (a ∷ rs) (b ∷ ws) [] ns after are = absurd are
turns_of_served limits options (a ∷ rs) (b ∷ ws) (c ∷ ts) [] after are = absurd are

-- nothing is taken before a directory is opened
abbrev IsFresh : List Event → Type 0
IsFresh [] = Unit {0}
IsFresh (Called call answer ∷ es) = IsFresh es
IsFresh (OpenedDirectory call ∷ es) = Unit {0}
IsFresh (Taken item ∷ es) = ⊥

fresh_back : (ctx : Context) (o : Option ℕ) → IsFresh (given_back ctx o)
fresh_back ctx None = tt
fresh_back ctx (Some node) = tt

fresh_read : (l : Listing) (es : List Event) (records : List ℕ) (answer : Result ℕ (Option ℕ)) → IsRead l es records answer → IsFresh es
fresh_read l es records answer (inl u) = subst IsFresh (sym u.1) tt
fresh_read l es records answer (inr o) = subst IsFresh (sym o.1) tt

-- the events of a turn are so
fresh_turn : (limits : Limits) (options after : ℕ) (t : Turn) (a : Ask) → Follows t limits options a after → IsFresh t.events
fresh_turn limits options after t (Ends reply) f = subst IsFresh (sym f.0) tt
fresh_turn limits options after t (Asks echo call) f = subst IsFresh (sym f.1) (fresh_back _ _)
fresh_turn limits options after t (Lists echo listing) f = fresh_read listing t.events f.0 f.1 f.2
fresh_turn limits options after t (WithMemory rest) (inl f) = fresh_turn limits options after t rest f
fresh_turn limits options after t (WithMemory rest) (inr f) = subst IsFresh (sym f.0) tt

fresh_both : (es fs : List Event) → IsFresh es → IsFresh fs → IsFresh (es ++ fs)
fresh_both [] fs a b = b
fresh_both (Called call answer ∷ es) fs a b = fresh_both es fs a b
fresh_both (OpenedDirectory call ∷ es) fs a b = tt
fresh_both (Taken item ∷ es) fs a b = absurd a

fresh_turns : (limits : Limits) (options : ℕ) (ts : List Turn) (after : ℕ) → AreTurns limits options ts after → IsFresh (events_in ts)
fresh_turns limits options [] after are = tt
fresh_turns limits options (t ∷ ts) after are =
    fresh_both t.events (events_in ts) (fresh_turn limits options are.0 t (ask limits options _ t.request) are.1) (fresh_turns limits are.0 ts after are.2)

module _ {S I : Type 0} (allows : S → Call → Handed I → S → Type 0) (gives : I → Option Item → I → Type 0) where
  -- such a run needs no iterator at hand
  from_none : (it : Option I) (old : S) (es : List Event) (new : S) → IsRun allows gives it old es new → IsFresh es → IsRun allows gives None old es new
  from_none it old [] new r f = r
  from_none it old (Called call answer ∷ es) new r f = (r.0, r.1, from_none it r.0 es new r.2 f)
  from_none it old (OpenedDirectory call ∷ es) new r f = r
  from_none it old (Taken item ∷ es) new r f = absurd f

  -- a run is two, with a state between them
  abbrev Cut : Option I → S → (es fs : List Event) → S → Type 0
  Cut it old es fs new = (mid : S) × IsRun allows gives it old es mid × IsRun allows gives None mid fs new

  cut : (it : Option I) (old : S) (es fs : List Event) (new : S) → IsRun allows gives it old (es ++ fs) new → IsFresh fs → Cut it old es fs new
  cut it old [] fs new r f = (old, refl, from_none it old fs new r f)
  cut it old (Called call answer ∷ es) fs new r f =
      let c = cut it r.0 es fs new r.2 f in
      (c.0, (r.0, r.1, c.1), c.2)
  cut it old (OpenedDirectory call ∷ es) fs new r f =
      let c = cut (Some r.1) r.0 es fs new r.3 f in
      (c.0, (r.0, r.1, r.2, c.1), c.2)
  cut it old (Taken item ∷ es) fs new r f =
      let c = cut (Some r.1) old es fs new r.4 f in
      (c.0, (r.0, r.1, r.2, r.3, c.1), c.2)

  of_turns : (limits : Limits) (options : ℕ) (fs : S) (ts : List Turn) (after : ℕ) (new : S)
      → AreTurns limits options ts after → IsRun allows gives None fs (events_in ts) new
      → IsHistory allows gives (record { options = options; limits = limits; fs = fs }) (map Handled ts) (record { options = after; limits = limits; fs = new })
  of_turns limits options fs [] after new are r =
      ap (λ (o : ℕ). record { options = o; limits = limits; fs = new }) are ∙ ap (λ (s : S). record { options = options; limits = limits; fs = s }) r
  of_turns limits options fs (t ∷ ts) after new are r =
      let c = cut None fs t.events (events_in ts) new r (fresh_turns limits are.0 ts after are.2) in
      let mid : ServerState S = record { options = are.0; limits = limits; fs = c.0 } in (
        mid,
        record { is_run = c.1; turn = are.1; same_limits = refl },
        of_turns limits are.0 c.0 ts after new are.2 c.2,
      )

  pub of_session : SessionsAreHistories allows gives
  of_session old new readers writers outcomes afters s =
      subst (λ (l : Limits). IsHistory allows gives old (map Handled s.turns) (record { options = new.options; limits = l; fs = new.fs })) (sym s.same_limits)
      (of_turns old.limits old.options old.fs s.turns new.options new.fs
      (turns_of_served old.limits old.options readers writers s.turns afters new.options s.served) s.is_run)
