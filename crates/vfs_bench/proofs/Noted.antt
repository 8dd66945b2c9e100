-- The notes of a recorder over a run.
use Rattle.std.proofs.Common.{◌≡◌, Bool, true, false, cond, List, [], ◌∷◌, ◌++◌, Option, Some, length, nat_lt, ap, sym, ◌∙◌, append-nil, append_assoc}
use Rattle.vfs_files.specs.Values.{Item}
use Rattle.vfs_files.specs.Calls.{Call, Handed, Plain, Iterator}
use Rattle.vfs_files.specs.Runs.{Event, Called, OpenedDirectory, Taken, IsRun}
use Rattle.vfs_bench.specs.declared.note.Note.{Note}
use Rattle.vfs_bench.specs.Notes.{note_of_handed, notes_of}
use Rattle.vfs_bench.specs.Recorded.{Recorded, IsNoted, recorded}

-- where no call is missed, there was a place for its note
place_left : (b : Bool) (notes : List Note) (note : Note) (after : List Note) (was is : Bool)
    → after ≡ cond b (notes ++ note ∷ []) notes → is ≡ cond b was true → is ≡ false
    → (was ≡ false) × (after ≡ notes ++ note ∷ [])
place_left true notes note after was is added kept unset = (cc, added)
place_left false notes note after was is added kept unset = cc

-- a call's note is between the notes before it and those of the calls after it
noted : {S : Type 0} (s m t : Recorded S) (note : Note) (rest : List Note)
    → IsNoted s note m → m.missed ≡ false → t.notes ≡ m.notes ++ rest
    → (s.missed ≡ false) × (t.notes ≡ s.notes ++ note ∷ rest)
noted s m t note rest h unset e =
    let p = place_left (nat_lt (length s.notes) s.places) s.notes note m.notes s.missed m.missed h.notes h.missed unset in
    (p.0, e ∙ (ap (λ ns. ns ++ rest) p.1 ∙ append_assoc s.notes (note ∷ []) rest))

module _ {S I : Type 0} (allows : S → Call → Handed I → S → Type 0) (gives : I → Option Item → I → Type 0) where
  -- the new notes over a run are those of its calls
  pub notes-run : (it : Option I) (s : Recorded S) (events : List Event) (t : Recorded S)
      → IsRun (recorded allows) gives it s events t → t.missed ≡ false
      → (s.missed ≡ false) × (t.notes ≡ s.notes ++ notes_of events)
  notes-run it s [] t h unset =
      (ap (λ r. r.missed) (sym h) ∙ unset, ap (λ r. r.notes) h ∙ sym (append-nil s.notes))
  notes-run it s (Called call answer ∷ es) t h unset =
      let r = notes-run it h.0 es t h.2 unset in
      noted s h.0 t (note_of_handed {I = I} call (Plain answer)) (notes_of es) h.1.1 r.0 r.1
  notes-run it s (OpenedDirectory call ∷ es) t h unset =
      let r = notes-run (Some h.1) h.0 es t h.3 unset in
      noted s h.0 t (note_of_handed call (Iterator h.1)) (notes_of es) h.2.1 r.0 r.1
  notes-run it s (Taken item ∷ es) t h unset = notes-run (Some h.1) s es t h.4 unset
