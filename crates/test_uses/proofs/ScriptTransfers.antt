-- Transfers of two files of the tests: one that moves a byte at its first call, and one that takes
-- none.
use Rattle.std.proofs.Common.{◌≡◌, ◌<◌, ◌+◌, ℕ, List, [], ◌∷◌, ◌++◌, length, replicate, Option, Some, None, Result, Ok, Err, refl, ap, ◌∙◌, arith}
use Rattle.std.proofs.lemmas.List.Sums.{sum_by-cons}
use Rattle.vfs_files.specs.Answers.{Counts, Plain, read_answer, written_answer}
use Rattle.vfs_files.specs.Transfers.{Ending, Finished, Stuck, Broken, Past, last_bytes, outcome, bytes_moved, count_moved, reads_of, writes_of, Goes, EndsBy}
use Rattle.vfs_bench.specs.Scripts.{ReadsScript, WritesScript, ReadsFile, WritesFile, called}
use Rattle.vfs_bench.specs.declared.file.ScriptFile.{ScriptFile}

-- an equation of two answers
abbrev Same : Result ℕ (Option ℕ) → Result ℕ (Option ℕ) → Type 0
Same a b = a ≡ b

-- a file that moves that many bytes a call, each of them this
abbrev pub moving : ℕ → ℕ → ScriptFile
moving most byte = record { most = most; fails_at = None; fault = None; byte = byte; calls = 0 }

number_is : (n m : ℕ) → Same (Ok n) (Ok m) → n ≡ m
number_is n m e = cc

no_fault : (fault : Option ℕ) (m : ℕ) → Same (Err fault) (Ok m) → ⊥
no_fault fault m e = cc

module _ (room : ℕ) (some_room : 0 < room) where
  -- after a byte nothing is to be read any more
  then_nothing :
      (part : List ℕ) (row : List (List ℕ × ScriptFile)) (old middle : ScriptFile)
      (ending : Ending) (new : ScriptFile) → length part ≡ 1
      → Goes (reads_of ReadsScript) 1 room 0 (0 + length part) old row middle
      → EndsBy (reads_of ReadsScript) 1 room 0 (length part + count_moved row) middle ending new
      → (row ≡ []) × (ending ≡ Finished) × (new ≡ old)
  then_nothing part [] old middle Finished new one g e = (refl, refl, e.1 ∙ g)
  then_nothing part [] old middle Stuck new one g e = let some = e.0 in absurd (omega arith)
  then_nothing part [] old middle (Broken fault) new one g e =
      let some = e.0 in absurd (omega arith)
  then_nothing part [] old middle (Past last) new one g e =
      let some = e.0.call.0 in absurd (omega arith)
  then_nothing part (c ∷ cs) old middle ending new one g e =
      let some = g.0.call.0 in absurd (omega arith)

  reads_seven :
      (row : List (List ℕ × ScriptFile)) (middle : ScriptFile) (ending : Ending) (new : ScriptFile)
      → Goes (reads_of ReadsScript) 1 room 0 0 (moving 1 7) row middle
      → EndsBy (reads_of ReadsScript) 1 room 0 (count_moved row) middle ending new
      → (outcome (count_moved row) ending ≡ Ok 1)
      × (bytes_moved row ++ last_bytes ending ≡ 7 ∷ [])
      × (new ≡ called (moving 1 7))
  reads_seven [] middle Finished new g e = absurd (omega (arith, e.0))
  reads_seven [] middle Stuck new g e =
      absurd (omega (arith, number_is _ _ (rw g at e).1.answered))
  reads_seven [] middle (Broken fault) new g e = absurd (no_fault _ _ (rw g at e).1.answered)
  reads_seven [] middle (Past part) new g e =
      let within = e.0.within in absurd (omega (arith, e.1))
  reads_seven ((part, old) ∷ cs) middle ending new g e =
      let call = g.0.call.1 in
      let one : length part ≡ 1 = omega (arith, number_is _ _ call.answered) in
      let seven : part ≡ 7 ∷ [] = call.bytes ∙ ap (λ n. replicate n 7) one in
      let sum : count_moved ((part, old) ∷ cs) ≡ length part + count_moved cs =
      sum_by-cons (λ (x : List ℕ × ScriptFile). length x.0) (part, old) cs in
      let nothing = then_nothing part cs old middle ending new one g.2 (rw sum at e) in
      rw (nothing.0, nothing.1)
      (ap Ok (omega (arith, one)), ap (λ l. l ++ [] ++ []) seven, nothing.2 ∙ call.counted)

  -- READ of one byte of the file of sevens
  pub seven_is_read :
      (result : Result ℕ (Option ℕ)) (bytes : List ℕ) (new : Option ScriptFile)
      → Counts result bytes 1
      → ReadsFile (Some (moving 1 7)) room 1 0 (Plain (read_answer result bytes)) new
      → (result ≡ Ok 1) × (bytes ≡ 7 ∷ []) × (new ≡ Some (called (moving 1 7)))
  seven_is_read (Ok n) bytes new counts r =
      let t = r.5 in
      let moved = reads_seven t.row t.middle t.ending r.2 t.goes t.ends in
      let handed = rw (t.answered ∙ moved.0) at r.3 in
      let put : bytes ≡ r.0 = cc in
      let seven : bytes ≡ 7 ∷ [] = put ∙ t.bytes_are ∙ moved.1 in
      (ap Ok (counts.0 ∙ ap length seven), seven, r.4 ∙ ap Some moved.2)
  seven_is_read (Err fault) bytes new counts r =
      let t = r.5 in
      let moved = reads_seven t.row t.middle t.ending r.2 t.goes t.ends in
      let handed = rw (t.answered ∙ moved.0) at r.3 in
      cc

module _ (bytes : List ℕ) (some_byte : 0 < length bytes) where
  takes_none :
      (row : List (List ℕ × ScriptFile)) (middle : ScriptFile) (ending : Ending) (new : ScriptFile)
      → Goes (writes_of WritesScript bytes None) 4096 (length bytes) 0 0 (moving 0 0) row middle
      → EndsBy (writes_of WritesScript bytes None) 4096 (length bytes) 0 (count_moved row) middle ending new
      → (outcome (count_moved row) ending ≡ Ok 0) × (new ≡ called (moving 0 0))
  takes_none [] middle Finished new g e = absurd (omega (arith, e.0))
  takes_none [] middle Stuck new g e = (refl, (rw g at e).1.0.counted)
  takes_none [] middle (Broken fault) new g e = absurd (no_fault _ _ (rw g at e).1.answered)
  takes_none [] middle (Past part) new g e =
      let some = e.0.some in
      absurd (omega (arith, number_is _ _ (rw g at e).0.call.1.0.answered))
  takes_none (c ∷ cs) middle ending new g e =
      let some = g.0.some in
      absurd (omega (arith, number_is _ _ g.0.call.1.0.answered))

  -- WRITE to the file that takes no byte
  pub none_is_taken :
      (result : Result ℕ (Option ℕ)) (new : Option ScriptFile)
      → WritesFile (Some (moving 0 0)) bytes 4096 0 (Plain (written_answer result)) new
      → (result ≡ Ok 0) × (new ≡ Some (called (moving 0 0)))
  none_is_taken (Ok n) new w =
      let t = w.5 in
      let taken = takes_none t.row t.middle t.ending w.2 t.goes t.ends in
      let handed = rw (t.answered ∙ taken.0) at w.3 in
      (cc, w.4 ∙ ap Some taken.1)
  none_is_taken (Err fault) new w =
      let t = w.5 in
      let taken = takes_none t.row t.middle t.ending w.2 t.goes t.ends in
      let handed = rw (t.answered ∙ taken.0) at w.3 in
      cc
