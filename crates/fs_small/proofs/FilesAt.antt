-- The file at a place of the files in memory.
use Rattle.std.proofs.Common.{◌≡◌, ◌<◌, ℕ, zero, suc, List, [], ◌∷◌, length, get_or, set, Some, Result, Ok, Err, Option, refl, sym, ap, ◌∙◌, arith, length-take}
use Rattle.std.proofs.lemmas.List.{get_or-map, set-get_or}
use Rattle.vfs_files.specs.Calls.{Counts, Put, read_answer, written_answer}
use Rattle.vfs_files.specs.Bytes.{part_of, most_put, PutsPart}
use Rattle.fs_small.specs.MemFile.{Writes}
use Rattle.fs_small.specs.MemFs.{Stored, Stock, contents_at, with_contents, AnswersRead, WritesInto}

-- files, and the node of the next one
abbrev pub stock_of : List Stored → ℕ → Stock
stock_of files next = record { files = files; next = next }

-- the contents of a file in its place
contents_at_is : (files : List Stored) (place : ℕ) (file : Stored) → place < length files
    → file ≡ get_or files place file → contents_at files place ≡ file.contents
contents_at_is files place file within is =
    get_or-map (λ (f : Stored). f.contents) files place file [] within
    ∙ ap (λ (f : Stored). f.contents) (sym is)

-- a file with other contents in its place
with_contents_is : (files : List Stored) (place : ℕ) (file : Stored) (bytes : List ℕ)
    → place < length files → file ≡ get_or files place file
    → with_contents files place bytes ≡ set files place (record file { contents = bytes })
with_contents_is [] place file bytes within is = absurd (omega arith)
with_contents_is (f ∷ fs) zero file bytes within is =
    ap (λ (x : Stored). record x { contents = bytes } ∷ fs) (sym is)
with_contents_is (f ∷ fs) (suc place) file bytes within is =
    ap (λ l. f ∷ l) (with_contents_is fs place file bytes (omega arith) is)

-- with its own contents all files are as they were
set-same : (files : List Stored) (place : ℕ) (file : Stored) (bytes : List ℕ)
    → file ≡ get_or files place file → bytes ≡ file.contents
    → set files place (record file { contents = bytes }) ≡ files
set-same files place file bytes is same =
    ap (λ b. set files place (record file { contents = b })) same ∙ ap (set files place) is
    ∙ set-get_or files place file

module _ (old : Stock) (files : List Stored) (next place : ℕ) (file : Stored)
    (whole : stock_of files next ≡ old) (within : place < length files)
    (is : file ≡ get_or files place file) where
  held : contents_at old.files place ≡ file.contents
  held = ap (λ (s : Stock). contents_at s.files place) (sym whole)
      ∙ contents_at_is files place file within is

  -- what was put of the file in its place is what the call answers
  pub answers_read : (room size off : ℕ) (result : Result ℕ (Option ℕ)) (bytes : List ℕ)
      → PutsPart file.contents room size off result bytes
      → Counts result bytes size
      × AnswersRead old (Some place) off (most_put room size) (read_answer result bytes)
  answers_read room size off result bytes p =
      let long = ap length p.part ∙ length-take (most_put room size) _ in
      rw (p.answered) (
        (refl, omega (arith, long), omega (arith, long)),
        ap (λ b. Put b) (p.part ∙ ap (λ b. part_of b off (most_put room size)) (sym held)),
      )

  -- a write of the file in its place is one of the files
  pub writes_into : (off : ℕ) (bytes : List ℕ) (result : Result ℕ (Option ℕ)) (contents : List ℕ)
      → Writes file.contents bytes off result contents
      → WritesInto old (Some place) off bytes (written_answer result)
      (stock_of (set files place (record file { contents = contents })) next)
  writes_into off bytes (Ok count) contents w = (
    contents,
    rw held w,
    ap (λ fs. stock_of fs next) (sym (with_contents_is files place file contents within is))
        ∙ ap (λ (s : Stock). record s { files = with_contents s.files place contents }) whole,
  )
  writes_into off bytes (Err fault) contents w = (
    rw held (w.0, w.1, refl),
    ap (λ fs. stock_of fs next) (set-same files place file contents is w.2) ∙ whole,
  )
