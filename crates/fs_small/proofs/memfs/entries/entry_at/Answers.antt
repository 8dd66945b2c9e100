use Rattle.std.proofs.Common.{◌≤◌, Some, length, refl, sym, ap, ◌∙◌, arith}
use Rattle.std.proofs.lemmas.Option.{slice_get_read}
use Rattle.fs_small.proofs.RootItems.{slice_get-root_items}
use Rattle.fs_small.proofs.memfs.entries.entry_at.Goals as goal

pub returns-in_default : goal.returns-in_default
returns-in_default c =
    let files = c.args.files.now in
    let following : 2 ≤ c.args.place = omega arith in
    let is =
    slice_get_read files (length files) _ _ refl (omega arith) c.index-files-place.is in
    slice_get-root_items files c.args.place _ following is ∙ ap (λ i. Some i) (sym c.file_entry.ensures)
