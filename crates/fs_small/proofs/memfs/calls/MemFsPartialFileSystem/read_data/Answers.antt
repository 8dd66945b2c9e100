use Rattle.std.proofs.Common.{◌≡◌, ◌<◌, List, [], length, get_or, Some, None, refl, sym, ap, ◌∙◌, arith}
use Rattle.vfs_files.specs.Calls.{Failed}
use Rattle.fs_small.specs.MemFs.{Stored, Stock, node_place}
use Rattle.fs_small.proofs.FilesAt.{answers_read}
use Rattle.fs_small.proofs.memfs.calls.MemFsPartialFileSystem.read_data.Goals as goal

pub returns-in_default : goal.returns-in_default
returns-in_default g c =
    let none : node_place c.args.self.now c.args.asked.inode ≡ None = sym c.in_default.ensures.place in (
      [],
      g.met.W.ZeroCopyWriter.nothing c.args.w.now,
      tt,
      rw none (ap (λ f. Failed f) c.not_found.ensures, refl),
    )

pub returns : goal.returns
returns g c =
    let place = c.in-Some.place in
    let files : List Stored = c.self.inside.files.items in
    let file : Stored = record {
      node = c.file.inside.node;
      name = c.file.inside.name;
      contents = c.file.inside.contents;
    } in
    let is : file ≡ get_or files place file =
    c.file.view_is ∙ c.index-file.ensures
    ∙ ap (get_or files place) (sym c.file.view_is) in
    let within : place < length files = omega (
      arith,
      c.in-Some.ensures.within,
      ap (λ (s : Stock). length s.files) c.self.view_is,
    ) in
    let some : node_place c.args.self.now c.args.asked.inode ≡ Some place = sym c.in-Some.ensures.place in
    let same = c.bytes.ensures in
    let t = rw same at c.read_bytes.ensures in
    let a =
    answers_read c.args.self.now files c.self.inside.next place file c.self.view_is within is
    _ _ _ _ _ t.2 in
    (t.0, t.1, a.0, (rw some (a.1), refl))
