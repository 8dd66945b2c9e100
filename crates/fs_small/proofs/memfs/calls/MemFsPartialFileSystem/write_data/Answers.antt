use Rattle.std.proofs.Common.{◌≡◌, ◌<◌, List, [], length, get_or, Some, None, refl, sym, ap, ◌∙◌, arith}
use Rattle.vfs_files.specs.Calls.{Failed}
use Rattle.fs_small.specs.MemFs.{Stored, Stock, node_place}
use Rattle.fs_small.proofs.FilesAt.{writes_into}
use Rattle.fs_small.proofs.Indexed.{indexed_written}
use Rattle.fs_small.proofs.memfs.calls.MemFsPartialFileSystem.write_data.Goals as goal

pub returns-in_default : goal.returns-in_default
returns-in_default g c =
    let none : node_place c.args.self.now c.args.asked.inode ≡ None = sym c.in_default.ensures.place in (
      [],
      g.met.R.ZeroCopyReader.nothing c.args.r.now,
      rw none (ap (λ f. Failed f) c.not_found.ensures, refl),
    )

pub invariant_of-self : goal.invariant_of-self
invariant_of-self g c =
    let files : List Stored = c.self.inside.files.items in
    let file : Stored = record {
      node = c.file.inside.node;
      name = c.file.inside.name;
      contents = c.file.inside.contents;
    } in
    let is : file ≡ get_or files c.in-Some.place file =
    c.file.view_is ∙ c.index_mut-file.ensures.value
    ∙ ap (get_or files c.in-Some.place) (sym c.file.view_is) in
    let within : c.in-Some.place < length files = omega (
      arith,
      c.in-Some.ensures.within,
      ap (λ (s : Stock). length s.files) c.self.view_is,
    ) in
    indexed_written files c.self.inside.names c.self.inside.next c.self.invariant c.in-Some.place
    file c.write_from.new.self within is

pub returns : goal.returns
returns g c =
    let place = c.in-Some.place in
    let files : List Stored = c.self.inside.files.items in
    let file : Stored = record {
      node = c.file.inside.node;
      name = c.file.inside.name;
      contents = c.file.inside.contents;
    } in
    let is : file ≡ get_or files place file =
    c.file.view_is ∙ c.index_mut-file.ensures.value
    ∙ ap (get_or files place) (sym c.file.view_is) in
    let within : place < length files = omega (
      arith,
      c.in-Some.ensures.within,
      ap (λ (s : Stock). length s.files) c.self.view_is,
    ) in
    let some : node_place c.args.self.now c.args.asked.inode ≡ Some place = sym c.in-Some.ensures.place in
    let t = c.write_from.ensures in (
      t.0,
      t.1,
      rw some
          (writes_into c.args.self.now files c.self.inside.next place file c.self.view_is within is
          _ _ _ _ t.2),
    )
