use Rattle.std.proofs.Common.{◌≡◌, ◌-◌, ◌/◌, ap, ◌∙◌, arith}
use Rattle.std.specs.Map.{keys_of}
use Rattle.fs_nodes.specs.Pages.{with_pages}
use Rattle.fs_nodes.specs.Contents.{Contents, allocated, contents_of, pages_over}
use Rattle.fs_nodes.proofs.Shown.{contents_allocated}
use Rattle.fs_nodes.proofs.contents.Contents.allocate.Goals as goal

pub returns : goal.returns
returns c =
    let s = c.self.inside in
    let off = c.args.offset in
    let len = c.args.length in
    let first = c.span-first.ensures.first in
    let over : c.span-first.result.1 - c.span-first.result.0 ≡ pages_over off len =
    omega (arith, first, c.span-first.ensures.end) in
    let pages : keys_of c.hold.new.self ≡ with_pages (keys_of s.pages) (off / 4096) (pages_over off len) =
    c.in_ok-hold.ensures.held
    ∙ ap (λ n. with_pages (keys_of s.pages) n (c.span-first.result.1 - c.span-first.result.0)) first
    ∙ ap (with_pages (keys_of s.pages) (off / 4096)) over in
    record {
      ok = ap (contents_of c.hold.new.self) c.max-self-inside.ensures
          ∙ contents_allocated s.pages c.hold.new.self s.size off len c.args.least c.self.invariant pages c.hold.ensures.same
          ∙ ap (λ (k : Contents). allocated k off len c.args.least) c.self.view_is;
      err = tt;
    }
