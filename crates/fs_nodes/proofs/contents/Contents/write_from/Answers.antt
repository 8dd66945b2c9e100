use Rattle.std.proofs.Common.{◌≡◌, ◌+◌, ◌-◌, ◌/◌, ℕ, List, [], length, take, min, max, sym, ap, ◌∙◌, arith, length-take}
use Rattle.std.specs.Map.{keys_of}
use Rattle.vfs_files.specs.Bytes.{fitting}
use Rattle.fs_nodes.specs.Pages.{byte_at, byte_over, holds, with_pages}
use Rattle.fs_nodes.specs.Contents.{Contents, written, contents_of, pages_over}
use Rattle.fs_nodes.proofs.Fills.{pages_in}
use Rattle.fs_nodes.proofs.Shown.{cut_twice, contents_written}
use Rattle.fs_nodes.proofs.contents.Contents.write_from.Goals as goal

pub fill-requires-clause-held : goal.fill-requires-clause-held
fill-requires-clause-held g c =
    λ place from to.
    let first = c.span-first.ensures.first in
    let end = c.span-first.ensures.end in
    ap (λ ks. holds ks (place / 4096)) c.in_ok-hold.ensures.held
    ∙ pages_in (keys_of c.self.inside.pages) c.span-first.result.0 (c.span-first.result.1 - c.span-first.result.0)
    (place / 4096) (omega (arith, first)) (omega (arith, first, end))

pub returns : goal.returns
returns g c =
    let s = c.self.inside in
    let left = g.R.ZeroCopyReader.left c.args.r.now in
    let off = c.args.offset in
    let count = c.min-count.result in
    let bytes : List ℕ = fitting c.args.most off (take c.args.size left) in
    let k : ℕ = min (min c.args.size (length left)) (c.args.most - off) in
    let fits : bytes ≡ take k left = cut_twice (c.args.most - off) c.args.size left in
    let is : count ≡ k = omega (arith, c.count_left-left.ensures.count) in
    let same : take count (g.R.ZeroCopyReader.left c.count_left-left.new.r) ≡ bytes =
    ap (take count) c.count_left-left.ensures.left ∙ ap (λ n. take n left) is ∙ sym fits in
    let long : length bytes ≡ count =
    omega (arith, ap length fits, length-take k left, is) in
    let end : c.max-self-inside.result ≡ max s.size (off + length bytes) = omega (arith, long, c.max-self-inside.ensures) in
    let first = c.span-first.ensures.first in
    let over : c.span-first.result.1 - c.span-first.result.0 ≡ pages_over off (length bytes) =
    omega (arith, long, first, c.span-first.ensures.end) in
    let pages : keys_of c.hold.new.self ≡ with_pages (keys_of s.pages) (off / 4096) (pages_over off (length bytes)) =
    c.in_ok-hold.ensures.held
    ∙ ap (λ n. with_pages (keys_of s.pages) n (c.span-first.result.1 - c.span-first.result.0)) first
    ∙ ap (with_pages (keys_of s.pages) (off / 4096)) over in
    let takes = g.met.R.ZeroCopyReader.one_then_other c.args.r.now c.count_left-left.new.r c.fill.new.r [] _
    c.count_left-left.ensures.taken c.fill.ensures.taken.1 in (
      c.fill.ensures.taken.0,
      takes,
      (
        sym long,
        ap (contents_of c.fill.new.pages) end
            ∙ contents_written s.pages c.hold.new.self c.fill.new.pages s.size off bytes (omega arith)
            c.self.invariant pages c.hold.ensures.same c.fill.ensures.keys
            (λ place. c.fill.ensures.bytes place
            ∙ ap (λ (l : List ℕ). byte_over off l (byte_at c.hold.new.self) place) same)
            ∙ ap (λ (k : Contents). written k off bytes) c.self.view_is,
      ),
    )
