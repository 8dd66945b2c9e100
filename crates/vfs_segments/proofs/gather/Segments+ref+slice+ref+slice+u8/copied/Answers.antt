use Rattle.std.proofs.Common.{arith, ap, sym, get_or, drop, take, [], ◌∙◌, ◌≡◌, ◌+◌, ◌-◌, ◌<◌, ◌++◌, length}
use Rattle.std.specs.List.{concat}
use Rattle.vfs_segments.proofs.Lists.{put_after}
use Rattle.vfs_segments.proofs.Flat.{concat-drop_more}
use Rattle.vfs_segments.proofs.Found.{from_place, fits_from}
use Rattle.vfs_segments.proofs.gather.Segments+ref+slice+ref+slice+u8.copied.Goals as goal

pub loop-i-init : goal.loop-i-init
loop-i-init c =
    let xs = c.args.self.now in
    let p = c.place-first in
    let n = c.args.n in
    let none : c.in_ok-bytes.bytes.items ≡ [] = c.in_ok-bytes.ensures.items in
    let size : length c.in_ok-bytes.bytes.items ≡ 0 = ap length none in
    let all : n - length c.in_ok-bytes.bytes.items ≡ n = omega (arith, size) in
    record {
      within = omega (arith, size);
      fits = rw all (fits_from xs p.result.0 p.result.1 c.args.at p.ensures.place n c.requires);
      bytes =
          ap (λ k. c.in_ok-bytes.bytes.items ++ take k (drop p.result.1 (concat (drop p.result.0 xs)))) all
          ∙ ap (λ l. l ++ take n (drop p.result.1 (concat (drop p.result.0 xs)))) none
          ∙ ap (take n) (sym (from_place xs p.result.0 p.result.1 c.args.at p.ensures.place));
    }

pub loop-i-preserved : goal.loop-i-preserved
loop-i-preserved c =
    let i = c.loop-i.i in
    let xs = c.args.self.now in
    let h : i < length xs = omega (arith, c.count-i-end.ensures) in
    let s = get_or xs i [] in
    let more = concat-drop_more xs i h in
    let v = c.loop-i.invariant in
    let old = c.loop-i.bytes.items in
    let long : c.len-in-loop-i.result ≡ length old = c.len-in-loop-i.ensures ∙ c.loop-i.bytes.ok.0 in
    let m = c.min-len.result in
    let from = c.min-from.result in
    let cut : from + m - from ≡ m = omega arith in
    let here = c.segment-segment.ensures in
    let least = rw here at c.min-len.ensures in
    let put = put_after old c.extend_from_slice.new.self.items s (concat (drop (i + 1) xs)) _ _ c.loop-i.skip c.args.n from m (rw here at c.min-from.ensures) (rw long at least) (ap (λ l. take (from + m - from) (drop from l)) here ∙ ap (λ k. take k (drop from s)) cut) v.within (rw more at v.fits) (rw more at v.bytes) c.in_ok-extend_from_slice.ensures.items in
    record { within = put.within_n; fits = put.fits_rest; bytes = put.makes }
