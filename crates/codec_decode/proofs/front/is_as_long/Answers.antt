use Rattle.std.proofs.Common.{◌<◌, ℕ, List, [], length}
use Rattle.std.proofs.lemmas.List.{get_or-map, length-map}
use Rattle.std.specs.Borrow.{Bor}
use Rattle.vfs_segments.specs.Segments.{segments_of}
use Rattle.codec_decode.proofs.Gathering.{none_wanted, wanted_less}
use Rattle.codec_decode.proofs.front.is_as_long.Goals as goal

pub returns-then-wanted-eq0 : goal.returns-then-wanted-eq0
returns-then-wanted-eq0 c =
    none_wanted (segments_of c.args.request.now) c.loop-i.i c.args.least c.loop-i.wanted c.loop-i.invariant
    c.if-wanted-eq0.true

pub loop-i-preserved : goal.loop-i-preserved
loop-i-preserved c =
    let within : c.loop-i.i < length (segments_of c.args.request.now) =
    rw (length-map c.args.request.now (λ (s : Bor (List ℕ)). s.now)) c.loop-i-test.true in
    wanted_less (segments_of c.args.request.now) c.loop-i.i c.args.least c.loop-i.wanted c.saturating_sub-wanted.result _
    within (get_or-map (λ (s : Bor (List ℕ)). s.now) c.args.request.now c.loop-i.i _ [] c.loop-i-test.true)
    c.loop-i.invariant c.saturating_sub-wanted.ensures
