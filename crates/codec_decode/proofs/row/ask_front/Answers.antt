use Rattle.std.proofs.Common.{◌≡◌, ◌-◌, ◌∙◌, false, length, take, drop, nat_lt, Result, Ok, refl, ap, sym, subst, arith, length-drop}
use Rattle.std.proofs.lemmas.List.{take_all}
use Rattle.std.proofs.lemmas.Bool.Decides.{nat_tests}
use Rattle.vfs_wire.specs.Records.{in_header}
use Rattle.vfs_wire.specs.declared.headers.InHeader.{InHeader}
use Rattle.vfs_segments.specs.Segments.{segments_of, flat_bytes}
use Rattle.vfs_grammar.specs.Limits.{max_len}
use Rattle.vfs_grammar.specs.Records.{record_of}
use Rattle.vfs_grammar.specs.declared.error.Error.{Error}
use Rattle.codec_decode.specs.Further.{What, Tells, row_of, what_after}
use Rattle.codec_decode.proofs.row.ask_front.Goals as goal

pub returns : goal.returns
returns c =
    let q = c.args.front.now in
    let len = length (flat_bytes (segments_of c.args.request.now)) in
    let h : InHeader = c.part_at-header.result in
    let whole : nat_lt (length q) 40 ≡ false = grind (arith, nat_tests, c.if-front-lt-SIZE.false) in
    let below : nat_lt (max_len c.args.limits) h.len ≡ false = grind (arith, nat_tests, c.max_len.ensures, c.if-header-max_len.false) in
    let read : record_of in_header q ≡ Ok h = rw whole (ap Ok (sym c.part_at-header.ensures.read)) in
    let rest : take (length q - 40) (drop 40 q) ≡ drop 40 q = take_all (length q - 40) (drop 40 q) (omega (arith, length-drop 40 q)) in
    let row : what_after c.args.offers c.args.limits (Ok h) (drop 40 q) len ≡ row_of c.args.offers h (drop 40 q) len = rw below refl in
    let is : what_after c.args.offers c.args.limits (record_of in_header q) (drop 40 q) len ≡ row_of c.args.offers h (drop 40 q) len =
    ap (λ (r : Result InHeader Error). what_after c.args.offers c.args.limits r (drop 40 q) len) read ∙ row in
    subst (λ (w : What). Tells w (λ c. c) c.ask_row.result c.args.call.now c.ask_row.new.call) (sym is) (rw rest at c.ask_row.ensures)
