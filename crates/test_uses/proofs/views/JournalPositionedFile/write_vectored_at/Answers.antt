use Rattle.std.proofs.Common.{rules, ap, ◌∙◌, ◌++◌, ◌≡◌, sym, take, append_assoc}
use Rattle.std.specs.List.{concat}
use Rattle.vfs_segments.specs.ViewLaws.{concat-take_more}
use Rattle.test_uses.proofs.views.JournalPositionedFile.write_vectored_at.Goals as goal

pub loop-i-preserved : goal.loop-i-preserved
loop-i-preserved c =
    let i = c.loop-i.i in
    let old = c.args.self.now.bytes.items in
    let more = concat-take_more c.args.view.now i (search rules) in
    let piece = c.get.result.now in
    let whole : c.extend_from_slice.new.self.items ≡ c.loop-i.self.bytes.items ++ piece =
    rw (c.is_err.ensures.negation, c.if-is_err.false) at c.extend_from_slice.ensures.items in
    whole ∙ ap (λ l. l ++ piece) c.loop-i.invariant ∙ append_assoc old (concat (take i c.args.view.now)) piece
    ∙ ap (λ l. old ++ l) (ap (λ l. concat (take i c.args.view.now) ++ l) c.get.ensures ∙ sym more)
