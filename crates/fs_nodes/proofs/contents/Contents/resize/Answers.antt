use Rattle.std.proofs.Common.{◌/◌, nat_lt, cond, filter, ap, ◌∙◌, arith}
use Rattle.std.specs.Map.{keys_of}
use Rattle.fs_nodes.specs.Pages.{byte_at}
use Rattle.fs_nodes.specs.Contents.{Contents, resized}
use Rattle.fs_nodes.proofs.Shown.{resized_longer, resized_shorter}
use Rattle.fs_nodes.proofs.contents.Contents.resize.Goals as goal

pub returns-then-size-self : goal.returns-then-size-self
returns-then-size-self c =
    let s = c.self.inside in
    resized_longer s.pages s.size c.args.size (omega arith) c.self.invariant
    ∙ ap (λ (k : Contents). resized k c.args.size) c.self.view_is

pub returns : goal.returns
returns c =
    let s = c.self.inside in
    resized_shorter s.pages c.cut.new.self c.zero.new.self s.size c.args.size (omega arith)
    c.self.invariant
    (c.cut.ensures.keys
    ∙ ap (λ p. filter (λ n. nat_lt n p) (keys_of s.pages)) c.div_ceil.ensures)
    (λ place. c.cut.ensures.bytes place
    ∙ ap (λ p. cond (nat_lt (place / 4096) p) (byte_at s.pages place) 0) c.div_ceil.ensures)
    c.zero.ensures.keys _ c.zero.ensures.bytes
    ∙ ap (λ (k : Contents). resized k c.args.size) c.self.view_is
