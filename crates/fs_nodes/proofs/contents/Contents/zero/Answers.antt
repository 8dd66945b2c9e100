use Rattle.std.proofs.Common.{ap, ◌∙◌}
use Rattle.fs_nodes.specs.Contents.{Contents, zeroed}
use Rattle.fs_nodes.proofs.Punch.{contents_zeroed}
use Rattle.fs_nodes.proofs.contents.Contents.zero.Goals as goal

pub returns : goal.returns
returns c =
    let s = c.self.inside in
    contents_zeroed s.pages c.zero_all.new.self s.size c.args.offset c.args.length c.zero_all.ensures.keys
    c.zero_all.ensures.bytes
    ∙ ap (λ (k : Contents). zeroed k c.args.offset c.args.length) c.self.view_is
