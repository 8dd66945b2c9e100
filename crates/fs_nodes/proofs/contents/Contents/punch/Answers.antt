use Rattle.std.proofs.Common.{ap, ◌∙◌, arith}
use Rattle.fs_nodes.specs.Pages.{byte_at}
use Rattle.fs_nodes.specs.Contents.{Contents, punched}
use Rattle.fs_nodes.proofs.Punch.{contents_punched, zeroed_around, zeroed_after, zeroed_within}
use Rattle.fs_nodes.proofs.contents.Contents.punch.Goals as goal

pub returns-then-last-first : goal.returns-then-last-first
returns-then-last-first c =
    let s = c.self.inside in
    let first = c.div_ceil-first.result in
    let zeroed = zeroed_within (byte_at s.pages) (byte_at c.cut_out.new.self) c.args.offset c.args.length first
    c.div_ceil-first.ensures c.cut_out.ensures.bytes (byte_at c.zero.new.self) (omega arith)
    c.zero.ensures.bytes in
    contents_punched s.pages c.zero.new.self s.size c.args.offset c.args.length first c.div_ceil-first.ensures
    (c.zero.ensures.keys ∙ c.cut_out.ensures.keys) zeroed
    ∙ ap (λ (k : Contents). punched k c.args.offset c.args.length) c.self.view_is

pub invariant_of-self-2 : goal.invariant_of-self-2
invariant_of-self-2 c =
    let s = c.self.inside in
    let zeroed = zeroed_around (byte_at s.pages) (byte_at c.cut_out.new.self) c.args.offset c.args.length
    c.div_ceil-first.result c.div_ceil-first.ensures c.cut_out.ensures.bytes (byte_at c.zero-2.new.self)
    (byte_at c.zero-3.new.self) (omega arith) c.zero-2.ensures.bytes c.zero-3.ensures.bytes in
    zeroed_after (byte_at s.pages) (byte_at c.zero-3.new.self) s.size c.args.offset c.args.length zeroed
    c.self.invariant

pub returns : goal.returns
returns c =
    let s = c.self.inside in
    let first = c.div_ceil-first.result in
    let zeroed = zeroed_around (byte_at s.pages) (byte_at c.cut_out.new.self) c.args.offset c.args.length first
    c.div_ceil-first.ensures c.cut_out.ensures.bytes (byte_at c.zero-2.new.self) (byte_at c.zero-3.new.self)
    (omega arith) c.zero-2.ensures.bytes c.zero-3.ensures.bytes in
    contents_punched s.pages c.zero-3.new.self s.size c.args.offset c.args.length first c.div_ceil-first.ensures
    (c.zero-3.ensures.keys ∙ c.zero-2.ensures.keys ∙ c.cut_out.ensures.keys) zeroed
    ∙ ap (λ (k : Contents). punched k c.args.offset c.args.length) c.self.view_is
