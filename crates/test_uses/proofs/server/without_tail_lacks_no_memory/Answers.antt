use Rattle.std.proofs.Common.{length}
use Rattle.vfs_grammar.specs.Memory.{header_of}
use Rattle.test_uses.proofs.Callers.{without_tail}
use Rattle.test_uses.proofs.server.without_tail_lacks_no_memory.Goals as goal

pub returns : goal.returns
returns g c =
    c.handle_message.ensures.memory
    (without_tail c.args.server.now.limits c.args.server.now.options (length c.args.w.now.left) _ (header_of c.args.r.left) c.args.r c.requires)
