use Rattle.std.proofs.Common.{length}
use Rattle.vfs_flags.specs.Numbers.{opcode_of}
use Rattle.vfs_grammar.specs.Memory.{header_of}
use Rattle.vfs_server.proofs.Memory.{none_wanted}
use Rattle.vfs_server.proofs.Steps.{step_of_hold, read_by_step}
use Rattle.vfs_server.proofs.server.Server.handle_message.Goals as goal

pub returns-clause-step : goal.returns-clause-step
returns-clause-step g c =
    step_of_hold g.F.FileSystem.allows g.F.DirIter.DirectoryIterator.gives c.args.self.now c.args.r.left c.args.w.now c.handle.result c.handle.new.w c.handle.new.self
    (rw c.give_up_hold.ensures at c.handle.ensures.step)

pub returns-clause-directories : goal.returns-clause-directories
returns-clause-directories g c =
    read_by_step g.F.FileSystem.allows g.F.DirIter.DirectoryIterator.gives c.args.self.now c.args.r.left c.args.w.now c.handle.result c.handle.new.w c.handle.new.self
    c.directories_are_read.ensures.stops c.directories_are_read.ensures.whole c.directories_are_read.ensures.few
    (returns-clause-step g c)

pub returns-clause-memory : goal.returns-clause-memory
returns-clause-memory g c = λ none.
    let u = c.args.r in
    (rw c.give_up_hold.ensures at c.handle.ensures.memory) (λ wanted.
    none_wanted c.together_after_a_place.ensures.from u c.args.self.now.limits c.args.self.now.options (length c.args.w.now.left)
    (opcode_of (header_of u.left).opcode) (header_of u.left) none wanted)
