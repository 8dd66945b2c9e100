use Rattle.vfs_wire.proofs.init.InitOutByteValued.take.Goals as goal

pub returns-clause-read : goal.returns-clause-read
returns-clause-read c = cc
