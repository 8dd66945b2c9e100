use Rattle.test_uses.proofs.ServeCallers.{served-few}
use Rattle.test_uses.proofs.server.serve.serve_too_few_bytes.Goals as goal

pub returns-clause-refused : goal.returns-clause-refused
returns-clause-refused g c =
    (served-few g.F.FileSystem.allows g.F.DirIter.DirectoryIterator.gives c.args.server.now _ 144 c.serve.result c.serve.new.server
    c.serve.ensures.served c.requires).0

pub returns-clause-same : goal.returns-clause-same
returns-clause-same g c =
    (served-few g.F.FileSystem.allows g.F.DirIter.DirectoryIterator.gives c.args.server.now _ 144 c.serve.result c.serve.new.server
    c.serve.ensures.served c.requires).1
