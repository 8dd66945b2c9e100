use Rattle.test_uses.proofs.ServeCallers.{served-readdir}
use Rattle.test_uses.proofs.server.serve.serve_one_record.Goals as goal

pub returns : goal.returns
returns g c =
    served-readdir g.F.FileSystem.allows g.F.DirIter.DirectoryIterator.gives c.args.server.now c.serve.result c.serve.new.server
    c.serve.ensures.served c.requires
