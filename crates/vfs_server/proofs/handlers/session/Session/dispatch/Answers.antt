-- Where no handler is named, what it is to serve is opened; and a directory is read by one handler for both.
use Rattle.std.proofs.Common.{rules}
use Rattle.vfs_server.specs.Handling.{Serves}
use Rattle.vfs_server.proofs.handlers.session.Session.dispatch.Goals as goal

pub returns-in-Interrupt : goal.returns-in-Interrupt
unfolding Serves
returns-in-Interrupt g c = search rules

pub returns-in-Bmap : goal.returns-in-Bmap
unfolding Serves
returns-in-Bmap g c = search rules

pub returns-in-Destroy : goal.returns-in-Destroy
unfolding Serves
returns-in-Destroy g c = search rules

pub returns-in-Ioctl : goal.returns-in-Ioctl
unfolding Serves
returns-in-Ioctl g c = search rules

pub returns-in-Poll : goal.returns-in-Poll
unfolding Serves
returns-in-Poll g c = search rules

pub returns-in-NotifyReply : goal.returns-in-NotifyReply
unfolding Serves
returns-in-NotifyReply g c = search rules

pub returns-in-SetupMapping : goal.returns-in-SetupMapping
unfolding Serves
returns-in-SetupMapping g c = search rules

pub returns-in-Readdir : goal.returns-in-Readdir
unfolding Serves
returns-in-Readdir g c = rw c.in-Readdir.is c.list.ensures

pub returns-in-Readdirplus : goal.returns-in-Readdirplus
unfolding Serves
returns-in-Readdirplus g c = rw c.in-Readdirplus.is c.list-in-Readdirplus.ensures
