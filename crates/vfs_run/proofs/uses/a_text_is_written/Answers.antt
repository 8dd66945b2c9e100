use Rattle.vfs_run.proofs.uses.a_text_is_written.Goals as goal

pub returns-in-Ok : goal.returns-in-Ok
returns-in-Ok c whole = rw c.requires at c.in-Ok.ensures.wrote
