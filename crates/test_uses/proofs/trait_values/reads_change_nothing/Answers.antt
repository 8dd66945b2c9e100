use Rattle.vfs_files.specs.ReadingLaws.{read_transfer}
use Rattle.test_uses.proofs.trait_values.reads_change_nothing.Goals as goal

pub returns-clause-bytes : goal.returns-clause-bytes
returns-clause-bytes c = λ old moved new offset room answer h. h.same

pub returns-clause-file : goal.returns-clause-file
returns-clause-file c = λ old new moved offset room answer h. (h.0.same, h.1.limit)

pub returns-clause-transfer : goal.returns-clause-transfer
returns-clause-transfer c = λ count room offset old bytes new result h.
    (read_transfer count room offset old bytes result new h).same
