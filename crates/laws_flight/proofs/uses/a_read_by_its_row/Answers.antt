use Rattle.vfs_files.specs.Calls.{Read}
use Rattle.laws_flight.proofs.uses.a_read_by_its_row.Goals as goal

pub returns-clause-told : goal.returns-clause-told
returns-clause-told c = λ request told echo ctx inode handle space size offset flags owner row.
    (c.the_table_says_what_is_told.ensures.says request echo (Read ctx inode handle space size offset owner flags) told).1 row

pub returns-clause-alone : goal.returns-clause-alone
returns-clause-alone c = λ request told one other ctx inode handle space size offset flags owner call row same.
    c.the_table_says_what_is_told.ensures.one request other one call (Read ctx inode handle space size offset owner flags) told
    same row
