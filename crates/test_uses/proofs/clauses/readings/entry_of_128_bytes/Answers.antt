use Rattle.vfs_wire.specs.FieldLaws.{length-bytes_of}
use Rattle.vfs_wire.specs.Records.{entry_out}
use Rattle.vfs_files.specs.Values.{entry_out_of}
use Rattle.test_uses.proofs.clauses.readings.entry_of_128_bytes.Goals as goal

pub returns : goal.returns
returns c = λ entry fits. length-bytes_of entry_out (entry_out_of entry) fits
