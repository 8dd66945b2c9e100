use Rattle.std.proofs.Common.{rules}
use Rattle.c_rooms.proofs.codes.told.Goals as goal

pub returns-else-total-lt-HEADER_SIZE-clause-shown : goal.returns-else-total-lt-HEADER_SIZE-clause-shown
returns-else-total-lt-HEADER_SIZE-clause-shown c = search rules
