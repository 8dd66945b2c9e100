use Rattle.laws_tree.proofs.Readings.{readings_move_a_time}
use Rattle.laws_tree.proofs.laws.readings_move_a_time.Goals as goal

pub returns : goal.returns
returns c = readings_move_a_time
