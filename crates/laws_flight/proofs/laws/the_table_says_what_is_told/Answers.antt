use Rattle.laws_flight.proofs.Table.{is_told, row}
use Rattle.laws_flight.proofs.Telling.{told_is_call}
use Rattle.laws_flight.proofs.laws.the_table_says_what_is_told.Goals as goal

pub returns-clause-says : goal.returns-clause-says
returns-clause-says c = λ request echo call told. (
  row request told.options told.room echo told call,
  is_told request echo told call,
)

pub returns-clause-one : goal.returns-clause-one
returns-clause-one c = λ request one other a b told first second.
    told_is_call request told.options told.room one other a b told (is_told request one told a first)
    (is_told request other told b second)
