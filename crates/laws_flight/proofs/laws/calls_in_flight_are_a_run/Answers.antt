use Rattle.laws_flight.proofs.Running.{alone_run, flights_run}
use Rattle.laws_flight.proofs.laws.calls_in_flight_are_a_run.Goals as goal

pub returns-clause-flights : goal.returns-clause-flights
returns-clause-flights g c = flights_run g.F.FileSystem.allows g.F.DirIter.DirectoryIterator.gives

pub returns-clause-alone : goal.returns-clause-alone
returns-clause-alone g c = alone_run g.F.FileSystem.allows g.F.DirIter.DirectoryIterator.gives
