use Rattle.std.proofs.Common.{◌≡◌, refl, arith, length, take, ◌<◌}
use Rattle.std.proofs.lemmas.Grind.{common_steps}
use Rattle.std.specs.Vec.Iter.{into_iter_items}
use Rattle.vfs_server.proofs.Sessions.{session_none, session_more, same_after, passed_on, below_all}
use Rattle.vfs_server.proofs.server.Server.handle_session.Goals as goal

pub loop-reader-init : goal.loop-reader-init
loop-reader-init g c = record { count = refl; parts = c.into_iter-reader-iterator.ensures.into_iter_gives.0; rest = refl; sparing = session_none g.F.FileSystem.allows g.F.DirIter.DirectoryIterator.gives c.runs_join.ensures c.turns_keep_books.ensures c.args.self.now }

pub loop-reader-preserved : goal.loop-reader-preserved
loop-reader-preserved g c =
    let i = c.loop-reader.invariant in
    let before = c.args.writers.now in
    let parts : _ = passed_on c.loop-reader.yielded (into_iter_items c.loop-reader.reader-iterator) (into_iter_items c.next.new.self) c.args.readers.items c.in-Some.reader c.in-Some.ensures.steps.0 i.parts in
    let more = below_all c.loop-reader.yielded (into_iter_items c.loop-reader.reader-iterator) (into_iter_items c.next.new.self) c.args.readers.items c.in-Some.reader c.in-Some.ensures.steps.0 i.parts in
    let all = c.args.readers.ok.0 in
    let b : c.loop-reader.at < length before = omega arith in
    let a : c.loop-reader.at < length c.loop-reader.writers = omega arith in
    let o : c.loop-reader.at < length c.loop-reader.outcomes = omega arith in
    record {
      count = grind (arith, common_steps);
      parts = parts;
      rest = same_after c.loop-reader.writers before c.loop-reader.at c.handle_message.new.w i.rest;
      sparing = session_more g.F.FileSystem.allows g.F.DirIter.DirectoryIterator.gives c.runs_join.ensures c.turns_keep_books.ensures c.args.self.now c.loop-reader.yielded c.in-Some.reader c.loop-reader.writers before c.loop-reader.outcomes c.loop-reader.at c.loop-reader.self c.index-writers-at.result c.handle_message.result c.handle_message.new.w c.handle_message.new.self a b o i.rest i.sparing c.handle_message.ensures.step c.handle_message.ensures.memory c.handle_message.ensures.hold_given_up;
    }

pub returns : goal.returns
returns c d =
    let readers : d.loop-reader.yielded ≡ d.args.readers.items = grind (arith, common_steps) in
    let before : take d.loop-reader.at d.args.writers.now ≡ d.args.writers.now = grind (arith, common_steps) in
    let outcomes : take d.loop-reader.at d.loop-reader.outcomes ≡ d.loop-reader.outcomes = grind (arith, common_steps) in
    let writers : take d.loop-reader.at d.loop-reader.writers ≡ d.loop-reader.writers = grind (arith, common_steps) in
    let sparing = rw (readers, before, outcomes, writers) at d.loop-reader.invariant.sparing in
    record { session = sparing.session; memory = sparing }
