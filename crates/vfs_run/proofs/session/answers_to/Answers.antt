use Rattle.std.proofs.Common.{List, map, Result, Ok, Err, OnOk, sym, ap, ◌∙◌, subst}
use Rattle.std.proofs.lemmas.Simd.{map-map}
use Rattle.vfs_segments.specs.Segments.{segments_of, flat_bytes}
use Rattle.vfs_segments.specs.Written.{Written}
use Rattle.vfs_server.specs.Session.{IsSession}
use Rattle.vfs_run.specs.Session.{segments_asked}
use Rattle.vfs_run.proofs.session.answers_to.Goals as goal

on_any : {T E P : Type 0} (r : Result T E) → P → OnOk r P
on_any (Ok v) p = p
on_any (Err e) p = tt

pub returns-clause-session : goal.returns-clause-session
returns-clause-session g c =
    let slices = c.in_ok-slices.slices.items in
    let Handled : List Written → Type 0 = λ rooms.
    IsSession g.F.FileSystem.allows g.F.DirIter.DirectoryIterator.gives c.args.server.now
    c.in_ok-readers.readers.items rooms c.handle_session.new.outcomes
    c.handle_session.new.writers c.handle_session.new.self in
    on_any c.answer_lines.result (record {
      readers = c.in_ok-readers.readers.items;
      outcomes = c.handle_session.new.outcomes;
      writers = c.handle_session.new.writers;
      bytes =
          c.in_ok-readers.ensures.bytes
          ∙ ap (map (λ s. flat_bytes (segments_of s.items))) c.deref.ensures.value
          ∙ sym (map-map flat_bytes (λ s. segments_of s.items) slices)
          ∙ ap (map flat_bytes) c.in_ok-slices.ensures
          ∙ map-map flat_bytes segments_asked c.args.requests.now;
      session =
          subst Handled (c.deref_mut.ensures.value ∙ c.in_ok-writers.ensures.rooms)
          c.handle_session.ensures.session;
    })
