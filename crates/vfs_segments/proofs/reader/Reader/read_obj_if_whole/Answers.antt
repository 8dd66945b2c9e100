use Rattle.std.proofs.Common.{rules, arith, ap, sym, ◌+◌, ◌-◌, ◌∙◌, ◌≤◌, length, drop, length-take}
use Rattle.std.proofs.lemmas.Grind.{common_steps}
use Rattle.std.specs.List.{concat}
use Rattle.std.specs.Prelude.{sum}
use Rattle.vfs_wire.specs.Fields.{value_of}
use Rattle.vfs_wire.specs.FieldLaws.{value_of-take}
use Rattle.vfs_segments.specs.Unread.{Unread}
use Rattle.vfs_segments.proofs.Places.{length-left, moved_on}
use Rattle.vfs_segments.proofs.reader.Reader.read_obj_if_whole.Goals as goal

pub returns-clause-value : goal.returns-clause-value
returns-clause-value g c =
    let r = c.self.inside in
    let t = g.T.ByteValued.table in
    let fits : sum t.widths ≤ r.end - r.at = omega (arith, g.met.T.ByteValued.size_is, c.SIZE.ensures, c.available_bytes.ensures.left, ap (λ (u : Unread). length u.left) c.self.view_is, length-take (r.end - r.at) (drop r.at (concat r.segments))) in
    c.record_at-record.ensures.value ∙ sym (value_of-take t (r.end - r.at) (drop r.at (concat r.segments)) fits)
    ∙ ap (λ (u : Unread). value_of t u.left) c.self.view_is

pub returns-clause-moved : goal.returns-clause-moved
returns-clause-moved g c =
    let r = c.self.inside in
    let n = g.T.ByteValued.SIZE in
    let size = c.SIZE-2.ensures in
    let left = length-left r c.self.invariant c.args.self.now c.self.view_is in
    let h : r.at + n ≤ r.end = omega (arith, c.SIZE.ensures, c.available_bytes.ensures.left, left, c.self.invariant.before_end) in
    rw size (moved_on r c.self.invariant c.args.self.now c.self.view_is n h)

pub returns-then-SIZE-available_bytes-clause-none : goal.returns-then-SIZE-available_bytes-clause-none
returns-then-SIZE-available_bytes-clause-none g c = search rules

pub record_at-record-requires : goal.record_at-record-requires
record_at-record-requires g c = grind (arith, common_steps)

pub overflow_add-self : goal.overflow_add-self
overflow_add-self g c = grind (arith, common_steps)

pub invariant_of-self : goal.invariant_of-self
invariant_of-self g c = grind (arith, common_steps)
