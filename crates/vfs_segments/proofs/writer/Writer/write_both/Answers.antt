use Rattle.std.proofs.Common.{◌∙◌, arith}
use Rattle.vfs_segments.proofs.Beginnings.{is_whole, not_whole}
use Rattle.vfs_segments.specs.WrittenLaws.{room_following, wrote_both}
use Rattle.vfs_wire.specs.Fields.{bytes_of}
use Rattle.vfs_wire.specs.FieldLaws.{length-bytes_of}
use Rattle.vfs_segments.proofs.writer.Writer.write_both.Goals as goal

pub returns-then-is_ok-clause-wrote : goal.returns-then-is_ok-clause-wrote
returns-then-is_ok-clause-wrote g c =
    wrote_both c.args.self.now c.write_obj.new.self c.write_obj-2.new.self _ _ c.write_obj.ensures.wrote c.write_obj-2.ensures.wrote

pub returns-else-is_ok-clause-wrote : goal.returns-else-is_ok-clause-wrote
returns-else-is_ok-clause-wrote g c =
    wrote_both c.args.self.now c.write_obj.new.self c.write_obj-2.new.self _ _ c.write_obj.ensures.wrote c.write_obj-2.ensures.wrote

pub returns-then-is_ok-clause-whole : goal.returns-then-is_ok-clause-whole
returns-then-is_ok-clause-whole g c = λ same.
    let x = bytes_of g.T.ByteValued.table c.args.first in
    let size = length-bytes_of g.T.ByteValued.table c.args.first c.write_obj.ensures.in_width ∙ g.met.T.ByteValued.size_is in
    let left = room_following c.args.self.now c.write_obj.new.self x c.write_obj.ensures.wrote in
    let first = is_whole c.write_obj.result _ _ _ c.write_obj.ensures.variant c.is_ok-fits.ensures.value same in
    let second = is_whole c.write_obj-2.result _ _ _ c.write_obj-2.ensures.variant c.is_ok.ensures.value c.if-is_ok.true in
    omega (arith, size, left, first, second)

pub returns-else-is_ok-clause-cut : goal.returns-else-is_ok-clause-cut
returns-else-is_ok-clause-cut g c = λ same.
    let x = bytes_of g.T.ByteValued.table c.args.first in
    let size = length-bytes_of g.T.ByteValued.table c.args.first c.write_obj.ensures.in_width ∙ g.met.T.ByteValued.size_is in
    let left = room_following c.args.self.now c.write_obj.new.self x c.write_obj.ensures.wrote in
    let second = not_whole c.write_obj-2.result _ _ _ c.write_obj-2.ensures.variant c.is_ok.ensures.value c.if-is_ok.false in
    omega (arith, size, left, second)
