use Rattle.std.proofs.Common.{◌≡◌, ◌-◌, [], ◌∷◌, length, Some, pos, refl, ap, arith}
use Rattle.vfs_files.specs.Values.{name_of}
use Rattle.vfs_grammar.specs.Listing.{Listing}
use Rattle.codec_calls.specs.declared.data.ItemData.{ItemData}
use Rattle.codec_encode.proofs.One.{one_listed, listed_so}
use Rattle.codec_encode.proofs.uses.list_one.Goals as goal

pub returns : goal.returns
returns c echo listing e t plain =
    let a = record c.default.result { error = pos 0 } in
    let i : ItemData = record { ino = 5; offset = 1; name = c.as_slice.result; entry = c.default-2.result; type_ = 8; error = pos 0 } in
    let named : name_of c.as_slice.result.now ≡ Some (97 ∷ []) = ap name_of c.as_slice.ensures in
    let size : c.args.call.now.size ≡ listing.size = ap (λ (l : Listing). l.size) t.listing_is in
    let space : c.args.call.now.room - 16 ≡ listing.space = ap (λ (l : Listing). l.space) t.listing_is in
    listed_so c.answer.result (length c.args.w.now.left) listing _ _ (omega (arith, c.requires.space)) (omega (arith, size, c.requires.short))
    (λ came h. one_listed i (97 ∷ []) named refl c.args.limits echo listing c.args.call.now.options a c.args.w.now c.answer.new.w came plain
    (omega (arith, size, c.requires.size)) (omega (arith, space, c.requires.space, c.requires.room)) refl h)
    (c.answer.ensures.listings echo listing e t c.requires.room)
