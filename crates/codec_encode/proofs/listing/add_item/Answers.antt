use Rattle.std.proofs.Common.{◌≡◌, pos, rules, false}
use Rattle.vfs_files.specs.Values.{item, name_text}
use Rattle.vfs_grammar.specs.Listing.{is_dot}
use Rattle.codec_encode.proofs.Adding.{adds_plain, adds_entry}
use Rattle.codec_encode.proofs.listing.add_item.Goals as goal

pub returns-then-has_left : goal.returns-then-has_left
returns-then-has_left c =
    adds_plain c.args.max c.args.offered.now (name_text c.args.name) c.args.w.now c.add_dirent.result c.add_dirent.new.w c.args.plus
    c.requires (item c.named.result) c.named.ensures c.if-not-plus.true c.add_dirent.ensures

pub returns-then-has_left-2 : goal.returns-then-has_left-2
returns-then-has_left-2 c =
    let dot : is_dot (name_text c.args.name) ≡ false = cc in
    let none : c.args.offered.now.error ≡ pos 0 = search rules in
    adds_entry c.args.max c.args.offered.now (name_text c.args.name) c.args.w.now c.add_dirent-then-has_left-2.result
    c.add_dirent-then-has_left-2.new.w c.args.plus c.requires (item c.named-then-has_left-2.result) c.named-then-has_left-2.ensures
    c.entry.result c.if-plus.true dot none c.entry.ensures c.add_dirent-then-has_left-2.ensures
