use Rattle.std.proofs.Common.{◌≡◌, ◌≢◌, pos, rules, true, false, refl}
use Rattle.vfs_files.specs.Values.{item, name_text}
use Rattle.vfs_grammar.specs.Listing.{is_dot}
use Rattle.codec_calls.specs.Values.{IsFaultOf}
use Rattle.codec_encode.proofs.Adding.{adds_plain, adds_dot, adds_entry, adds_fault}
use Rattle.codec_encode.proofs.listing.add_anywhere.Goals as goal

pub returns-then-not-plus : goal.returns-then-not-plus
returns-then-not-plus c =
    adds_plain c.args.max c.args.offered.now (name_text c.args.name) c.args.w.now c.add_dirent.result c.add_dirent.new.w c.args.plus
    c.requires (item c.named-item.result) c.named-item.ensures c.if-not-plus.true c.add_dirent.ensures

pub returns-then-is_dot : goal.returns-then-is_dot
returns-then-is_dot c =
    let dot : is_dot (name_text c.args.name) ≡ true = cc in
    adds_dot c.args.max c.args.offered.now (name_text c.args.name) c.args.w.now c.add_dirent-then-is_dot.result
    c.add_dirent-then-is_dot.new.w c.args.plus c.requires (item c.named-item.result) c.named-item.ensures c.dot_entry.result
    c.if-not-plus.false dot c.dot_entry.ensures c.add_dirent-then-is_dot.ensures

pub returns-then-offered-ne0 : goal.returns-then-offered-ne0
returns-then-offered-ne0 c =
    let dot : is_dot (name_text c.args.name) ≡ false = cc in
    let some : c.args.offered.now.error ≢ pos 0 = search rules in
    let is : IsFaultOf c.args.offered.now.error c.fault_of.result = search rules in
    adds_fault c.args.max c.args.offered.now (name_text c.args.name) c.args.w.now _ _ c.args.plus c.requires c.fault_of.result
    c.if-not-plus.false dot some is refl refl

pub returns : goal.returns
returns c =
    let dot : is_dot (name_text c.args.name) ≡ false = cc in
    let none : c.args.offered.now.error ≡ pos 0 = search rules in
    adds_entry c.args.max c.args.offered.now (name_text c.args.name) c.args.w.now c.add_dirent-2.result c.add_dirent-2.new.w c.args.plus
    c.requires (item c.named-item.result) c.named-item.ensures c.entry.result c.if-not-plus.false dot none c.entry.ensures
    c.add_dirent-2.ensures
