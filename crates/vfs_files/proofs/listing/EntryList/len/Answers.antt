use Rattle.std.proofs.Common.{length, drop, ap, arith}
use Rattle.vfs_files.proofs.Kept.{length-items_from}
use Rattle.std.proofs.lemmas.List.{length-drop}
use Rattle.vfs_files.proofs.listing.EntryList.len.Goals as goal

pub returns : goal.returns
returns c =
    let s = c.self.inside in
    let left = length-items_from s.begin s.names.items (drop s.given s.entries.items) in
    let long = length-drop s.given s.entries.items in
    let is = ap length c.self.view_is in
    omega (arith, left, long, is)
