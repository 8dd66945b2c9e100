use Rattle.std.proofs.Common.{◌∙◌, arith, ap, length}
use Rattle.vfs_files.specs.Values.{item}
use Rattle.vfs_grammar.specs.Listing.{dirent_bytes}
use Rattle.vfs_grammar.proofs.Dirents.{length-dirent_bytes}
use Rattle.vfs_listings.proofs.Putting.{puts_by, dirent_parts}
use Rattle.vfs_listings.proofs.record.put_dirent.Goals as goal

pub returns : goal.returns
returns c =
    let i = item c.args.dir_entry in
    let name = c.to_bytes-name.ensures in
    let zeros = c.zeros_after-zeros.ensures.zeros in
    let parts = dirent_parts i c.to_bytes-name.result.now name in
    let put = rw (c.dirent_of.ensures, zeros, parts) at c.write_padded.ensures.wrote in
    puts_by c.args.w.now c.write_padded.new.self (dirent_bytes i) _ c.write_padded.result put
    c.write_padded.ensures.variant (length-dirent_bytes i ∙ omega (arith, zeros, ap length name))
