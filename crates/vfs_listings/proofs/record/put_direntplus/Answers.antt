use Rattle.std.proofs.Common.{◌∙◌, Some, arith, ap, length}
use Rattle.vfs_files.specs.Values.{item}
use Rattle.vfs_grammar.specs.Words.{record_bytes}
use Rattle.vfs_grammar.proofs.Dirents.{length-record_bytes}
use Rattle.vfs_listings.proofs.Putting.{puts_by, direntplus_parts}
use Rattle.vfs_listings.proofs.record.put_direntplus.Goals as goal

pub returns-clause-puts : goal.returns-clause-puts
returns-clause-puts c =
    let i = item c.args.dir_entry in
    let name = c.to_bytes-name.ensures in
    let zeros = c.zeros_after-zeros.ensures.zeros in
    let parts = direntplus_parts c.args.entry.now i c.to_bytes-name.result.now name in
    let put = rw (c.from.ensures, c.dirent_of.ensures, zeros, parts) at c.write_padded.ensures.wrote in
    let long = length-record_bytes (Some c.args.entry.now) i in
    puts_by c.args.w.now c.write_padded.new.self (record_bytes (Some c.args.entry.now) i) _ c.write_padded.result put
    c.write_padded.ensures.variant (long ∙ omega (arith, zeros, ap length name))
