use Rattle.std.proofs.Common.{◌≡◌, ◌≢◌, ◌≤◌, length, rules}
use Rattle.vfs_segments.specs.Segments.{segments_of}
use Rattle.c_rooms.specs.Codes.{no_memory, ok, too_long}
use Rattle.nizwarf_tree.proofs.Keeping.{next_lacks_none}
use Rattle.nizwarf_tree.proofs.uses.second_lacks_no_memory.Goals as goal

pub returns : goal.returns
returns c is code =
    let first : c.nizwarf_server_handle_at-first.result ≡ ok = search (rules, is) in
    let has : c.nizwarf_server_handle_at-first.result ≢ no_memory = λ e. let f = first in cc in
    let short : c.nizwarf_server_handle_at-first.result ≢ too_long = λ e. let f = first in cc in
    next_lacks_none c.args.handle.now.value c.nizwarf_server_handle_at-first.new.handle.value c.args.room
    (segments_of c.args.two.now) (length c.args.two.now ≤ 4) c.nizwarf_server_handle_at-first.result c.nizwarf_server_handle_at.result
    first (λ none. (c.nizwarf_server_handle_at-first.ensures.none none).0) (c.nizwarf_server_handle_at-first.ensures.kept has short)
    c.nizwarf_server_handle_at.ensures.memory c.requires.few c.requires.none (search (rules, code))
