use Rattle.std.proofs.Common.{◌≡◌, drop, rules}
use Rattle.c_rooms.specs.Codes.{ok}
use Rattle.nizwarf_tree.proofs.Calling.{in_a_row}
use Rattle.nizwarf_tree.proofs.uses.two_messages.Goals as goal

pub returns : goal.returns
returns c = λ is.
    let made : c.nizwarf_server_new_at-made.result ≡ ok = search rules in
    let first : c.nizwarf_server_handle_at-first.result ≡ ok = search rules in
    let second : c.nizwarf_server_handle_at.result ≡ ok = search rules in
    in_a_row (λ s. s.server) (λ s. drop s.start s.room.items) (λ s. s.shown)
    c.history_keeps_books.ensures _ _ _ _ _ _ _ c.nizwarf_server_new_at-made.new.handle.value
    c.nizwarf_server_set_time_at.new.handle.value c.nizwarf_server_handle_at-first.new.handle.value
    c.nizwarf_server_set_time_at-2.new.handle.value c.nizwarf_server_handle_at.new.handle.value
    (c.nizwarf_server_new_at-made.ensures.made made) c.nizwarf_server_set_time_at.ensures.history
    c.nizwarf_server_handle_at-first.ensures.history c.nizwarf_server_set_time_at-2.ensures.history
    c.nizwarf_server_handle_at.ensures.history first second
