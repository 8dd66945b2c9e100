use Rattle.std.proofs.Common.{◌≡◌, rules}
use Rattle.std_alloc.specs.Vec.{vec_ptr}
use Rattle.c_rooms.specs.Codes.{ok}
use Rattle.nizwarf_tree.proofs.TreeMessageTaken.{message_taken}
use Rattle.nizwarf_tree.proofs.tree.uses.message_is_taken.Goals as goal

pub returns : goal.returns
returns c = λ is.
    let ready : c.nizwarf_server_take_at-ready.result ≡ ok = search rules in
    let code : c.nizwarf_server_handle_at-code.result ≡ ok = search rules in
    message_taken (λ s. s.server) (λ s. s.room) (λ s. s.start) (λ s. s.shown) (λ m. m.room) (λ v. v.items) vec_ptr
    _ _ _ _ _ c.nizwarf_server_take_at-ready.new.handle.value c.nizwarf_server_handle_at-code.new.handle.value
    c.nizwarf_server_take_at.new.handle.value c.nizwarf_server_take_at-ready.new.taken.value c.nizwarf_server_take_at.new.taken.value
    _ _ (c.nizwarf_server_take_at-ready.ensures.server ready) (c.nizwarf_server_take_at-ready.ensures.taken ready)
    c.nizwarf_server_handle_at-code.ensures.history code
    c.nizwarf_server_take_at.ensures.code c.nizwarf_server_take_at.ensures.taken c.nizwarf_server_take_at.ensures.place
    c.nizwarf_server_take_at.ensures.server
