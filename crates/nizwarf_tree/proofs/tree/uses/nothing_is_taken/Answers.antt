use Rattle.std.proofs.Common.{◌≡◌, drop, refl, rules}
use Rattle.std_alloc.specs.Vec.{vec_ptr}
use Rattle.c_rooms.specs.Codes.{ok}
use Rattle.nizwarf_tree.specs.Served.{told_time}
use Rattle.nizwarf_tree.proofs.TreeNothingFound.{told_server, nothing_left}
use Rattle.nizwarf_tree.proofs.TreeNothingTaken.{nothing_taken}
use Rattle.nizwarf_tree.proofs.tree.uses.nothing_is_taken.Goals as goal

pub returns-clause-reply : goal.returns-clause-reply
returns-clause-reply c = λ is.
    let made : c.nizwarf_server_new_at-made.result ≡ ok = search rules in
    let first : c.nizwarf_server_handle_at-first.result ≡ ok = search rules in
    let took : c.nizwarf_server_take_at-took.result ≡ ok = search rules in
    nothing_taken (λ s. s.room) (λ s. s.start) (λ s. s.shown) (λ m. m.room) (λ v. v.items) vec_ptr _
    c.nizwarf_server_handle_at-first.new.handle.value c.nizwarf_server_take_at-took.new.taken.value
    (nothing_left (λ s. s.server) (λ s. drop s.start s.room.items) (λ s. s.shown)
    _ _ _ _ c.nizwarf_server_new_at-made.new.handle.value c.nizwarf_server_set_time_at.new.handle.value
    c.nizwarf_server_handle_at-first.new.handle.value
    (c.nizwarf_server_new_at-made.ensures.made made)
    (told_server (λ s. s.server) (λ s. drop s.start s.room.items) (λ s. s.shown)
    (λ s. record s { server = told_time s.server 1 0 }) (λ s. refl) _ _ _
    c.nizwarf_server_set_time_at.ensures.told)
    c.nizwarf_server_handle_at-first.ensures.history first c.requires.lookup)
    (c.nizwarf_server_take_at-took.ensures.taken took) (c.nizwarf_server_take_at-took.ensures.place took)

pub returns-clause-ended : goal.returns-clause-ended
returns-clause-ended c = λ is. search rules
