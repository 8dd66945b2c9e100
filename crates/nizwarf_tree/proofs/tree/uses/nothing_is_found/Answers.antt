use Rattle.std.proofs.Common.{◌≡◌, drop, refl, rules, subst, IfSome, MatchOption}
use Rattle.c_rooms.specs.Codes.{ok}
use Rattle.nizwarf_tree.specs.History.{Told}
use Rattle.nizwarf_tree.specs.Served.{told_time}
use Rattle.nizwarf_tree.proofs.Calling.{in_a_row}
use Rattle.nizwarf_tree.proofs.TreeNothingFound.{told_server, nothing_left, nothing_found, last_of}
use Rattle.nizwarf_tree.proofs.tree.uses.nothing_is_found.Goals as goal

pub returns-clause-bytes : goal.returns-clause-bytes
returns-clause-bytes c = λ is.
    let made : c.nizwarf_server_new_at-made.result ≡ ok = search rules in
    let first : c.nizwarf_server_handle_at-first.result ≡ ok = search rules in
    nothing_found (λ s. s.server) (λ s. drop s.start s.room.items) (λ s. s.shown) _ _ _
    c.nizwarf_server_handle_at-first.new.handle.value
    (nothing_left (λ s. s.server) (λ s. drop s.start s.room.items) (λ s. s.shown)
    _ _ _ _ c.nizwarf_server_new_at-made.new.handle.value c.nizwarf_server_set_time_at.new.handle.value
    c.nizwarf_server_handle_at-first.new.handle.value
    (c.nizwarf_server_new_at-made.ensures.made made)
    (told_server (λ s. s.server) (λ s. drop s.start s.room.items) (λ s. s.shown)
    (λ s. record s { server = told_time s.server 1 0 }) (λ s. refl) _ _ _
    c.nizwarf_server_set_time_at.ensures.told)
    c.nizwarf_server_handle_at-first.ensures.history first c.requires.lookup)
    c.requires.reply c.nizwarf_server_copy_at.ensures.count c.nizwarf_server_copy_at.ensures.copied

pub returns-clause-books : goal.returns-clause-books
returns-clause-books c = λ is.
    let made : c.nizwarf_server_new_at-made.result ≡ ok = search rules in
    let first : c.nizwarf_server_handle_at-first.result ≡ ok = search rules in
    let second : c.nizwarf_server_handle_at-second.result ≡ ok = search rules in
    last_of (λ s. s.server) (λ s. drop s.start s.room.items) (λ s. s.shown) _ _ _ _ _
    c.nizwarf_server_handle_at-second.new.handle.value c.requires.lookup
    c.requires.forget
    (in_a_row (λ s. s.server) (λ s. drop s.start s.room.items) (λ s. s.shown)
    c.history_keeps_books.ensures _ _ _ _ _ _ _ c.nizwarf_server_new_at-made.new.handle.value
    c.nizwarf_server_set_time_at.new.handle.value c.nizwarf_server_handle_at-first.new.handle.value
    c.nizwarf_server_set_time_at-2.new.handle.value c.nizwarf_server_handle_at-second.new.handle.value
    (c.nizwarf_server_new_at-made.ensures.made made) c.nizwarf_server_set_time_at.ensures.history
    c.nizwarf_server_handle_at-first.ensures.history
    (subst (λ o. IfSome o (λ s. MatchOption c.nizwarf_server_set_time_at-2.new.handle.value ⊥
    (λ t. Told s.server 2 0 t.server)))
    c.nizwarf_server_copy_at.ensures.same c.nizwarf_server_set_time_at-2.ensures.history)
    c.nizwarf_server_handle_at-second.ensures.history first second)

pub returns-clause-ended : goal.returns-clause-ended
returns-clause-ended c = λ is. search rules
