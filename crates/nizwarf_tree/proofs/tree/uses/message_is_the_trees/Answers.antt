use Rattle.std.proofs.Common.{◌≡◌, drop, rules, subst, IfSome, MatchOption}
use Rattle.std.specs.Prelude.{ℤ}
use Rattle.vfs_segments.specs.Segments.{flat_bytes, segments_of}
use Rattle.c_rooms.specs.Codes.{ok}
use Rattle.nizwarf_tree.specs.TreeUses.{TakesFewItems}
use Rattle.nizwarf_tree.proofs.TreeKept.{few_of}
use Rattle.nizwarf_tree.proofs.TreeRows.{flags_told, statx_told}
use Rattle.nizwarf_tree.proofs.TreeTmpfile.{created}
use Rattle.nizwarf_tree.proofs.tree.uses.message_is_the_trees.Goals as goal

pub returns-clause-statx : goal.returns-clause-statx
returns-clause-statx c bytes = λ is.
    let code : c.nizwarf_server_handle_at.result ≡ ok = search rules in
    statx_told (λ s. s.server) (λ s. drop s.start s.room.items) (λ s. s.shown) _ _ _ _ _
    c.nizwarf_server_handle_at.new.handle.value bytes c.nizwarf_server_handle_at.ensures.history code

pub returns-clause-flags : goal.returns-clause-flags
returns-clause-flags c bytes = λ is.
    let code : c.nizwarf_server_handle_at.result ≡ ok = search rules in
    flags_told (λ s. s.server) (λ s. drop s.start s.room.items) (λ s. s.shown) _ _ _ _ _
    c.nizwarf_server_handle_at.new.handle.value bytes c.nizwarf_server_handle_at.ensures.history code

pub returns-clause-tmpfile : goal.returns-clause-tmpfile
returns-clause-tmpfile c bytes = λ is.
    let code : c.nizwarf_server_handle_at.result ≡ ok = search rules in
    created (λ s. s.server) (λ s. drop s.start s.room.items) (λ s. s.shown) _ _ _ _ _
    c.nizwarf_server_handle_at.new.handle.value bytes c.nizwarf_server_handle_at.ensures.history code

pub returns-clause-few : goal.returns-clause-few
returns-clause-few c = λ code is.
    let same : c.nizwarf_server_handle_at.result ≡ code = search (rules, is) in
    subst (λ (n : ℤ). IfSome c.args.handle.now.value (λ s. MatchOption c.nizwarf_server_handle_at.new.handle.value ⊥ (λ t.
    TakesFewItems s.server (flat_bytes (segments_of c.args.request.now)) c.args.room n t.server))) same
    (few_of (λ s. s.server) (λ s. drop s.start s.room.items) (λ s. s.shown) _ _ _ _ _
    c.nizwarf_server_handle_at.new.handle.value c.nizwarf_server_handle_at.ensures.served)
