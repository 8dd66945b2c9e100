use Rattle.std.proofs.Common.{[], ◌∷◌, refl, lit<}
use Rattle.vfs_wire.specs.Fields.{little}
use Rattle.laws_turns.proofs.uses.extensions.a_group_as_written.Goals as goal

pub returns-clause-bytes : goal.returns-clause-bytes
unfolding little
returns-clause-bytes c = refl

pub returns-clause-found : goal.returns-clause-found
returns-clause-found c =
    c.written_groups_are_found.ensures 0x400000000 1000 (0x64 ∷ 0 ∷ []) refl refl (lit< tt)
