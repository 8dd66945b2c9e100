use Rattle.std.proofs.Common.{◌∙◌, ℕ, List, [], ◌∷◌}
use Rattle.vfs_wire.specs.Fields.{little}
use Rattle.vfs_grammar.proofs.Rooms.{put_outcome-fits}
use Rattle.test_uses.proofs.clauses.messages.say_seven_bytes.Goals as goal

-- a header of a reply of 24 bytes to request 9, and the number 7
abbrev reply : List ℕ
reply =
    24 ∷ 0 ∷ 0 ∷ 0 ∷ 0 ∷ 0 ∷ 0 ∷ 0 ∷ 9 ∷ 0 ∷ 0 ∷ 0 ∷ 0 ∷ 0 ∷ 0 ∷ 0
    ∷ 7 ∷ 0 ∷ 0 ∷ 0 ∷ 0 ∷ 0 ∷ 0 ∷ 0 ∷ []

pub returns : goal.returns
unfolding little
returns c = c.reply_value.ensures.replied.says.says ∙ put_outcome-fits reply _ c.requires
