-- What the borrow of a piece leaves after.
use Rattle.std.specs.Prelude.{ℕ, List}
use Rattle.std.specs.Borrow.{Lends, MutBor, Fml, Array, u8}
use mir.Syntax.{named}
use mathlib.Core.List.{[]}
use Rattle.vfs_segments.specs.Views.{Room, with_any_piece}
use Rattle.vfs_segments.specs.contracts.views.SlicesMut.{the_row}

-- the view s ends with piece i as the borrow r leaves it
abbrev pub LendsPiece : MutBor Room → ℕ → MutBor (List ℕ) → Fml
LendsPiece s i r =
    Lends (the_row (record { mir = named 1; lft = [] })) (Array u8 0) s r (with_any_piece s.now i)
