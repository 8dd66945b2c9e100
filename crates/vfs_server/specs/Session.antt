-- Requests in order, over one run of the file system. It leads to `IsSession`, the last definition.
--
-- A reader and a writer are made of segments by `Reader::new` and `Writer::new`, and `Writer::into_segments` gives
-- the segments of a room back (`vfs_segments/src/reader.rt`, `writer.rt`).
--
-- `declared` in an import is a type of the code: `vfs_wire.specs.declared.headers.InHeader` is the struct `InHeader`
-- of `vfs_wire/src/headers.rt`, and `TheVariants` are those of an enum.
--
-- Words of the toolchain's library, here and in the files before this in the reading order of `docs/PROMISE.md`.
-- Of lists: `drop n xs` is what `take n xs` leaves; `slice_index xs i` is item i, from 0 on, and 0 where there is
-- none; `position p xs` is the place of the first item of which the test p holds, if any; `sum xs`; `sum_by f xs` adds
-- f of each item, and `count_by p xs` counts those of which p holds; `map f xs`, and `flat_map f xs`, whose lists are
-- put in a row; `replicate n x` is n times x; `All P xs`: P of each item; `codes ".."` are the bytes of a text.
-- Of options and results: `option_map f o`, `option_and_then f o`, `unwrap_or o x`, `ok_or o e`, `is_some o` are
-- Rust's methods; `MatchOption o P Q` is P where o is None, and Q of what it has.
-- Of numbers: `bit_and`, `bit_or` go by the bits; `cast_signed w32 n` and `cast_unsigned w32 z` have the same 32 bits;
-- `next_multiple_of n m` is the first multiple of m from n on; `as_nanos` is a time in nanoseconds; `min a b`.
-- Tests are of `Bool`, and `not` is of these: `bytes_eq` and `int_eq` are `==` of lists and of `ℤ`; `IsTrue b` and
-- `IsFalse b` are statements.
use Rattle.std.specs.Prelude.{◌≡◌, ℕ, List, [], ◌∷◌, Option, None, Result, map}
use Rattle.vfs_segments.specs.Unread.{Unread}
use Rattle.vfs_segments.specs.Written.{Written, Leaves}
use Rattle.vfs_files.specs.Values.{Item}
use Rattle.vfs_files.specs.Calls.{Call, Handed}
use Rattle.vfs_files.specs.Runs.{IsRun}
use Rattle.vfs_grammar.specs.Turn.{Turn, IsTurn, events_in}
use Rattle.vfs_grammar.specs.declared.limits.Limits.{Limits}
use Rattle.vfs_grammar.specs.declared.error.Error.{Error}
use Rattle.vfs_grammar.specs.Books.{KeepsBooks}
use Rattle.vfs_server.specs.State.{ServerState}

-- A request was served, by this turn, with these options before it and after it: the turn is of the
-- bytes that its reader has left and of the room that its writer has left. The writer is left as the
-- turn says, and holds nothing: a held place is one that a caller of a writer keeps to fill in later.
pub record IsServed (limits : Limits) (options : ℕ) (reader : Unread) (writer : Written) (t : Turn)
    (writer_after : Written) (after : ℕ) : Type 0 where
  pub request : t.request ≡ reader.left
  pub room : t.room ≡ writer.left
  pub turn : IsTurn limits options t after
  pub leaves : Leaves writer t.room_after writer_after
  pub hold_given_up : writer_after.held ≡ 0

-- Requests were served in order, from these options to those: each with the options that the one
-- before it left. The k-th has the k-th reader, writer and turn, and the k-th writer afterwards.
abbrev pub AreServed : Limits → (options : ℕ) → List Unread → List Written → List Turn
    → (writers_after : List Written) → (after : ℕ) → Type 0
AreServed limits options [] [] [] [] after = after ≡ options
AreServed limits options (reader ∷ readers) (writer ∷ writers) (t ∷ turns) (new ∷ news) after =
    (mid : ℕ)
    × IsServed limits options reader writer t new mid
    × AreServed limits mid readers writers turns news after
AreServed limits options _ _ _ _ after = ⊥

-- A session: a run of the file system from its state before to that after, with no iterator at
-- first, whose events are those of turns in order. By these turns the requests were served in
-- order, and they have these outcomes; the books of every node but 0 are kept over them; and the
-- limits stay.
pub record IsSession {S I : Type 0} (allows : S → Call → Handed I → S → Type 0)
    (gives : I → Option Item → I → Type 0) (old : ServerState S) (readers : List Unread)
    (writers : List Written) (outcomes : List (Result ℕ Error)) (writers_after : List Written)
    (new : ServerState S) : Type 0 where
  pub turns : List Turn
  pub is_run : IsRun allows gives None old.fs (events_in turns) new.fs
  pub served : AreServed old.limits old.options readers writers turns writers_after new.options
  pub outcomes_are : map (λ t. t.outcome) turns ≡ outcomes
  pub books : KeepsBooks turns
  pub same_limits : new.limits ≡ old.limits
