use Rattle.std.proofs.Common.{ℕ, List, [], ◌∷◌, length, refl}
use Rattle.vfs_segments.specs.Written.{Written}
use Rattle.vfs_grammar.specs.Turn.{Turn}
use Rattle.vfs_grammar.specs.declared.limits.Limits.{Limits}
use Rattle.codec_calls.specs.declared.data.AnswerData.{AnswerData}
use Rattle.codec_calls.specs.declared.data.ItemData.{ItemData}
use Rattle.codec_encode.specs.declared.answered.Answered.{Answered}
use Rattle.laws_flight.specs.Flight.{Begins, Completes, Waiting, IsTurnOf}
use Rattle.laws_flight.specs.OneTurn.{IsAnsweredTurn}
use Rattle.laws_flight.proofs.crossing.crossing_answers_keep_books.Goals as goal

module _ (limits : Limits) (options : ℕ) (request : List ℕ) (a : AnswerData) (text : List ℕ)
    (items : List ItemData) (old : Written) (came : Answered) (new : Written)
    (is : IsAnsweredTurn limits options request a text items old came new) where
  -- the request as it waited, and its turn
  abbrev waited : Waiting
  waited = record { request = request; options = options; room_len = length old.left }

  abbrev turn : Turn
  turn = record {
    request = request;
    room = old.left;
    events = is.events;
    outcome = came.outcome;
    room_after = is.room_after;
  }

  is_turn : IsTurnOf limits waited turn came.options
  is_turn = record { asked = refl; room_len = refl; turn = is.turn }

pub returns : goal.returns
returns c limits options others request other a b text words items entries old before came went new after one two =
    let s = turn limits options request a text items old came new one in
    let t = turn limits others other b words entries before went after two in
    let v = waited limits options request a text items old came new one in
    let w = waited limits others other b words entries before went after two in (
      s,
      t,
      refl,
      refl,
      one.leaves,
      refl,
      refl,
      two.leaves,
      c.turns_in_flight_keep_books.ensures limits []
          (Begins v ∷ Begins w ∷ Completes w t went.options ∷ Completes v s came.options ∷ []) (
            [],
            v ∷ [],
            refl,
            is_turn limits others other b words entries before went after two,
            ([], [], refl, is_turn limits options request a text items old came new one, tt),
          ),
    )
