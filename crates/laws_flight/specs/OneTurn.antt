-- A request that was asked for its call, and whose call was answered, as one turn of the grammar; and one that was
-- finished when it was asked.
use Rattle.std.specs.Prelude.{◌≡◌, ◌++◌, ℕ, List, [], ◌∷◌, length, unwrap_or, Option, Some, Result}
use Rattle.vfs_segments.specs.Written.{Written, Leaves}
use Rattle.vfs_files.specs.Calls.{Answer, kind_of}
use Rattle.vfs_files.specs.Runs.{Event, Called}
use Rattle.vfs_messages.specs.Rooms.{with_after}
use Rattle.vfs_grammar.specs.Ask.{ask}
use Rattle.vfs_grammar.specs.Forms.{Ask, Ends, Asks, Lists, WithMemory}
use Rattle.vfs_grammar.specs.Listing.{Listing, given_back}
use Rattle.vfs_grammar.specs.Reply.{reply_of}
use Rattle.vfs_grammar.specs.Room.{unseen}
use Rattle.vfs_grammar.specs.Turn.{IsTurn, node_answered}
use Rattle.vfs_grammar.specs.Words.{IsRead}
use Rattle.vfs_grammar.specs.declared.limits.Limits.{Limits}
use Rattle.vfs_grammar.specs.declared.error.Error.{Error}
use Rattle.codec_calls.specs.declared.call.CallData.{CallData}
use Rattle.codec_calls.specs.declared.data.AnswerData.{AnswerData}
use Rattle.codec_calls.specs.declared.data.ItemData.{ItemData}
use Rattle.codec_encode.specs.Listing.{IsOfferedBy}
use Rattle.codec_encode.specs.Said.{IsSaid}
use Rattle.codec_encode.specs.Told.{AnswersEachCall, AnswersEachListing}
use Rattle.codec_encode.specs.declared.answered.Answered.{Answered}
use Rattle.codec_decode.specs.Asked.{IsAsked}
use Rattle.codec_decode.specs.declared.asked.Asked.TheVariants as asked

-- The events of a directory that was read from items that were offered, of which that many are in the reply.
pub record AreOfItems (l : Listing) (a : AnswerData) (items : List ItemData) (taken : ℕ)
    (events : List Event) : Type 0 where
  pub records : List ℕ
  pub answer : Result ℕ (Option ℕ)
  pub read : IsRead l events records answer
  pub offered : IsOfferedBy a items l events records answer read taken

-- What happened between ask and answer, of a request that asks this: the call that was told, with the
-- answer that the data say; and after it, that the entry which is told to be given back was given back.
-- Or that the directory was read from the items that were offered.
abbrev pub HappenedBetween : Limits → Ask → AnswerData → (text : List ℕ) → (items : List ItemData)
    → (room : List ℕ) → Answered → List Event → Type 0
HappenedBetween limits (Ends reply) a text items room came events = ⊥
HappenedBetween limits (Asks echo call) a text items room came events =
    (answer : Answer) × (back : Option ℕ)
    × IsSaid a text room (kind_of call) answer
    × (back ≡ unseen (length room) (reply_of limits echo came.options (kind_of call) answer)
    (node_answered (kind_of call) answer))
    × (came.given ≡ unwrap_or back 0)
    × (events ≡ Called call answer ∷ given_back echo.ctx back)
HappenedBetween limits (Lists echo l) a text items room came events = AreOfItems l a items came.taken events
HappenedBetween limits (WithMemory rest) a text items room came events =
    HappenedBetween limits rest a text items room came events

-- A turn of the grammar, of these bytes and this room, under the options that the request was asked with.
pub record IsAnsweredTurn (limits : Limits) (options : ℕ) (request : List ℕ) (a : AnswerData)
    (text : List ℕ) (items : List ItemData) (old : Written) (came : Answered) (new : Written) : Type 0 where
  pub events : List Event
  pub room_after : List ℕ
  pub happened :
      HappenedBetween limits (ask limits options (length old.left) request) a text items old.left came events
  pub leaves : Leaves old room_after new
  pub turn : IsTurn limits options (record {
    request = request;
    room = old.left;
    events = events;
    outcome = came.outcome;
    room_after = room_after;
  }) came.options

-- A request was asked with this room, and a call told; and that was answered in as much room, of a READ
-- perhaps without the bytes after the first ones.
pub record IsAskedAndAnswered (limits : Limits) (options : ℕ) (request : List ℕ) (asked_in after : Written)
    (told : CallData) (a : AnswerData) (text : List ℕ) (items : List ItemData) (old : Written)
    (following : List ℕ) (came : Answered) (new : Written) : Type 0 where
  pub is_asked : IsAsked limits options request asked_in asked.Call after told
  pub same_room : length (old.left ++ following) ≡ length asked_in.left
  pub call : AnswersEachCall limits told a text old (Some came) new
  pub listing : AnswersEachListing limits told a items (with_after old following) (Some came) (with_after new following)

-- each such request is one turn
abbrev pub AreOneTurn : Type 0
AreOneTurn =
    (limits : Limits) (options : ℕ) (request : List ℕ) (asked_in after : Written) (told : CallData)
    (a : AnswerData) (text : List ℕ) (items : List ItemData) (old : Written) (following : List ℕ)
    (came : Answered) (new : Written)
    → IsAskedAndAnswered limits options request asked_in after told a text items old following came new
    → IsAnsweredTurn limits options request a text items (with_after old following) came
    (with_after new following)

-- A turn of the grammar without a call, of these bytes and this room, which leaves the options as they were.
pub record IsFinishedTurn (limits : Limits) (options : ℕ) (request : List ℕ) (old : Written)
    (outcome : Result ℕ Error) (new : Written) : Type 0 where
  pub room_after : List ℕ
  pub leaves : Leaves old room_after new
  pub turn : IsTurn limits options (record {
    request = request;
    room = old.left;
    events = [];
    outcome = outcome;
    room_after = room_after;
  }) options

-- each request that is finished when it is asked is one turn
abbrev pub AreFinishedTurns : Type 0
AreFinishedTurns =
    (limits : Limits) (options : ℕ) (request : List ℕ) (old new : Written) (outcome : Result ℕ Error)
    (interrupts : ℕ) (told : CallData)
    → IsAsked limits options request old (asked.Finished outcome interrupts) new told
    → IsFinishedTurn limits options request old outcome new
