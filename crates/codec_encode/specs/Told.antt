-- Which calls the data of a call tell, and what comes of the answer to each.
use Rattle.std.specs.Prelude.{◌≡◌, ◌≢◌, ◌⊎◌, ◌<◌, ◌≤◌, ◌+◌, ◌-◌, ◌^◌, ⊤, ℕ, List, length, unwrap_or, Option, MatchOption, Result}
use Rattle.vfs_wire.specs.Records.{out_header}
use Rattle.vfs_segments.specs.Written.{Written}
use Rattle.vfs_files.specs.Calls.{Call, Init, Kind, kind_of, Answer, IsAnswer, Data, Iterators, read_answer}
use Rattle.vfs_files.specs.Runs.{Event}
use Rattle.vfs_messages.specs.Rooms.{Replies, with_after}
use Rattle.vfs_grammar.specs.Listing.{Listing}
use Rattle.vfs_grammar.specs.Options.{options_after}
use Rattle.vfs_grammar.specs.Records.{size_of}
use Rattle.vfs_grammar.specs.Reply.{Echo, reply_of}
use Rattle.vfs_grammar.specs.Room.{unseen}
use Rattle.vfs_grammar.specs.Turn.{node_answered}
use Rattle.vfs_grammar.specs.Words.{IsRead}
use Rattle.vfs_grammar.specs.declared.limits.Limits.{Limits}
use Rattle.codec_calls.specs.Shapes.{shape_of}
use Rattle.codec_calls.specs.declared.call.CallData.{CallData}
use Rattle.codec_calls.specs.declared.call.kind.TheConstants.{DIRECTORY}
use Rattle.codec_calls.specs.declared.data.AnswerData.{AnswerData}
use Rattle.codec_calls.specs.declared.data.ItemData.{ItemData}
use Rattle.codec_encode.specs.Said.{IsSaid}
use Rattle.codec_encode.specs.Listing.{listing_told, IsOfferedBy}
use Rattle.codec_encode.specs.Answering.{KeepsData}
use Rattle.codec_encode.specs.declared.answered.Answered.{Answered}

-- the data tell what the reply repeats of its request
pub record TellsEcho (told : CallData) (echo : Echo) : Type 0 where
  pub unique : told.unique ≡ echo.unique
  pub readahead : told.readahead ≡ echo.max_readahead

-- the options that INIT offers
abbrev pub TellsOffer : CallData → Call → Type 0
TellsOffer told (Init offered) = told.length ≡ offered
TellsOffer told call = ⊤

-- The data tell this call. Of its numbers an answer wants these alone: which call it is, its kind, the size
-- of a READ, and what INIT offers.
pub record TellsCall (told : CallData) (call : Call) : Type 0 where
  pub number : told.call ≡ (shape_of call).call
  pub kind : told.answer ≡ (shape_of call).answer
  pub size : told.size ≡ (shape_of call).size
  pub offer : TellsOffer told call

-- the data tell this directory that is to be read
pub record TellsListing (told : CallData) (listing : Listing) : Type 0 where
  pub kind : told.answer ≡ DIRECTORY
  pub listing_is : listing_told told ≡ listing

-- A call was answered: there is an answer which the data of it say; the reply is the grammar's, by the rule
-- of rooms; the options are those after it; and an entry whose reply doesn't fit is to be given back, and
-- nothing else.
pub record CallIsAnswered (limits : Limits) (echo : Echo) (call : Call) (options : ℕ) (a : AnswerData)
    (text : List ℕ) (old : Written) (came : Answered) (new : Written) : Type 0 where
  pub answer : Answer
  pub said : IsSaid a text old.left (kind_of call) answer
  pub fits : IsAnswer (kind_of call) answer
  pub replied : Replies (reply_of limits echo came.options (kind_of call) answer) old came.outcome new
  pub options_are : came.options ≡ options_after call answer options
  pub given_is :
      came.given
      ≡ unwrap_or (unseen (length old.left) (reply_of limits echo came.options (kind_of call) answer)
      (node_answered (kind_of call) answer)) 0
  pub kept : KeepsData (kind_of call) old new
  pub none_taken : came.taken ≡ 0

-- The room of a writer is too short for an answer: of a READ for the header; else it is not all that was
-- told at the call, of which that much comes after.
abbrev pub IsShort : Kind → (space following : ℕ) → Type 0
IsShort (Data size) space following = space < size_of out_header
IsShort kind space following = 0 < following

-- Each call that these data tell was answered, whatever comes after the writer's room up to the room that
-- was told at the call; only where the writer's is too short it wasn't.
abbrev pub AnswersEachCall : Limits → CallData → AnswerData → (text : List ℕ) → (old : Written)
    → Option Answered → (new : Written) → Type 0
AnswersEachCall limits told a text old result new =
    (echo : Echo) (call : Call) (following : List ℕ)
    → TellsEcho told echo → TellsCall told call → kind_of call ≢ Iterators
    → length old.left + length following ≡ told.room
    → MatchOption result (IsShort (kind_of call) (length old.left) (length following)) (λ came.
    CallIsAnswered limits echo call told.options a text (with_after old following) came
    (with_after new following))

-- A directory was read from the items that were offered: its records are the reply, by the rule of rooms,
-- and that many of the items are in it.
pub record ListingIsAnswered (limits : Limits) (echo : Echo) (listing : Listing) (options : ℕ)
    (a : AnswerData) (items : List ItemData) (old : Written) (came : Answered) (new : Written) : Type 0
  where
    pub events : List Event
    pub records : List ℕ
    pub answer : Result ℕ (Option ℕ)
    pub read : IsRead listing events records answer
    pub offered : IsOfferedBy a items listing events records answer read came.taken
    pub fits : IsAnswer (Data listing.size) (read_answer answer records)
    pub replied :
        Replies (reply_of limits echo came.options (Data listing.size) (read_answer answer records))
        old came.outcome new
    pub same_options : came.options ≡ options
    pub none_given : came.given ≡ 0

-- a directory can't be answered: there is no place for a header, or more was asked for than a reply can
-- have
abbrev pub IsUnlisted : (space : ℕ) → Listing → Type 0
IsUnlisted space listing = (space < size_of out_header) ⊎ (2 ^ 32 - 16 ≤ listing.size)

-- each directory that these data tell was read, where there is all the room that was told at the call
abbrev pub AnswersEachListing : Limits → CallData → AnswerData → (items : List ItemData)
    → (old : Written) → Option Answered → (new : Written) → Type 0
AnswersEachListing limits told a items old result new =
    (echo : Echo) (listing : Listing)
    → TellsEcho told echo → TellsListing told listing → length old.left ≡ told.room
    → MatchOption result (IsUnlisted (length old.left) listing) (λ came.
    ListingIsAnswered limits echo listing told.options a items old came new)
