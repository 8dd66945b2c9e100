-- What C is promised of a request that is asked for its call, and of the call that is answered. Begin with
-- `IsAskedOrNot` and `IsAnsweredOrNot`. `call` is a call as data, and `told` what C is told besides; `shown` are the
-- bytes that are there to be copied out; `room_len` is how long the room is, and `room` its bytes.
use Rattle.std.specs.Prelude.{◌≡◌, ◌⊎◌, ◌==◌, ◌++◌, if◌then◌else◌, ℕ, ℤ, List, [], ◌∷◌, length, take, Option, Some, None, Result}
use Rattle.vfs_files.specs.Calls.{Answer, kind_of}
use Rattle.vfs_files.specs.Runs.{Event, Called}
use Rattle.vfs_grammar.specs.Ask.{ask}
use Rattle.vfs_grammar.specs.Forms.{Ask, Ends, Asks, Lists, WithMemory}
use Rattle.vfs_grammar.specs.Listing.{IsDirectory, given_back}
use Rattle.vfs_grammar.specs.Turn.{Turn, IsTurn}
use Rattle.vfs_grammar.specs.declared.error.Error.{Error}
use Rattle.vfs_grammar.specs.declared.limits.Limits.{Limits}
use Rattle.codec_calls.specs.Shapes.{nothing}
use Rattle.codec_calls.specs.declared.call.CallData.{CallData}
use Rattle.codec_calls.specs.declared.call.kind.TheConstants.{DIRECTORY}
use Rattle.codec_calls.specs.declared.data.AnswerData.{AnswerData}
use Rattle.codec_calls.specs.declared.data.ItemData.{ItemData}
use Rattle.codec_encode.specs.Listing.{IsOfferedBy}
use Rattle.codec_encode.specs.Said.{IsSaid}
use Rattle.laws_flight.specs.Table.{AreOf, interrupted}
use Rattle.c_rooms.specs.Codes.{is_asked, no_memory, not_asked, outcome_code, length_of}
use Rattle.nizwarf_codec.specs.Answering.{entry_of}
use Rattle.nizwarf_codec.specs.Asking.{IsNotAsked}
use Rattle.nizwarf_codec.specs.Kept.{put_of}
use Rattle.nizwarf_codec.specs.declared.data.ToldData.{ToldData}

module _ (limits : Limits) (options : ℕ) (request : List ℕ) (room_len : ℕ) (code : ℤ) (call : CallData)
    (told told_after : ToldData) (shown : List ℕ) where
  -- The call that the request asks for is told, with the options and the room that it was asked with.
  pub record TellsItsCall : Type 0 where
    pub code_is : code ≡ is_asked
    pub is_of : AreOf limits request call
    pub same_options : call.options ≡ options
    pub same_room : call.room ≡ room_len
    pub same_told : told_after ≡ told
    pub none_shown : shown ≡ []

  -- The request asks for no call, or is refused: a turn of the grammar in a room of this length, whose outcome is told,
  -- and whose reply is there to be copied out.
  pub record Finishes : Type 0 where
    pub turn : Turn
    pub is_turn : IsTurn limits options turn options
    pub of_request : turn.request ≡ request
    pub in_room : length turn.room ≡ room_len
    pub no_event : turn.events ≡ []
    pub code_is : code ≡ outcome_code turn.outcome
    pub no_call : call ≡ nothing
    pub told_is : told_after ≡ record told {
      len = length_of turn.outcome;
      put = length_of turn.outcome;
      interrupts = interrupted limits request;
    }
    pub shown_is : shown ≡ take (length_of turn.outcome) turn.room_after

  -- what comes of asking: one of these, or it was not asked
  abbrev pub IsAskedOrNot : Type 0
  IsAskedOrNot = TellsItsCall ⊎ Finishes ⊎ IsNotAsked request code call told told_after shown

-- what an answer reads of the data of a call
abbrev pub read_of : CallData → CallData
read_of c = record nothing { unique = c.unique; readahead = c.readahead; options = c.options; room = c.room; call = c.call; answer = c.answer; size = c.size; length = c.length }

-- and besides, where a directory is read
abbrev pub read_of_directory : CallData → CallData
read_of_directory c = record nothing { uid = c.uid; gid = c.gid; pid = c.pid; node = c.node; handle = c.handle; offset = c.offset; has = c.has }

-- These data suffice for an answer to this request: an answer reads the same of them as of those that tell what the
-- request asks for. No name and no value is read.
abbrev pub Suffice : Limits → (request : List ℕ) → CallData → Type 0
Suffice limits request call =
    (d : CallData) × AreOf limits request d × (read_of call ≡ read_of d)
    × (d.answer ≡ DIRECTORY → read_of_directory call ≡ read_of_directory d)

module _ (a : AnswerData) (text : List ℕ) (items : List ItemData) where
  -- What happened since the request was asked, which asks this: the call, with the answer that the data say, and that
  -- the entry was given back which is told to be; or that the directory was read from the items that were offered.
  -- That reading ends with the item at which the reply stopped. So what C did besides is in no event: lookups of items
  -- that it offers after that one, which it is to give back too. And one event is none that C is told to make: if the
  -- reply stopped at `.` or `..`, a forget of node 0. (What is said of flights allows both: `AreSeenOf` of Made, which the
  -- reading order has after this.)
  abbrev pub Happened : Ask → (room : List ℕ) → ToldData → List Event → Type 0
  Happened (Ends reply) room told events = ⊥
  Happened (Asks echo asked) room told events =
      (answer : Answer) × IsSaid a text room (kind_of asked) answer
      × (events ≡ Called asked answer ∷ given_back echo.ctx (if told.give_back == 0 then None else Some told.give_back))
      × (told.taken ≡ 0)
  Happened (Lists echo l) room told events =
      (records : List ℕ) × (answer : Result ℕ (Option ℕ)) × (read : IsDirectory l events records answer)
      × IsOfferedBy a items l events records answer read told.taken × (told.give_back ≡ 0)
  Happened (WithMemory rest) room told events = Happened rest room told events

module _ (limits : Limits) (call : CallData) (a : AnswerData) (text : List ℕ) (items : List ItemData) (code : ℤ)
    (told told_after : ToldData) (shown : List ℕ) where
  -- The call was answered: of each request for which the data suffice, as those that were told of it do, with whatever
  -- after the bytes of the room that are put here, this is a turn of the grammar, under the options that it was asked
  -- with. Which bytes `room` had isn't said: those that are shown are of the reply alone.
  pub record AnswersCall : Type 0 where
    pub room : List ℕ
    pub outcome : Result ℕ Error
    pub room_after : List ℕ
    pub length_is : length room ≡ put_of call call.room
    pub turn : (request following : List ℕ) → Suffice limits request call → length (room ++ following) ≡ call.room
        → (events : List Event) × Happened a text items (ask limits call.options call.room request) (room ++ following) told_after events
        × IsTurn limits call.options (record {
          request = request;
          room = room ++ following;
          events = events;
          outcome = outcome;
          room_after = room_after ++ following;
        }) told_after.options
    pub code_is : code ≡ outcome_code outcome
    pub len : told_after.len ≡ length_of outcome
    pub put : told_after.put ≡ put_of call (length_of outcome)
    pub same_interrupts : told_after.interrupts ≡ told.interrupts
    pub shown_is : shown ≡ take (put_of call (length_of outcome)) room_after

  -- It was not, since there is no memory: then the entry is to be given back, and each item; or since the data
  -- suffice for no request.
  pub record IsUnanswered : Type 0 where
    pub why : ((code ≡ no_memory) × (told_after ≡ record told { give_back = entry_of call a; taken = 0 }))
        ⊎ ((code ≡ not_asked) × (told_after ≡ told) × ((request : List ℕ) → Suffice limits request call → ⊥))
    pub none_shown : shown ≡ []

  -- what comes of answering
  abbrev pub IsAnsweredOrNot : Type 0
  IsAnsweredOrNot = AnswersCall ⊎ IsUnanswered
