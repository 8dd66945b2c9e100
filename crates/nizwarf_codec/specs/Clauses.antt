-- Clauses that several functions of the codec share, each once: a session without a server, a request that is asked in a
-- slot, and a call that is answered there. Those of a slot's memory are in `Kept`.
use Rattle.std.specs.Prelude.{◌≡◌, ◌≢◌, ◌≤◌, ℕ, ℤ, List, length, Option}
use Rattle.std.specs.Borrow.{Bor}
use Rattle.vfs_segments.specs.Segments.{segments_of, flat_bytes}
use Rattle.vfs_grammar.specs.Limits.{AreLimits}
use Rattle.codec_calls.specs.declared.call.CallData.{CallData}
use Rattle.codec_calls.specs.declared.data.AnswerData.{AnswerData}
use Rattle.codec_calls.specs.declared.data.ItemData.{ItemData}
use Rattle.codec_decode.specs.Further.{What, what_of}
use Rattle.c_rooms.specs.Codes.{no_memory, wrong_size}
use Rattle.nizwarf_codec.specs.Answering.{AnswersOrNot}
use Rattle.nizwarf_codec.specs.Asking.{unread_in}
use Rattle.nizwarf_codec.specs.Further.{AsksOffered, HoldsOffered, MayWantOffered}
use Rattle.nizwarf_codec.specs.Kept.{HoldsAnswer}
use Rattle.nizwarf_codec.specs.Session.{limits_of, options_of}
use Rattle.nizwarf_codec.specs.Turns.{IsAnsweredOrNot}
use Rattle.nizwarf_codec.specs.declared.data.SessionData.{SessionData}
use Rattle.nizwarf_codec.specs.declared.data.ToldData.{ToldData}
use Rattle.nizwarf_codec.specs.declared.memory.Memory.{Memory}

-- Where there is no server for the sizes of the session, the code says so, and all else is as it was: of an answer,
abbrev pub AnswersNoServer : SessionData → (code : ℤ) → (slot slot_after : Option Memory) → (told told_after : ToldData)
    → Type 0
AnswersNoServer session code slot slot_after told told_after =
    (AreLimits (limits_of session) → ⊥)
    → (code ≡ wrong_size) × (slot_after ≡ slot) × (told_after ≡ told)

-- of a request that is asked,
abbrev pub AsksNoServer : SessionData → (code : ℤ) → (slot slot_after : Option Memory) → (call call_after : CallData)
    → (told told_after : ToldData) → Type 0
AsksNoServer session code slot slot_after call call_after told told_after =
    (AreLimits (limits_of session) → ⊥)
    → (code ≡ wrong_size) × (slot_after ≡ slot) × (call_after ≡ call) × (told_after ≡ told)

-- and of one that is checked.
abbrev pub ChecksNoServer : SessionData → (code : ℤ) → (call call_after : CallData) → (interrupts interrupts_after : ℕ)
    → Type 0
ChecksNoServer session code call call_after interrupts interrupts_after =
    (AreLimits (limits_of session) → ⊥)
    → (code ≡ wrong_size) × (call_after ≡ call) × (interrupts_after ≡ interrupts)

-- What comes of answering a call, by the session: a turn.
abbrev pub AnswersTurn : SessionData → CallData → AnswerData → (text : List ℕ) → (items : List ItemData) → (code : ℤ)
    → (told told_after : ToldData) → (shown : List ℕ) → Type 0
AnswersTurn session call a text items code told told_after shown =
    AreLimits (limits_of session)
    → IsAnsweredOrNot (limits_of session) call a text items code told told_after shown

-- ---- no more is of the promise: the rest is for clauses that say the same over writers, and for those of memory

-- what the request in these segments asks, by the rows that are offered
abbrev pub what_in : SessionData → (offers : ℕ) → (request : List (Bor (List ℕ))) → What
what_in session offers request = what_of offers (limits_of session) (flat_bytes (segments_of request))

-- Of the request in these segments, which asks this, what comes of asking it, over writers, by the session.
abbrev pub AsksInSession : SessionData → (request : List (Bor (List ℕ))) → (room : ℕ) → What → (code : ℤ)
    → (call_after : CallData) → (told told_after : ToldData) → (shown : List ℕ) → Type 0
AsksInSession session request room what code call_after told told_after shown =
    AreLimits (limits_of session)
    → AsksOffered (limits_of session) (options_of session) (flat_bytes (segments_of request)) room what code call_after
    told told_after shown

-- A slot that has memory wants no more for a request in up to four segments that asks this, unless its tail is cut, it
-- may have a context, or it has pairs.
abbrev pub AsksWithoutMemory : SessionData → (request : List (Bor (List ℕ))) → (room : ℕ) → What → (code : ℤ)
    → (slot : Option Memory) → Type 0
AsksWithoutMemory session request room what code slot =
    HoldsOffered (limits_of session) (options_of session) (flat_bytes (segments_of request)) room what slot
    → length request ≤ 4
    → ¬ (MayWantOffered (limits_of session) (options_of session) room (unread_in (segments_of request)) what)
    → code ≢ no_memory

-- What comes of answering a call, by the session, over writers.
abbrev pub AnswersInSession : SessionData → CallData → AnswerData → (text : List ℕ) → (items : List ItemData) → (code : ℤ)
    → (told told_after : ToldData) → (shown : List ℕ) → Type 0
AnswersInSession session call a text items code told told_after shown =
    AreLimits (limits_of session)
    → AnswersOrNot (limits_of session) call a text items code told told_after shown

-- A slot with which a call was asked wants no more memory for its answer.
abbrev pub AnswersWithoutMemory : CallData → (code : ℤ) → (slot : Option Memory) → Type 0
AnswersWithoutMemory call code slot = HoldsAnswer call slot → code ≢ no_memory
