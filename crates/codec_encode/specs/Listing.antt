-- What comes of the answer to a READDIR or READDIRPLUS, beside Listing of the grammar.
use Rattle.std.specs.Prelude.{◌≡◌, ◌==◌, ◌-◌, ℕ, pos, bit_and, length, not, List, Option, Result}
use Rattle.std.proofs.Common.{inl, inr}
use Rattle.vfs_segments.specs.Written.{Written}
use Rattle.vfs_wire.specs.Records.{out_header}
use Rattle.vfs_files.specs.Calls.{Data, IsAnswer, read_answer}
use Rattle.vfs_files.specs.Runs.{Event}
use Rattle.vfs_messages.specs.Rooms.{Replies}
use Rattle.vfs_grammar.specs.Listing.{Listing, IsDirectory}
use Rattle.vfs_grammar.specs.Records.{size_of}
use Rattle.vfs_grammar.specs.Words.{reply_to, IsRead}
use Rattle.codec_calls.specs.declared.call.CallData.{CallData}
use Rattle.codec_calls.specs.declared.call.has.TheConstants as has
use Rattle.codec_calls.specs.declared.data.AnswerData.{AnswerData}
use Rattle.codec_calls.specs.declared.data.ItemData.{ItemData}
use Rattle.codec_encode.specs.Offered.{AreOffered, taken_by}
use Rattle.codec_encode.specs.Said.{IsFailed}
use Rattle.codec_encode.specs.declared.answered.Answered.{Answered}

-- It was not opened, by the fault that was answered; or it was read from the items that were offered, of
-- which that many are in the reply.
abbrev pub IsOfferedBy : AnswerData → (items : List ItemData) → (l : Listing) → (events : List Event)
    → (records : List ℕ) → (answer : Result ℕ (Option ℕ)) → IsDirectory l events records answer
    → (taken : ℕ) → Type 0
IsOfferedBy a items l events records answer (inl (fault, _, _, _)) taken = IsFailed a fault × (taken ≡ 0)
IsOfferedBy a items l events records answer (inr (_, _, listing)) taken =
    (a.error ≡ pos 0)
    × AreOffered l.plus items listing.lines listing.stop
    × (taken ≡ taken_by answer (length listing.lines))

-- ---- no more is of the promise: the rest is for proofs, and for contracts of parts

-- the directory that is read
abbrev pub listing_told : CallData → Listing
listing_told call = record {
  plus = not (bit_and call.has has.PLUS == 0);
  ctx = record { uid = call.uid; gid = call.gid; pid = call.pid };
  parent = call.node;
  handle = call.handle;
  size = call.size;
  offset = call.offset;
  space = call.room - size_of out_header;
}

-- A READDIR or READDIRPLUS was answered: the directory was read so, and its records are the data of the
-- reply.
pub record IsListed (call : CallData) (a : AnswerData) (items : List ItemData) (old : Written)
    (came : Answered) (new : Written) : Type 0 where
  pub events : List Event
  pub records : List ℕ
  pub answer : Result ℕ (Option ℕ)
  pub read : IsRead (listing_told call) events records answer
  pub offered : IsOfferedBy a items (listing_told call) events records answer read came.taken
  pub fits : IsAnswer (Data call.size) (read_answer answer records)
  pub replied :
      Replies (reply_to call.unique (Data call.size) (read_answer answer records)) old came.outcome new
  pub same_options : came.options ≡ call.options
  pub none_given : came.given ≡ 0
