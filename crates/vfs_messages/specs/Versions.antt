-- What comes of the version of an INIT.
use Rattle.std.specs.Prelude.{◌≡◌, ℕ, Option, None, Some, Result}
use Rattle.vfs_wire.specs.declared.headers.InHeader.{InHeader}
use Rattle.vfs_wire.specs.declared.init.InitInCompat.{InitInCompat}
use Rattle.vfs_segments.specs.Written.{Written}
use Rattle.vfs_files.specs.Calls.{Init}
use Rattle.vfs_grammar.specs.Forms.{Ends, Asks, ask_version}
use Rattle.vfs_grammar.specs.Options.{options_offered}
use Rattle.vfs_grammar.specs.Reply.{Reply, echo_of}
use Rattle.vfs_grammar.specs.declared.error.Error.{Error}
use Rattle.vfs_messages.specs.Rooms.{Replies}

-- an INIT of this version ends without a call, whatever its second word of flags, by what came back
-- through a writer
pub record IsUnserved (h : InHeader) (r : InitInCompat) (old : Written) (outcome : Result ℕ Error)
    (new : Written) : Type 0 where
  pub reply : Reply
  pub ends : (flags2 : ℕ) → ask_version h r flags2 ≡ Ends reply
  pub replied : Replies reply old outcome new

-- an INIT of this version asks for its call, and a writer is as it was
pub record IsServed (h : InHeader) (r : InitInCompat) (old new : Written) : Type 0 where
  pub asks :
      (flags2 : ℕ)
      → ask_version h r flags2
      ≡ Asks (record (echo_of h) { max_readahead = r.max_readahead })
      (Init (options_offered r.flags flags2))
  pub same : new ≡ old

-- what an INIT of this version came to by its version alone, where that ends it
abbrev pub AnswersVersion : InHeader → InitInCompat → (old : Written) → Option (Result ℕ Error)
    → (new : Written) → Type 0
AnswersVersion h r old (Some outcome) new = IsUnserved h r old outcome new
AnswersVersion h r old None new = IsServed h r old new
