-- What requests may want memory for.
use Rattle.std.specs.Prelude.{ℕ, List, Bool}
use Rattle.vfs_wire.specs.Fields.{value_of}
use Rattle.vfs_wire.specs.Records.{in_header}
use Rattle.vfs_wire.specs.declared.headers.InHeader.{InHeader}
use Rattle.vfs_grammar.specs.Forms.{Form, Layout, NameTail, TwoNames, NameAndValue, NameAndExtensions, LinkAndExtensions, Pairs}

-- What is said of a request by what it may want memory for, which is the one table of this: for
-- nothing; for its tail; for its tail, and for a context among the extensions that these options
-- have read; or for its pairs.
module _ (nothing : Type 0) (tail : (R : Type 0) → Layout R → Type 0)
    (context : (R : Type 0) → Layout R → (options : ℕ) → Type 0)
    (pairs : (R : Type 0) → Layout R → (R → Bool) → (R → ℕ) → Type 0) where
  abbrev pub by_memory : Form → Type 0
  by_memory (NameTail layout above call) = tail _ layout
  by_memory (TwoNames layout call) = tail _ layout
  by_memory (NameAndValue layout size call) = tail _ layout
  by_memory (NameAndExtensions layout options call) = context _ layout options
  by_memory (LinkAndExtensions layout options call) = context _ layout options
  by_memory (Pairs layout above count call) = pairs _ layout above count
  by_memory _ = nothing

-- the header that a request begins with; bytes that are not there count 0
abbrev pub header_of : (request : List ℕ) → InHeader
header_of request = value_of in_header request
