-- What the code that reads tails, extensions and pairs answers, beside what the grammar says of them.
use Rattle.std.specs.Prelude.{◌≡◌, ◌⊎◌, ℕ, List, drop, option_map, IsTrue, IsOk, Result, Ok, Err, ◌==◌, ◌+◌, ◌-◌, [], map, position, take, Option, Some, None, IsFalse}
use Rattle.std.specs.declared.vec.Vec.{Vec}
use Rattle.std.specs.declared.alloc.Global.{Global}
use Rattle.vfs_flags.specs.Flags.{security_ctx, has_flag}
use Rattle.vfs_wire.specs.Records.{in_header}
use Rattle.vfs_wire.specs.declared.headers.InHeader.{InHeader}
use Rattle.vfs_segments.specs.Lengths.{lengths_from, lie_together}
use Rattle.vfs_files.specs.Values.{context_values, ExtensionValues, extension_values_of}
use Rattle.vfs_files.specs.declared.extensions.Extensions.{Extensions}
use Rattle.vfs_grammar.specs.declared.error.Error.{Error}
use Rattle.vfs_grammar.specs.declared.error.Error.TheVariants.{OutOfMemory}
use Rattle.vfs_grammar.specs.Extensions.{context_in, block_in, Received}
use Rattle.vfs_grammar.specs.Words.{block_size}
use Rattle.vfs_grammar.specs.Forms.{Layout, Without, Record, extended_in}
use Rattle.vfs_grammar.specs.Records.{size_of}
use Rattle.vfs_messages.specs.declared.extensions.Found.{Found}
use Rattle.vfs_messages.specs.declared.extensions.Block as found

-- it was found, and is of this value; or it is refused; or, where memory is wanted, there was none
abbrev pub GivesValue :
    {A B : Type 0} → (wanted : Type 0) → (value : A → B) → Result A Error
    → (said : Result B Error) → Type 0
GivesValue wanted value (Ok x) said = said ≡ Ok (value x)
GivesValue wanted value (Err e) said = (said ≡ Err e) ⊎ (wanted × (e ≡ OutOfMemory))

-- memory is wanted for a context that is whole
abbrev pub IsContext : (bytes : List ℕ) → Type 0
IsContext bytes = IsOk (context_in bytes)

-- and so in a body of one context alone
abbrev pub HoldsContext : (nr : ℕ) → (body : List ℕ) → Type 0
HoldsContext nr body = (nr ≡ 1) × IsContext body

-- among extensions, only where contexts were agreed on
abbrev pub MayHoldContext : (options : ℕ) → Type 0
MayHoldContext options = IsTrue (has_flag options security_ctx)

-- what was found so far, as values
abbrev pub found_values : Found → Received
found_values found = record {
  has_contexts = found.has_contexts;
  values = record { context = option_map context_values found.secctx; group = found.sup_gid };
}

-- a block was found at the beginning of bytes, and what comes after it; or there is none
abbrev pub GivesBlock : Result found.Block Error → (bytes : List ℕ) → Type 0
GivesBlock (Ok block) bytes =
    (block_in bytes ≡ Ok (record { ext_type = block.ext_type; body = block.body.now }))
    × (block.following.now ≡ drop (block_size bytes) bytes)
GivesBlock (Err error) bytes = block_in bytes ≡ Err error

-- the lengths of the pieces in which the bytes after a record lie, of those from the record on
abbrev pub pieces_after : {R : Type 0} → Layout R → (pieces : List ℕ) → List ℕ
pieces_after (Without r) pieces = pieces
pieces_after (Record t) pieces = lengths_from (size_of t) pieces

-- a tail after a record of `size` bytes is cut between two segments, where the bytes from it on
-- lie in pieces of these lengths
abbrev pub TailIsCut : InHeader → (size : ℕ) → (pieces : List ℕ) → Type 0
TailIsCut h size pieces = IsFalse (lie_together 0 (h.len - (size_of in_header + size)) pieces)

-- the tail is this one, or refused as the grammar says, or, where memory is wanted, there was none
-- for one that is whole
abbrev pub GivesTail : (wanted : Type 0) → Result (List ℕ) Error → (tail : Result (List ℕ) Error)
    → Type 0
GivesTail wanted (Ok bytes) tail = tail ≡ Ok bytes
GivesTail wanted (Err e) tail =
    (tail ≡ Err e) ⊎ ((whole : List ℕ) × (tail ≡ Ok whole) × wanted × (e ≡ OutOfMemory))

-- the same of a part of a tail, which has this value: it was found, or the tail or the part is
-- refused as the grammar says, or, where memory is wanted, there was none for a tail that is whole
abbrev pub GivesPartAs : {A B : Type 0} → (wanted : Type 0) → (value : A → B)
    → (part : List ℕ → Result B Error) → Result A Error → (tail : Result (List ℕ) Error) → Type 0
GivesPartAs wanted value part (Ok x) tail =
    (whole : List ℕ) × (tail ≡ Ok whole) × (part whole ≡ Ok (value x))
GivesPartAs wanted value part (Err e) tail =
    (tail ≡ Err e)
    ⊎ ((whole : List ℕ) × (tail ≡ Ok whole) × ((part whole ≡ Err e) ⊎ (wanted × (e ≡ OutOfMemory))))

-- the same where the part is its value
abbrev pub GivesPart : {A : Type 0} → (wanted : Type 0) → (part : List ℕ → Result A Error)
    → Result A Error → (tail : Result (List ℕ) Error) → Type 0
GivesPart wanted part result tail = GivesPartAs wanted (λ x. x) part result tail

-- the values of a name with what follows it, and of the extensions
abbrev pub extended_values : (List ℕ × List ℕ) × Extensions → List ℕ × ExtensionValues
extended_values part = (part.0.0, extension_values_of part.1)

-- the values of a name, a text and the extensions
abbrev pub link_values : (List ℕ × List ℕ) × Extensions → List ℕ × List ℕ × ExtensionValues
link_values part = (part.0.0, part.0.1, extension_values_of part.1)

-- a name was found to end at this place, with extensions after it, or is refused as the grammar
-- says, or there was no memory for a context, where contexts were agreed on
abbrev pub GivesExtended : Result (ℕ × Extensions) Error → (options : ℕ) → (bytes : List ℕ) → Type 0
GivesExtended (Ok part) options bytes =
    (position (λ b. b == 0) bytes ≡ Some part.0)
    × (extended_in options bytes ≡ Ok (take part.0 bytes, extension_values_of part.1))
GivesExtended (Err e) options bytes =
    (extended_in options bytes ≡ Err e) ⊎ (MayHoldContext options × (e ≡ OutOfMemory))

-- a text, or none where there is no text
abbrev pub text_or_none : Option (List ℕ) → List ℕ
text_or_none None = []
text_or_none (Some text) = text

-- the pairs were copied, their nodes as a file system names them, or refused as the grammar says,
-- or there was no memory for pairs that are whole
abbrev pub GivesPairs : {I : Type 0} → (value : I → ℕ) → Result (Vec (I × ℕ) Global) Error
    → (pairs : Result (List (ℕ × ℕ)) Error) → Type 0
GivesPairs value (Ok v) pairs = pairs ≡ Ok (map (λ p. (value p.0, p.1)) v.items)
GivesPairs value (Err e) pairs =
    (pairs ≡ Err e) ⊎ ((whole : List (ℕ × ℕ)) × (pairs ≡ Ok whole) × (e ≡ OutOfMemory))
