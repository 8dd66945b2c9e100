-- The forms of requests: what comes after the header, and in which order it is refused. It leads from `Ask`
-- to `Form`, and to `ask_form`.
use Rattle.std.specs.Prelude.{ℕ, zero, suc, ◌+◌, ◌*◌, ◌-◌, ◌^◌, ◌==◌, bit_and, [], ◌∷◌, Bool, false, List, length, take, drop, nat_lt, if◌then◌else◌, Some, Result, Ok, Err, ok_or, option_map, unwrap_or}
use Rattle.vfs_flags.specs.Numbers.{enomem, enosys, eproto}
use Rattle.vfs_flags.specs.Flags.{init_ext, known_fs_options, has_flag}
use Rattle.vfs_flags.specs.declared.constants.TheConstants.{KERNEL_VERSION, MIN_KERNEL_MINOR_VERSION}
use Rattle.vfs_wire.specs.Fields.{Table, bytes_of, value_of}
use Rattle.vfs_wire.specs.Records.{in_header, out_header, init_in_compat, init_in_ext, init_out, forget_one}
use Rattle.vfs_wire.specs.declared.init.InitInCompat.{InitInCompat}
use Rattle.vfs_wire.specs.declared.headers.InHeader.{InHeader}
use Rattle.vfs_files.specs.Calls.{Call}
use Rattle.vfs_files.specs.Values.{ExtensionValues, name_of, first_name}
use Rattle.vfs_grammar.specs.Extensions.{error_or, extensions_in}
use Rattle.vfs_grammar.specs.Listing.{Listing}
use Rattle.vfs_grammar.specs.Records.{size_of, record_of}
use Rattle.vfs_grammar.specs.Reply.{Reply, Refusal, Bytes, NoReply, Echo, echo_of, fault_reply, body_reply, version_out}
use Rattle.vfs_grammar.specs.declared.error.Error.{Error}
use Rattle.vfs_grammar.specs.declared.error.Error.TheVariants.{DecodeMessage, EncodeMessage, MissingParameter, InvalidCString, InvalidHeaderLength, InvalidXattrSize}
use Rattle.vfs_files.specs.Calls as call

-- What a request asks: to be ended without a call, by this coming back; a call, or that a directory
-- be read, with what is kept of the request for its reply; or one of these, where there is memory
-- for a copy of some of its bytes, if one is needed. `WithMemory` alone lets each such request be refused; which may not
-- be, the clause `memory` of `handle_session` says.
pub data Ask : Type 0 where
  Ends : (reply : Reply) → Ask
  Asks : (echo : Echo) (call : Call) → Ask
  Lists : (echo : Echo) (listing : Listing) → Ask
  WithMemory : (rest : Ask) → Ask

-- a request that is answered by the fault of this number, without a call
abbrev pub faulted : (number : ℕ) → InHeader → Ask
faulted number h = Ends (Bytes (fault_reply (Some number) h.unique))

-- a part of a request that is at fault refuses the whole of it; otherwise the next part says what it asks.
-- (`error_or` is for what is within a part: it gives an error or a value, and this an `Ask`)
abbrev pub refused_or : {A : Type 0} → Result A Error → (next : A → Ask) → Ask
refused_or (Err error) next = Ends (Refusal error)
refused_or (Ok part) next = next part

-- what is above a limit, by a test, is answered by the fault ENOMEM; what is within it asks this
abbrev pub within : (above : Bool) → InHeader → (next : Ask) → Ask
within above h next = if above then faulted enomem h else next

-- the tail of a request: of the bytes `following` a record of `size` bytes, as many as the header's `len` has
-- beyond the header and the record. More bytes are ignored
abbrev pub tail_of : InHeader → (size : ℕ) → (following : List ℕ) → Result (List ℕ) Error
tail_of h size following =
    if nat_lt h.len (size_of in_header + size) then Err InvalidHeaderLength
    else if nat_lt (length following) (h.len - (size_of in_header + size)) then Err DecodeMessage
    else Ok (take (h.len - (size_of in_header + size)) following)

-- the two names that a tail is: the first ends at its first 0, and the second is the rest
abbrev pub two_names_in : (tail : List ℕ) → Result (List ℕ × List ℕ) Error
two_names_in tail = error_or (ok_or (first_name tail) MissingParameter) (λ part.
    error_or (ok_or (name_of part.1) InvalidCString) (λ second. Ok (part.0, second)))

-- the name and the value that a tail is: the name ends at its first 0, and the value is the rest,
-- of this size
abbrev pub value_in : (size : ℕ) → (tail : List ℕ) → Result (List ℕ × List ℕ) Error
value_in size tail = error_or (ok_or (first_name tail) MissingParameter) (λ part.
    if length part.1 == size then Ok part else Err (InvalidXattrSize (size, length part.1)))

-- The name and the extensions that bytes are: the name ends at its first 0, and the extensions are
-- the rest. A name without a 0 runs to the end, and is refused after the extensions.
abbrev pub extended_in : (options : ℕ) → (bytes : List ℕ) → Result (List ℕ × ExtensionValues) Error
extended_in options [] = Err MissingParameter
extended_in options (b ∷ bytes) =
    error_or
    (extensions_in options (unwrap_or (option_map (λ part. part.1) (first_name (b ∷ bytes))) []))
    (λ ext. error_or (ok_or (first_name (b ∷ bytes)) InvalidCString) (λ part. Ok (part.0, ext)))

-- the name, the link's text and the extensions that a tail is: name and text end at their first 0,
-- and the extensions are the rest
abbrev pub link_in_tail : (options : ℕ) → (tail : List ℕ)
    → Result (List ℕ × List ℕ × ExtensionValues) Error
link_in_tail options tail = error_or (ok_or (first_name tail) MissingParameter) (λ part.
    error_or (extended_in options part.1) (λ text. Ok (part.0, text.0, text.1)))

-- that many pairs of a node and a count
abbrev pub pairs_of : (count : ℕ) → (bytes : List ℕ) → List (ℕ × ℕ)
pairs_of zero bytes = []
pairs_of (suc count) bytes =
    ((value_of forget_one bytes).nodeid, (value_of forget_one bytes).nlookup)
    ∷ pairs_of count (drop (size_of forget_one) bytes)

-- the pairs that the bytes begin with, where they are whole
abbrev pub pairs_in : (count : ℕ) → (bytes : List ℕ) → Result (List (ℕ × ℕ)) Error
pairs_in count bytes =
    if nat_lt (length bytes) (count * size_of forget_one) then Err DecodeMessage
    else Ok (pairs_of count bytes)

-- the space that a room leaves after the header of a reply, or the refusal of one that is too
-- small for the header
abbrev pub space_after_header : (room_len : ℕ) → Result ℕ Error
space_after_header room_len =
    if nat_lt room_len (size_of out_header) then Err EncodeMessage
    else Ok (room_len - size_of out_header)

-- What INIT of this version asks: an older one is answered EPROTO, if its record has these 16 bytes, and a newer major
-- one is told ours.
-- The second word of flags is in a record of its own, where INIT_EXT in the first says that there is one, and
-- else 0. The options offered are those bits of both words that are known.
abbrev pub ask_init : InHeader → InitInCompat → (following : List ℕ) → Ask
ask_init h r following =
    refused_or
    (if has_flag r.flags init_ext then error_or (record_of init_in_ext following) (λ more. Ok more.flags2)
    else Ok 0) (λ flags2.
    if nat_lt r.major KERNEL_VERSION then faulted eproto h
    else if nat_lt KERNEL_VERSION r.major
    then Ends (Bytes (body_reply (bytes_of init_out version_out) h.unique))
    else if nat_lt r.minor MIN_KERNEL_MINOR_VERSION then faulted eproto h
    else Asks (record (echo_of h) { max_readahead = r.max_readahead })
    (call.Init (bit_and (flags2 * 2 ^ 32 + r.flags) known_fs_options)))

-- what comes right after a request's header: no record, in whose place is this value; or one, whose bytes this `Table`
-- says. What follows that is of the `Form`
pub data Layout (R : Type 0) : Type 0 where
  Without : R → Layout R
  Record : Table R → Layout R

-- no record
abbrev pub no_record : Layout (Unit {0})
no_record = Without tt

-- how many bytes it has
abbrev pub layout_size : {R : Type 0} → Layout R → ℕ
layout_size (Without r) = 0
layout_size (Record t) = size_of t

-- the record that the bytes begin with
abbrev pub layout_record : {R : Type 0} → Layout R → (rest : List ℕ) → Result R Error
layout_record (Without r) rest = Ok r
layout_record (Record t) rest = record_of t rest

-- where there is no limit, no record asks for more than it
abbrev pub never : {R : Type 0} → R → Bool
never r = false

-- A row of the protocol's table: the form of a request, with its record and the call that it
-- asks for. By the form something may follow the record: nothing; a name; two names; a name and a
-- value of the size that the record says; a name, or a link's name and its text, and extensions;
-- pairs of a node and a count, as many as the record says; or bytes that the call takes as they
-- are, to the end of the request. A call may want space to put its reply's data into, and a
-- directory some for its records. `above` tells whether the record asks for more than the limits
-- allow, or than there is room for. INIT has a form of its own; some requests ask for nothing, and
-- some aren't served.
pub data Form : Type 1 where
  NoTail : {R : Type 0} (layout : Layout R) (above : R → Bool) (call : R → Call) → Form
  NameTail : {R : Type 0} (layout : Layout R) (above : R → Bool) (call : R → List ℕ → Call) → Form
  TwoNames : {R : Type 0} (layout : Layout R) (call : R → (first second : List ℕ) → Call) → Form
  NameAndValue : {R : Type 0} (layout : Layout R) (size : R → ℕ)
      (call : R → (name value : List ℕ) → Call) → Form
  NameAndExtensions : {R : Type 0} (layout : Layout R) (options : ℕ)
      (call : R → (name : List ℕ) → ExtensionValues → Call) → Form
  LinkAndExtensions : {R : Type 0} (layout : Layout R) (options : ℕ)
      (call : R → (name text : List ℕ) → ExtensionValues → Call) → Form
  Pairs : {R : Type 0} (layout : Layout R) (above : R → Bool) (count : R → ℕ)
      (call : R → List (ℕ × ℕ) → Call) → Form
  WithRest : {R : Type 0} (layout : Layout R) (call : R → (rest : List ℕ) → Call) → Form
  IntoRoom : {R : Type 0} (layout : Layout R) (room_len : ℕ)
      (call : R → (space_for_data : ℕ) → Call) → Form
  Directories : {R : Type 0} (layout : Layout R) (above : R → Bool) (room_len : ℕ)
      (listing : R → (space_for_records : ℕ) → Listing) → Form
  Versions : Form
  Silent : Form
  NotServed : Form

module _ (h : InHeader) (rest : List ℕ) where
  -- what a request with a tail asks: the record is read, and then the tail after it, by `tail_of`; what `next` makes of
  -- both is asked if there is memory, for a tail that is cut between two segments is copied
  abbrev pub with_tail : {R : Type 0} → Layout R → (next : R → (tail : List ℕ) → Ask) → Ask
  with_tail layout next = refused_or (layout_record layout rest) (λ r.
      refused_or (tail_of h (layout_size layout) (drop (layout_size layout) rest)) (λ tail.
      WithMemory (next r tail)))

  -- What a request of each form asks, by the bytes after its header: in which order it is refused,
  -- and where it wants memory for what it may want it for.
  abbrev pub ask_form : Form → Ask
  ask_form (NoTail layout above call) =
      refused_or (layout_record layout rest) (λ r. within (above r) h (Asks (echo_of h) (call r)))
  ask_form (NameTail layout above call) = with_tail layout (λ r tail.
      within (above r) h
      (refused_or (ok_or (name_of tail) InvalidCString) (λ name. Asks (echo_of h) (call r name))))
  ask_form (TwoNames layout call) = with_tail layout (λ r tail.
      refused_or (two_names_in tail) (λ names. Asks (echo_of h) (call r names.0 names.1)))
  ask_form (NameAndValue layout size call) = with_tail layout (λ r tail.
      refused_or (value_in (size r) tail) (λ part. Asks (echo_of h) (call r part.0 part.1)))
  ask_form (NameAndExtensions layout options call) = with_tail layout (λ r tail.
      refused_or (extended_in options tail) (λ part. Asks (echo_of h) (call r part.0 part.1)))
  ask_form (LinkAndExtensions layout options call) = with_tail layout (λ r tail.
      refused_or (link_in_tail options tail) (λ part.
      Asks (echo_of h) (call r part.0 part.1 part.2)))
  ask_form (Pairs layout above count call) =
      refused_or (layout_record layout rest) (λ r. within (above r) h
      (refused_or (pairs_in (count r) (drop (layout_size layout) rest)) (λ pairs.
      WithMemory (Asks (echo_of h) (call r pairs)))))
  ask_form (WithRest layout call) = refused_or (layout_record layout rest) (λ r.
      Asks (echo_of h) (call r (drop (layout_size layout) rest)))
  ask_form (IntoRoom layout room_len call) = refused_or (layout_record layout rest) (λ r.
      refused_or (space_after_header room_len) (λ for_data. Asks (echo_of h) (call r for_data)))
  ask_form (Directories layout above room_len listing) =
      refused_or (layout_record layout rest) (λ r. within (above r) h
      (refused_or (space_after_header room_len) (λ for_records.
      Lists (echo_of h) (listing r for_records))))
  ask_form Versions = refused_or (record_of init_in_compat rest) (λ r.
      ask_init h r (drop (size_of init_in_compat) rest))
  ask_form Silent = Ends NoReply
  ask_form NotServed = faulted enosys h

-- ---- no more is of the promise: the rest is for proofs, and for contracts of parts

-- the second word of INIT's flags
abbrev pub second_flags : (flags : ℕ) → (following : List ℕ) → Result ℕ Error
second_flags flags following =
    if has_flag flags init_ext then error_or (record_of init_in_ext following) (λ r. Ok r.flags2) else Ok 0

-- what INIT of this version asks, by both words
abbrev pub ask_version : InHeader → InitInCompat → (flags2 : ℕ) → Ask
ask_version h r flags2 =
    if nat_lt r.major KERNEL_VERSION then faulted eproto h
    else if nat_lt KERNEL_VERSION r.major
    then Ends (Bytes (body_reply (bytes_of init_out version_out) h.unique))
    else if nat_lt r.minor MIN_KERNEL_MINOR_VERSION then faulted eproto h
    else Asks (record (echo_of h) { max_readahead = r.max_readahead })
    (call.Init (bit_and (flags2 * 2 ^ 32 + r.flags) known_fs_options))
