-- Which memory a server keeps.
use Rattle.std.proofs.Common.{◌≡◌, ◌≢◌, ◌≤◌, ◌<◌, ◌^◌, ◌+◌, ◌∙◌, ℕ, ℤ, List, length, Option, None, Some, Result, Ok, Err, IfSome, IsSome, MatchOption, refl, ap, sym, subst, arith, length-append}
use Rattle.vfs_segments.specs.Lengths.{lengths_from}
use Rattle.vfs_segments.specs.Segments.{flat_bytes, lengths_of}
use Rattle.vfs_segments.specs.Unread.{Unread}
use Rattle.vfs_segments.specs.Written.{Written, Leaves, whole}
use Rattle.vfs_grammar.specs.declared.error.Error.{Error}
use Rattle.vfs_grammar.specs.declared.error.Error.TheVariants.{OutOfMemory}
use Rattle.vfs_grammar.specs.declared.error.Error.TheVariants as error
use Rattle.vfs_grammar.specs.declared.limits.Limits.{Limits}
use Rattle.vfs_server.specs.Memory.{WantsNoMemory}
use Rattle.vfs_server.specs.Step.{ServerState}
use Rattle.c_rooms.specs.Codes.{no_memory, no_server, outcome_code, ok}
use Rattle.nizwarf_tree.specs.Files.{State}
use Rattle.nizwarf_tree.specs.Kept.{KeepsFor, WantsNone, unread_in}
use Rattle.nizwarf_tree.specs.declared.instance.Instance.{Instance}

-- an outcome that isn't for want of memory has another number
pub other_number : (outcome : Result ℕ Error) → outcome ≢ Err OutOfMemory → outcome_code outcome ≡ no_memory → ⊥
other_number (Ok len) other is = cc
other_number (Err error.OutOfMemory) other is = other refl
other_number (Err error.DecodeMessage) other is = cc
other_number (Err error.EncodeMessage) other is = cc
other_number (Err error.FlushMessage) other is = cc
other_number (Err error.MissingParameter) other is = cc
other_number (Err error.InvalidCString) other is = cc
other_number (Err error.InvalidCString2) other is = cc
other_number (Err error.InvalidHeaderLength) other is = cc
other_number (Err (error.InvalidXattrSize sizes)) other is = cc
other_number (Err error.MissingExtension) other is = cc

-- a room that comes back is as long as when it was lent
pub whole_stays : (old new : Written) (room_after : List ℕ) → Leaves old room_after new
    → length (whole new) ≡ length (whole old)
whole_stays old new room_after l =
    ap length l.kept ∙ length-append old.passed room_after ∙ ap (λ (n : ℕ). length old.passed + n) l.same_length
    ∙ sym (length-append old.passed old.left)

-- memory that came back as these bytes is kept for a room of as many, or fewer
pub back : (n : ℕ) (s : Instance) (old new : Written) (bytes : List ℕ) → length (whole new) ≡ length (whole old)
    → bytes ≡ whole new → n ≤ length (whole old) → KeepsFor (length bytes) s → KeepsFor n s
back n s old new bytes same is within keeps =
    let long : length bytes ≡ length (whole new) = ap length is in
    (keeps.0, omega (arith, same, long, within, keeps.1))

-- the room that was lent lies in all of it
pub left_within : (total : ℕ) (w : Written) → length w.left ≡ total → total ≤ length (whole w)
left_within total w is = omega (arith, is, length-append w.passed w.left)

pub none_some : {A : Type 0} (o : Option A) → o ≡ None → IsSome o → ⊥
none_some None is some = let e = some in cc
none_some (Some a) is some = cc

-- whether memory is wanted goes by the bytes, and by the pieces in which they lie
pub wants_same : (limits : Limits) (options total : ℕ) (u : Unread) (segments : List (List ℕ)) → u.left ≡ flat_bytes segments
    → u.taken ≡ 0 → u.pieces ≡ lengths_from 0 (lengths_of segments)
    → WantsNoMemory limits options total (unread_in segments) → WantsNoMemory limits options total u
wants_same limits options total u segments left taken pieces wants =
    subst (λ (p : List ℕ). WantsNoMemory limits options total (record { left = u.left; taken = u.taken; pieces = p })) (sym pieces)
    (subst (λ (t : ℕ). WantsNoMemory limits options total
    (record { left = u.left; taken = t; pieces = lengths_from 0 (lengths_of segments) })) (sym taken)
    (subst (λ (q : List ℕ). WantsNoMemory limits options total
    (record { left = q; taken = 0; pieces = lengths_from 0 (lengths_of segments) })) (sym left) wants))

pub not_less : (n : ℕ) → (n < 2 ^ 64 → ⊥) → 2 ^ 64 ≤ n
not_less n short = omega (arith, short)

-- after a message that was answered the next one lacks no memory
pub next_lacks_none : (old mid : Option Instance) (room : ℕ) (segments : List (List ℕ)) (Few : Type 0) (first code : ℤ)
    → first ≡ ok → (old ≡ None → first ≡ no_server) → IfSome old (λ _. MatchOption mid ⊥ (λ t. KeepsFor room t))
    → IfSome mid (λ s. Few → WantsNone s.server room segments → KeepsFor room s → code ≢ no_memory)
    → Few → ((server : ServerState State) → WantsNone server room segments) → code ≢ no_memory
next_lacks_none None mid room segments Few first code is none kept memory few wants =
    let e = sym is ∙ none refl in absurd cc
next_lacks_none (Some s) None room segments Few first code is none kept memory few wants = absurd kept
next_lacks_none (Some s) (Some t) room segments Few first code is none kept memory few wants =
    memory few (wants t.server) kept
