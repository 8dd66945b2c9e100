-- What was put into a room after the place of a reply's header: the data of a READ, and the records
-- of a directory.
use Rattle.std.proofs.Common.{◌≡◌, ◌≤◌, ◌<◌, ◌-◌, ◌^◌, ℕ, false, List, [], ◌++◌, length, Option, None, Result, inl, inr, subst, arith, append-nil}
use Rattle.std.proofs.lemmas.Bool.Decides.{nat_tests}
use Rattle.vfs_segments.specs.Written.{Written, Moves, held_over}
use Rattle.vfs_wire_more.specs.declared.files.ReadIn.{ReadIn}
use Rattle.vfs_files.specs.Answers.{Handed, Counts}
use Rattle.vfs_files.specs.Calls.{Call}
use Rattle.vfs_files.specs.Values.{Item}
use Rattle.vfs_files.specs.Runs.{Event, IsRun}
use Rattle.vfs_listings.specs.Reading.{Puts}
use Rattle.vfs_listings.proofs.Filling.{moves_of, counts_of_listing}
use Rattle.vfs_grammar.specs.Ask.{lists_too_much}
use Rattle.vfs_grammar.specs.Listing.{Listing}
use Rattle.vfs_messages.specs.Rooms.{PutsAfterHeader}
use Rattle.vfs_grammar.specs.Words.{IsRead}
use Rattle.vfs_grammar.specs.declared.limits.Limits.{Limits}

-- data were put, and nothing beyond them
pub data_after : (old held new : Written) (bytes : List ℕ) → held ≡ held_over old 16 → 16 ≤ length old.left → Moves held bytes new
    → PutsAfterHeader old bytes new
data_after old held new bytes e enough moves = record {
  beyond = [];
  enough = enough;
  moves = rw (append-nil bytes) (subst (λ (w : Written). Moves w bytes new) e moves);
}

-- records were put, and perhaps the beginning of one more
pub records_after : (old held new : Written) (records beyond : List ℕ) → held ≡ held_over old 16 → 16 ≤ length old.left → Puts held (records ++ beyond) new
    → PutsAfterHeader old records new
records_after old held new records beyond e enough puts = record {
  beyond = beyond;
  enough = enough;
  moves = subst (λ (w : Written). Moves w (records ++ beyond) new) e (moves_of held new (records ++ beyond) puts);
}

-- the records that are answered are counted
pub directory_counts : (listing : Listing) (events : List Event) (body : List ℕ) (answer : Result ℕ (Option ℕ))
    → IsRead listing events body answer → listing.size < 2 ^ 32 - 16 → Counts answer body listing.size
directory_counts l events body answer (inl u) small = rw u.3 tt
directory_counts l events body answer (inr o) small = counts_of_listing l.plus l.ctx l.parent l.size l.space o.0 body answer o.2 small

-- what asks for no more than the limit and than there is room for
pub within_limit : (limits : Limits) (room : ℕ) (r : ReadIn) → lists_too_much limits room r ≡ false → r.size ≤ limits.max_buffer
within_limit limits room r e = grind (arith, nat_tests)

-- a run from an equal state
pub run_from : {S I : Type 0} (allows : S → Call → Handed I → S → Type 0) (gives : I → Option Item → I → Type 0) (old same new : S) (events : List Event)
    → old ≡ same → IsRun allows gives None old events new → IsRun allows gives None same events new
run_from allows gives old same new events e is = subst (λ s. IsRun allows gives None s events new) e is
