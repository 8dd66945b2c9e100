-- A directory that was read is a run of events.
use Rattle.std.proofs.Common.{◌≡◌, ℕ, Bool, List, [], ◌∷◌, Option, Result, Ok, Err, MatchResult, inl, inr, refl, sym, ap, ◌∙◌, arith, append-nil, sum_by}
use Rattle.vfs_segments.specs.Written.{Written}
use Rattle.vfs_files.specs.Calls.{Call, Readdir, Handed, Failed, directory_answer}
use Rattle.vfs_files.specs.Values.{Item}
use Rattle.vfs_files.specs.Runs.{Called, OpenedDirectory}
use Rattle.vfs_files.specs.declared.entry.Context.{Context}
use Rattle.vfs_grammar.specs.Listing.{line_len}
use Rattle.vfs_listings.specs.Reading.{cut_short, Puts, ReadsItems, ReadsDirectory, RunsDirectory}

-- nothing is put
pub puts_nothing : (old new : Written) → new ≡ old → Puts old [] new
puts_nothing old new e = record {
  within = omega arith;
  wrote = e
      ∙ ap (λ (l : List ℕ). record old { passed = l }) (sym (append-nil old.passed));
}

module _ {S I : Type 0} (allows : S → Call → Handed I → S → Type 0)
    (gives : I → Option Item → I → Type 0)
    (ctx : Context) (plus : Bool) (parent handle size offset : ℕ)
    (old : S) (writer : Written) (result : Result ℕ (Option ℕ)) (new : S) (writer_after : Written) where
  run_by : (opened : Result I (Option ℕ)) (middle : S)
      → allows old (Readdir ctx parent handle size offset) (directory_answer opened) middle
      → MatchResult opened (λ it. ReadsItems allows gives ctx plus parent size it middle writer result
      new writer_after) (λ fault. (result ≡ Err fault) × (new ≡ middle) × (writer_after ≡ writer))
      → RunsDirectory allows gives ctx plus parent handle size offset old writer result new writer_after
  run_by (Ok it) middle opens reads = record {
    events = OpenedDirectory (Readdir ctx parent handle size offset) ∷ reads.events;
    body = reads.body;
    beyond = cut_short size _ (sum_by line_len reads.listing.lines) reads.listing.stop;
    is_run = (middle, it, opens, reads.is_run);
    directory = inr (reads.events, refl, reads.listing);
    puts = reads.puts;
  }
  run_by (Err fault) middle opens fails = record {
    events = Called (Readdir ctx parent handle size offset) (Failed fault) ∷ [];
    body = [];
    beyond = [];
    is_run = (middle, opens, fails.1);
    directory = inl (fault, refl, refl, fails.0);
    puts = puts_nothing writer writer_after fails.2;
  }

  -- a directory that was read is a run
  pub directory_runs : ReadsDirectory allows gives ctx plus parent handle size offset old writer
      result new writer_after
      → RunsDirectory allows gives ctx plus parent handle size offset old writer result new writer_after
  directory_runs h = run_by h.opened h.middle h.opens h.reads
