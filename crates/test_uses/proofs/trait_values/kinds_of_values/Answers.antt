use Rattle.std.proofs.Common.{◌≡◌, ◌<◌, ◌⊎◌, ℕ, length, Ok, Vec, refl, inl, inr}
use Rattle.std.specs.declared.alloc.Global.{Global}
use Rattle.vfs_files.specs.Answers.{Kind, Quiet, Told, Untold, Data, Agreements, Entries, TimedAttributes, Openings, Creations, Capacities, Texts, TextsOrCounts, Offsets, Writes, Iterators, Faults}
use Rattle.vfs_files.specs.CallValue.{IsOfKind}
use Rattle.vfs_files.specs.declared.call_value.Given.TheVariants as given
use Rattle.test_uses.proofs.trait_values.kinds_of_values.Goals as goal

of_done : (kind : Kind) → IsOfKind kind (Ok given.Done)
    → (kind ≡ Quiet) ⊎ ((kind ≡ Told) ⊎ (kind ≡ Untold))
of_done Quiet h = inl refl
of_done Told h = inr (inl refl)
of_done Untold h = inr (inr refl)
of_done (Data size) h = absurd h
of_done Agreements h = absurd h
of_done Entries h = absurd h
of_done TimedAttributes h = absurd h
of_done Openings h = absurd h
of_done Creations h = absurd h
of_done Capacities h = absurd h
of_done Texts h = absurd h
of_done TextsOrCounts h = absurd h
of_done Offsets h = absurd h
of_done Writes h = absurd h
of_done Iterators h = absurd h
of_done Faults h = absurd h

of_count : (kind : Kind) (count : ℕ) → IsOfKind kind (Ok (given.Wrote count)) → kind ≡ Writes
of_count Writes count h = refl
of_count Quiet count h = absurd h
of_count Told count h = absurd h
of_count Untold count h = absurd h
of_count (Data size) count h = absurd h
of_count Agreements count h = absurd h
of_count Entries count h = absurd h
of_count TimedAttributes count h = absurd h
of_count Openings count h = absurd h
of_count Creations count h = absurd h
of_count Capacities count h = absurd h
of_count Texts count h = absurd h
of_count TextsOrCounts count h = absurd h
of_count Offsets count h = absurd h
of_count Iterators count h = absurd h
of_count Faults count h = absurd h

of_text : (kind : Kind) (text : Vec ℕ Global) → IsOfKind kind (Ok (given.Text text))
    → length text.items < 4294967280
of_text Texts text h = h
of_text TextsOrCounts text h = h
of_text Quiet text h = absurd h
of_text Told text h = absurd h
of_text Untold text h = absurd h
of_text (Data size) text h = absurd h
of_text Agreements text h = absurd h
of_text Entries text h = absurd h
of_text TimedAttributes text h = absurd h
of_text Openings text h = absurd h
of_text Creations text h = absurd h
of_text Capacities text h = absurd h
of_text Offsets text h = absurd h
of_text Writes text h = absurd h
of_text Iterators text h = absurd h
of_text Faults text h = absurd h

pub returns-clause-done : goal.returns-clause-done
returns-clause-done c = of_done

pub returns-clause-wrote : goal.returns-clause-wrote
returns-clause-wrote c = of_count

pub returns-clause-text : goal.returns-clause-text
returns-clause-text c = of_text
