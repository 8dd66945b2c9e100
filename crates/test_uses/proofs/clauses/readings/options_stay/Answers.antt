use Rattle.std.proofs.Common.{◌≡◌, ℕ, inl, inr}
use Rattle.vfs_grammar.specs.Forms.{Ends, WithMemory}
use Rattle.vfs_grammar.specs.Reply.{Reply}
use Rattle.vfs_grammar.specs.Turn.{Turn}
use Rattle.vfs_grammar.specs.Witnesses.{FollowsFor, turn_tells}
use Rattle.vfs_grammar.specs.declared.limits.Limits.{Limits}
use Rattle.test_uses.proofs.clauses.readings.options_stay.Goals as goal

either : (t : Turn) (limits : Limits) (options after : ℕ) (reply : Reply)
    → FollowsFor (turn_tells t) limits options (WithMemory (Ends reply)) after → after ≡ options
either t limits options after reply (inl ends) = ends.2
either t limits options after reply (inr wanted) = wanted.2

pub returns-clause-ended : goal.returns-clause-ended
returns-clause-ended c = λ t limits options after reply follows. follows.2

pub returns-clause-asked : goal.returns-clause-asked
returns-clause-asked c = λ t limits options after node echo ctx follows. follows.4

pub returns-clause-listed : goal.returns-clause-listed
returns-clause-listed c = λ t limits options after echo l follows. follows.5

pub returns-clause-wanted : goal.returns-clause-wanted
returns-clause-wanted c = either
