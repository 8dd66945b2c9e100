-- What a script may hand back of a call is told by the kind of its answer.
use Rattle.std.proofs.Common.{◌≡◌, Bool, refl, subst}
use Rattle.vfs_files.specs.Answers.{Handed, Kind}
use Rattle.vfs_files.specs.CallValue.{call_of}
use Rattle.vfs_files.specs.Calls.{kind_of}
use Rattle.vfs_files.specs.declared.call_value.CallValue.{CallValue}
use Rattle.vfs_files.specs.declared.call_value.CallValue.TheVariants as asked
use Rattle.vfs_bench.specs.Directories.{Reading}
use Rattle.vfs_bench.specs.Scripts.{MayTell, Plays, lists_names, said, said_by, tells_text}
use Rattle.vfs_bench.specs.declared.script.Script.{Script}

-- what was set for such a call may be handed back
plays : (s : Script) (a : CallValue) (handed : Handed Reading)
    → MayTell (tells_text (kind_of (call_of a))) (said s (call_of a)) handed → Plays s (call_of a) handed s
plays s (asked.Lookup ctx parent name) handed told = (told, refl)
plays s _ handed told = (told, refl)

-- and so what was set for the kind of its answer
pub plays_by : (s : Script) (a : CallValue) (kind : Kind) (lists : Bool) (handed : Handed Reading)
    → kind ≡ kind_of (call_of a) → lists ≡ lists_names (call_of a)
    → MayTell (tells_text kind) (said_by s kind lists) handed → Plays s (call_of a) handed s
plays_by s a kind lists handed is_kind is_listing told =
    plays s a handed (subst (λ (k : Kind). MayTell (tells_text k) (said_by s k (lists_names (call_of a))) handed) is_kind
    (subst (λ (l : Bool). MayTell (tells_text kind) (said_by s kind l) handed) is_listing told))
