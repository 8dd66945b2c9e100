use Rattle.std.proofs.Common.{[], ◌∷◌, Some, None, false, length, arith}
use Rattle.vfs_files.specs.Runs.{Taken}
use Rattle.vfs_grammar.specs.Samples.{file_a}
use Rattle.laws_turns.proofs.Lines.{one_file_goes_on}
use Rattle.vfs_grammar.specs.Limits.{default_limits}
use Rattle.laws_turns.proofs.DirectoryCallers.{echo, listing, asks_readdir, one_file_replied}
use Rattle.laws_turns.proofs.uses.directories.a_reply_of_one_file.Goals as goal

pub returns : goal.returns
returns c = λ options after t turn request room events.
    let came = c.directories_are_read.ensures.whole (default_limits 4096) options after t echo (listing false 64) turn
    (asks_readdir options (length t.room) t.request request room) (Taken (Some file_a) ∷ Taken None ∷ []) events
    (omega arith) one_file_goes_on in
    one_file_replied t.room t.outcome t.room_after came.records came.whole came.replied
