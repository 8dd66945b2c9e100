-- What holds of the tree after a server, since that was made. A library over another file system has no
-- such file.
use Rattle.std.specs.Prelude.{ℕ, List}
use Rattle.vfs_server.specs.Step.{ServerState}
use Rattle.laws_history.specs.History.{Moment, turns_in, IsHistory}
use Rattle.laws_tree.specs.Histories.{OnlyTold, IsKept}
use Rattle.nizwarf_tree.specs.Files.{State, Allows, Gives}
use Rattle.nizwarf_tree.specs.Served.{new_server}
use Rattle.nizwarf_tree.specs.declared.settings.Settings.{Settings}

-- after all messages and tellings of the time
abbrev pub HistoriesAreKept : Type 0
HistoriesAreKept =
    (page_size max_buffer : ℕ) (settings : Settings) (new : ServerState State)
    (moments : List (Moment State))
    → IsHistory Allows Gives (new_server page_size max_buffer settings) moments new
    → OnlyTold moments → IsKept (turns_in moments) new.fs
