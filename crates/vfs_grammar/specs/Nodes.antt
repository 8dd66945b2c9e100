-- The nodes in a directory's records with entries, read from their bytes alone.
use Rattle.std.specs.Prelude.{ℕ, zero, suc, ◌+◌, List, [], ◌∷◌, length, drop, nat_le, if◌then◌else◌}
use Rattle.vfs_wire.specs.Fields.{value_of}
use Rattle.vfs_wire.specs.Records.{direntplus, entry_out}
use Rattle.vfs_grammar.specs.Listing.{dirent_len}
use Rattle.vfs_grammar.specs.Records.{size_of}

-- The nodes of the records that the bytes begin with, one after another, at most that many. They end
-- where no whole record follows: an `EntryOut`, and a `Dirent` with its name, whose length is in the
-- `Dirent`.
abbrev pub nodes_of : (most : ℕ) → List ℕ → List ℕ
nodes_of zero bytes = []
nodes_of (suc most) bytes =
    let long = size_of entry_out + dirent_len (value_of direntplus bytes).dirent.namelen in
    if nat_le long (length bytes)
    then (value_of entry_out bytes).nodeid ∷ nodes_of most (drop long bytes)
    else []

-- the nodes of all records that the bytes begin with
abbrev pub nodes_in : List ℕ → List ℕ
nodes_in bytes = nodes_of (length bytes) bytes
