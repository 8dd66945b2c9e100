-- What is known of directory records.
use Rattle.std.proofs.Common.{◌≡◌, Option, Some, None, length, refl, arith, length-append}
use Rattle.std.proofs.lemmas.List.{length-replicate}
use Rattle.vfs_wire.specs.FieldLaws.{length-little}
use Rattle.vfs_files.specs.Values.{Item}
use Rattle.vfs_files.specs.declared.entry.Entry.{Entry}
use Rattle.vfs_grammar.specs.Listing.{dirent_len, entry_len, record_len, dirent_bytes, entry_bytes}
use Rattle.vfs_grammar.specs.Words.{record_bytes}

pub length-dirent_bytes : (i : Item) → length (dirent_bytes i) ≡ dirent_len (length i.name)
unfolding dirent_bytes
length-dirent_bytes i = simp (length-append, length-little, length-replicate) (omega arith)

pub length-entry_bytes : (entry : Option Entry) → length (entry_bytes entry) ≡ entry_len entry
length-entry_bytes None = refl
length-entry_bytes (Some e) = simp (length-append, length-little)

-- a record is as long as its length says
pub length-record_bytes : (entry : Option Entry) (i : Item)
    → length (record_bytes entry i) ≡ record_len entry i
length-record_bytes entry i =
    omega (
      arith,
      length-append (entry_bytes entry) (dirent_bytes i),
      length-dirent_bytes i,
      length-entry_bytes entry,
    )
