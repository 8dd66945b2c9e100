-- The outcome of an answer that names no node, at each kind of such an answer.
use Rattle.std.proofs.Common.{◌≡◌, ℕ, List, Option, Result, Ok, Err, Vec, refl}
use Rattle.std.specs.declared.alloc.Global.{Global}
use Rattle.std.specs.declared.time.Duration.{Duration}
use Rattle.vfs_flags.specs.declared.fs_options.FsOptions.{FsOptions}
use Rattle.vfs_flags.specs.declared.flag_sets.OpenOptions.{OpenOptions}
use Rattle.vfs_wire.specs.declared.attributes.Attr.{Attr}
use Rattle.vfs_wire.specs.declared.stat.Statvfs64.{Statvfs64}
use Rattle.vfs_files.specs.declared.xattr.GetxattrReply.{GetxattrReply}
use Rattle.vfs_files.specs.declared.xattr.GetxattrReply.TheVariants as getxattr
use Rattle.vfs_files.specs.declared.xattr.ListxattrReply.{ListxattrReply}
use Rattle.vfs_files.specs.declared.xattr.ListxattrReply.TheVariants as listxattr
use Rattle.vfs_files.specs.Answers.{init_answer, attr_answer, done_answer, opened_answer, statistics_answer, text_answer, getxattr_answer, listxattr_answer, offset_answer, written_answer, read_answer, directory_answer}
use Rattle.vfs_files.specs.Calls.{Readdir}
use Rattle.vfs_files.specs.declared.entry.Context.{Context}
use Rattle.vfs_bench.specs.Notes.{note_of_handed}
use Rattle.vfs_bench.specs.Outcomes.{outcome_of, plain_outcome}

-- of a call that answers only whether it was done
pub plain_outcome-done : (r : Result (Unit {0}) (Option ℕ)) → plain_outcome r ≡ outcome_of (done_answer r)
unfolding plain_outcome
plain_outcome-done (Ok _) = refl
plain_outcome-done (Err fault) = refl

-- of options
pub plain_outcome-init : (r : Result FsOptions (Option ℕ)) → plain_outcome r ≡ outcome_of (init_answer r)
unfolding plain_outcome
plain_outcome-init (Ok want) = refl
plain_outcome-init (Err fault) = refl

-- of attributes with their timeout
pub plain_outcome-attr : (r : Result (Attr × Duration) (Option ℕ)) → plain_outcome r ≡ outcome_of (attr_answer r)
unfolding plain_outcome
plain_outcome-attr (Ok reply) = refl
plain_outcome-attr (Err fault) = refl

-- of a handle and how to use it
pub plain_outcome-opened : {H : Type 0} (number : H → ℕ) (r : Result (Option H × OpenOptions) (Option ℕ)) → plain_outcome r ≡ outcome_of (opened_answer number r)
unfolding plain_outcome
plain_outcome-opened number (Ok reply) = refl
plain_outcome-opened number (Err fault) = refl

-- of what a file system holds
pub plain_outcome-statistics : (r : Result Statvfs64 (Option ℕ)) → plain_outcome r ≡ outcome_of (statistics_answer r)
unfolding plain_outcome
plain_outcome-statistics (Ok statistics) = refl
plain_outcome-statistics (Err fault) = refl

-- of a text
pub plain_outcome-text : (r : Result (Vec ℕ Global) (Option ℕ)) → plain_outcome r ≡ outcome_of (text_answer r)
unfolding plain_outcome
plain_outcome-text (Ok text) = refl
plain_outcome-text (Err fault) = refl

-- of the value of an extended attribute, or how long it is
pub plain_outcome-getxattr : (r : Result GetxattrReply (Option ℕ)) → plain_outcome r ≡ outcome_of (getxattr_answer r)
unfolding plain_outcome
plain_outcome-getxattr (Ok (getxattr.Value value)) = refl
plain_outcome-getxattr (Ok (getxattr.Count count)) = refl
plain_outcome-getxattr (Err fault) = refl

-- of the names of extended attributes, or how long they are
pub plain_outcome-listxattr : (r : Result ListxattrReply (Option ℕ)) → plain_outcome r ≡ outcome_of (listxattr_answer r)
unfolding plain_outcome
plain_outcome-listxattr (Ok (listxattr.Names names)) = refl
plain_outcome-listxattr (Ok (listxattr.Count count)) = refl
plain_outcome-listxattr (Err fault) = refl

-- of a place in a file
pub plain_outcome-offset : (r : Result ℕ (Option ℕ)) → plain_outcome r ≡ outcome_of (offset_answer r)
unfolding plain_outcome
plain_outcome-offset (Ok offset) = refl
plain_outcome-offset (Err fault) = refl

-- of how many bytes were written
pub plain_outcome-written : (r : Result ℕ (Option ℕ)) → plain_outcome r ≡ outcome_of (written_answer r)
unfolding plain_outcome
plain_outcome-written (Ok count) = refl
plain_outcome-written (Err fault) = refl

-- of the bytes that were put
pub plain_outcome-read : (r : Result ℕ (Option ℕ)) (bytes : List ℕ)
    → plain_outcome r ≡ outcome_of (read_answer r bytes)
unfolding plain_outcome
plain_outcome-read (Ok count) bytes = refl
plain_outcome-read (Err fault) bytes = refl

-- the note of a directory that was opened, or of the fault
pub noted-directory : {I : Type 0} (ctx : Context) (inode handle size offset : ℕ) (r : Result I (Option ℕ))
    → note_of_handed (Readdir ctx inode handle size offset) (directory_answer r) ≡ record { call = 28; node = inode; count = 0; kind = (plain_outcome r).kind; value = (plain_outcome r).value }
unfolding plain_outcome
noted-directory ctx inode handle size offset (Ok it) = refl
noted-directory ctx inode handle size offset (Err fault) = refl

-- all of them but that of attributes, whose type of answer a search does not match
pub ruleset plain_outcomes = (plain_outcome-done, plain_outcome-init, plain_outcome-opened, plain_outcome-statistics, plain_outcome-text, plain_outcome-getxattr, plain_outcome-listxattr, plain_outcome-offset, plain_outcome-written, plain_outcome-read)
