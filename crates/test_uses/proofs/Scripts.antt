-- What a new script says of each call.
use Rattle.std.proofs.Common.{◌≡◌, Ok, Err, refl, ap}
use Rattle.vfs_files.specs.Answers.{Options, Failed, init_answer, entry_answer, attr_answer, done_answer, opened_answer, created_answer, statistics_answer, text_answer, getxattr_answer, listxattr_answer, offset_answer, written_answer}
use Rattle.vfs_files.specs.Calls.{Call, Lookup, Forget, Getattr, Setattr, Readlink, Symlink, Mknod, Mkdir, Unlink, Rmdir, Rename, Link, Open, Read, Write, Statfs, Release, Fsync, Setxattr, Getxattr, Listxattr, Removexattr, Flush, Init, Opendir, Readdir, Releasedir, Fsyncdir, Getlk, Setlk, Setlkw, Access, Create, Bmap, Destroy, Ioctl, Poll, NotifyReply, BatchForget, Fallocate, Lseek, Copyfilerange, Syncfs, Tmpfile, not_served, no_such_call, default_opening, default_statistics, default_answer}
use Rattle.vfs_bench.specs.Scripts.{said}
use Rattle.vfs_bench.specs.declared.script.Script.{Script}

-- a script of default answers, call by call
module _ (s : Script)
    (options : init_answer s.options ≡ Options 0)
    (entry : s.entry ≡ Err not_served)
    (attributes : s.attributes ≡ Err not_served)
    (opening : opened_answer (λ handle. handle) s.opening ≡ default_opening)
    (creation : s.creation ≡ Err not_served)
    (statistics : s.statistics ≡ Ok default_statistics)
    (text : s.text ≡ Err not_served)
    (value : s.value ≡ Err not_served)
    (names : s.names ≡ Err not_served)
    (offset : s.offset ≡ Err not_served)
    (written : s.written ≡ Err not_served)
    (done : s.done ≡ Err not_served)
    (tmpfile : s.tmpfile ≡ not_served) where
  of_entry : entry_answer s.entry ≡ no_such_call
  of_entry = ap entry_answer entry

  of_attributes : attr_answer s.attributes ≡ no_such_call
  of_attributes = ap attr_answer attributes

  of_done : done_answer s.done ≡ no_such_call
  of_done = ap done_answer done

  of_written : written_answer s.written ≡ no_such_call
  of_written = ap written_answer written

  pub says_by_default : (call : Call) → said s call ≡ default_answer call
  says_by_default (Lookup _ _ _) = of_entry
  says_by_default (Forget _ _ _) = refl
  says_by_default (Getattr _ _ _) = of_attributes
  says_by_default (Setattr _ _ _ _ _) = of_attributes
  says_by_default (Readlink _ _) = ap text_answer text
  says_by_default (Symlink _ _ _ _ _) = of_entry
  says_by_default (Mknod _ _ _ _ _ _ _) = of_entry
  says_by_default (Mkdir _ _ _ _ _ _) = of_entry
  says_by_default (Unlink _ _ _) = of_done
  says_by_default (Rmdir _ _ _) = of_done
  says_by_default (Rename _ _ _ _ _ _) = of_done
  says_by_default (Link _ _ _ _) = of_entry
  says_by_default (Open _ _ _ _) = opening
  says_by_default (Read _ _ _ _ _ _ _ _) = of_done
  says_by_default (Write _ _ _ _ _ _ _ _ _ _) = of_written
  says_by_default (Statfs _ _) = ap statistics_answer statistics
  says_by_default (Release _ _ _ _ _ _ _) = of_done
  says_by_default (Fsync _ _ _ _) = of_done
  says_by_default (Setxattr _ _ _ _ _ _) = of_done
  says_by_default (Getxattr _ _ _ _) = ap getxattr_answer value
  says_by_default (Listxattr _ _ _) = ap listxattr_answer names
  says_by_default (Removexattr _ _ _) = of_done
  says_by_default (Flush _ _ _ _) = of_done
  says_by_default (Init _) = options
  says_by_default (Opendir _ _ _) = opening
  says_by_default (Readdir _ _ _ _ _) = of_done
  says_by_default (Releasedir _ _ _ _) = of_done
  says_by_default (Fsyncdir _ _ _ _) = of_done
  says_by_default Getlk = of_done
  says_by_default Setlk = of_done
  says_by_default Setlkw = of_done
  says_by_default (Access _ _ _) = of_done
  says_by_default (Create _ _ _ _ _ _ _ _) = ap (created_answer (λ handle. handle)) creation
  says_by_default Bmap = of_done
  says_by_default Destroy = refl
  says_by_default Ioctl = of_done
  says_by_default Poll = of_done
  says_by_default NotifyReply = of_done
  says_by_default (BatchForget _ _) = refl
  says_by_default (Fallocate _ _ _ _ _ _) = of_done
  says_by_default (Lseek _ _ _ _ _) = ap offset_answer offset
  says_by_default (Copyfilerange _ _ _ _ _ _ _ _ _) = of_written
  says_by_default (Syncfs _ _) = of_done
  says_by_default Tmpfile = ap Failed tmpfile
