use Rattle.std.proofs.Common.{◌∙◌, ℕ, List, [], codes, ap, arith}
use Rattle.vfs_segments.specs.Memory.{with_bytes_at}
use Rattle.vfs_files.specs.Bytes.{most_put}
use Rattle.fs_small.specs.MemFs.{Stock, with_contents}
use Rattle.test_uses.specs.Files.{one_file}
use Rattle.test_uses.proofs.SmallFiles.{was_written, not_written, written_alone, none_written, none_read}
use Rattle.test_uses.proofs.small_files.a_file_is_written.Goals as goal

abbrev hello : Stock
hello = one_file (codes "hello")

pub returns-clause-over : goal.returns-clause-over
unfolding with_bytes_at
returns-clause-over c = λ ctx handle owner delayed kill_priv flags count new h.
    let w = was_written hello 0 0 (codes "abc") count new h in (
      w.counted,
      w.files_are
          ∙ ap (λ (b : List ℕ). record hello { files = with_contents hello.files 0 b }) w.contents_are,
    )

pub returns-clause-no_memory : goal.returns-clause-no_memory
returns-clause-no_memory c = λ ctx handle owner delayed kill_priv flags fault new h.
    let w = not_written hello 0 5 (codes "abc") fault new h in
    (w.number, w.same)

pub returns-clause-within : goal.returns-clause-within
returns-clause-within c = λ ctx handle owner delayed kill_priv flags fault new h.
    let w = not_written hello 0 2 (codes "abc") fault new h in
    absurd (omega (arith, w.longer))

pub returns-clause-no_bytes : goal.returns-clause-no_bytes
returns-clause-no_bytes c = λ ctx handle owner delayed kill_priv flags fault new h.
    let w = not_written hello 0 9 [] fault new h in
    absurd (omega (arith, w.some))

pub returns-clause-no_number : goal.returns-clause-no_number
returns-clause-no_number c = λ ctx handle owner delayed kill_priv flags answer new h.
    none_written hello 0 (codes "abc") answer new h

pub returns-clause-nothing_else : goal.returns-clause-nothing_else
returns-clause-nothing_else c = λ ctx handle owner delayed kill_priv flags new h.
    written_alone hello 0 0 (codes "abc") new h

pub returns-clause-no_number_read : goal.returns-clause-no_number_read
returns-clause-no_number_read c = λ ctx handle room size offset owner flags answer new h.
    none_read hello offset (most_put room size) answer h.0
