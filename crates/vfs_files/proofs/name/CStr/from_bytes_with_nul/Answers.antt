use Rattle.std.proofs.Common.{◌-◌, ◌<◌, arith, length, refl}
use Rattle.std.proofs.lemmas.Bool.Decides.{nat_tests}
use Rattle.vfs_files.specs.Values.{name_of}
use Rattle.vfs_files.proofs.WithoutZeros.{front_nonzero, is_name, no_name, nonzero_front, place_of_nul}
use Rattle.vfs_files.proofs.name.CStr.from_bytes_with_nul.Goals as goal
use Rattle.vfs_files.proofs.name.CStr.from_bytes_with_nul.Goals.{then-bytes-end-ne0-via-then-bytes-end-ne0, then-bytes-end-ne0-via-else-bytes-end-ne0+then-not-all_nonzero}

pub returns-then-bytes-end-ne0 : goal.returns-then-bytes-end-ne0
returns-then-bytes-end-ne0 c =
    let bytes = c.args.bytes.now in
    let some : 0 < length bytes = grind (arith, nat_tests, c.is_empty.ensures) in
    no_name (length bytes - 1) bytes (name_of bytes) refl (omega (arith, some))
    (λ zero h. elim c.then-bytes-end-ne0.branch [
      | then-bytes-end-ne0-via-then-bytes-end-ne0 w ↦ w.if-bytes-end-ne0.true zero
      | then-bytes-end-ne0-via-else-bytes-end-ne0+then-not-all_nonzero w ↦
          let all = w.all_nonzero.ensures.1 (nonzero_front (length bytes - 1) bytes (omega arith) h) in
          let not = w.if-not-all_nonzero.true in
          cc
    ])

pub before_nul-requires : goal.before_nul-requires
before_nul-requires c =
    let bytes = c.args.bytes.now in
    let some : 0 < length bytes = grind (arith, nat_tests, c.is_empty.ensures) in
    place_of_nul (length bytes - 1) bytes (omega (arith, some)) c.if-bytes-end-ne0.false
    (front_nonzero (length bytes - 1) bytes (omega arith) (c.all_nonzero.ensures.0 c.if-not-all_nonzero.false))

pub returns : goal.returns
returns c =
    let bytes = c.args.bytes.now in
    let some : 0 < length bytes = grind (arith, nat_tests, c.is_empty.ensures) in
    is_name (length bytes - 1) bytes _
    (place_of_nul (length bytes - 1) bytes (omega (arith, some)) c.if-bytes-end-ne0.false
    (front_nonzero (length bytes - 1) bytes (omega arith) (c.all_nonzero.ensures.0 c.if-not-all_nonzero.false)))
    (omega (arith, some)) c.before_nul.ensures
