use Rattle.std.proofs.Common.{arith}
use Rattle.std.proofs.lemmas.Grind.{common_steps}
use Rattle.fs_nodes.proofs.Attributes.{bytes_with_it}
use Rattle.fs_nodes.proofs.xattrs.Xattrs.bytes_with.Goals as goal

pub returns-in_err-checked_add-2 : goal.returns-in_err-checked_add-2
returns-in_err-checked_add-2 c =
    let total = bytes_with_it c.args.self.now c.args.name.now c.args.value.now
    c.bytes_without.ensures.order in
    grind (arith, common_steps, total)

pub returns-in_err-bytes : goal.returns-in_err-bytes
returns-in_err-bytes c =
    let total = bytes_with_it c.args.self.now c.args.name.now c.args.value.now
    c.bytes_without.ensures.order in
    grind (arith, common_steps, total)

pub returns-then-bytes-gt-MOST_BYTES : goal.returns-then-bytes-gt-MOST_BYTES
returns-then-bytes-gt-MOST_BYTES c =
    let total = bytes_with_it c.args.self.now c.args.name.now c.args.value.now
    c.bytes_without.ensures.order in
    grind (arith, common_steps, total)

pub returns : goal.returns
returns c =
    let total = bytes_with_it c.args.self.now c.args.name.now c.args.value.now
    c.bytes_without.ensures.order in
    grind (arith, common_steps, total)
