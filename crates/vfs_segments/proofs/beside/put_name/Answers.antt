use Rattle.std.proofs.Common.{◌∙◌, ◌+◌, ◌-◌, ap, arith, drop, length, take}
use Rattle.vfs_segments.specs.Segments.{with_bytes_at}
use Rattle.vfs_segments.proofs.Padding.{two_blocks}
use Rattle.vfs_segments.proofs.beside.put_name.Goals as goal

pub returns-then-len-le32 : goal.returns-then-len-le32
returns-then-len-le32 c =
    let bytes = c.args.bytes.now in
    let last = length bytes - 16 in
    c.put_sixteen-then-len-le32.ensures
    ∙ ap (with_bytes_at (c.args.at + last) (take 16 (drop last bytes))) c.put_sixteen.ensures
    ∙ two_blocks c.args.at 16 bytes c.args.out.now (omega arith) (omega arith) c.requires

pub returns-then-len-le16 : goal.returns-then-len-le16
returns-then-len-le16 c =
    let bytes = c.args.bytes.now in
    let last = length bytes - 8 in
    c.put_eight-then-len-le16.ensures
    ∙ ap (with_bytes_at (c.args.at + last) (take 8 (drop last bytes))) c.put_eight.ensures
    ∙ two_blocks c.args.at 8 bytes c.args.out.now (omega arith) (omega arith) c.requires
