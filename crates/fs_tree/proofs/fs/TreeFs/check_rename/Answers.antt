use Rattle.std.proofs.Common.{◌==◌, ◌&&◌, ◌||◌, not, [], ◌∷◌, length, bit_and, None, is_some, is_none, false, if◌then◌else◌, arith, nat_le}
use Rattle.std.proofs.lemmas.Grind.{common_steps}
use Rattle.std.specs.Option.{option_map_or}
use Rattle.vfs_flags.specs.Numbers.{enoent, eexist, enotdir, eisdir, enospc, enotempty, einval}
use Rattle.fs_tree.specs.Naming.{is_directory_at, is_improper, is_nameless, is_crowded, has_no_number}
use Rattle.fs_tree.specs.Rename.{is_own_child, is_served, same_node}
use Rattle.fs_tree.specs.State.{node_at, node_of}
use Rattle.fs_tree.proofs.Renaming.{none_of}
use Rattle.fs_tree.proofs.fs.TreeFs.check_rename.Goals as goal

pub returns-clause-ok : goal.returns-clause-ok
returns-clause-ok c =
    let s = c.args.self.now in
    let od = c.args.olddir in
    let nd = c.args.newdir in
    let flags = c.args.flags in
    let moved = c.args.moved in
    let target = c.args.target in
    let it = node_of s moved in
    let old = node_of s (if flags == 2 || same_node moved target then None else target) in
    none_of
    ((not (is_served flags), einval)
    ∷ (is_none it || is_nameless (node_at s nd), enoent)
    ∷ (bit_and flags 1 == 1 && is_some target, eexist)
    ∷ (flags == 2 && is_none (node_of s target), enoent)
    ∷ (is_own_child s moved nd || (flags == 2 && is_own_child s target od), einval)
    ∷ (is_none target && is_improper c.args.newname.now, einval)
    ∷ (is_none target && is_crowded (node_at s nd), enospc)
    ∷ (is_directory_at old && not (is_directory_at it), eisdir)
    ∷ (is_directory_at it && is_some old && not (is_directory_at old), enotdir)
    ∷ (option_map_or (λ node. not (length node.children.links == 0)) old false, enotempty)
    ∷ (nat_le 4 flags && not (same_node moved target) && has_no_number s, enospc) ∷ []) (
      grind (arith, common_steps),
      (
        grind (arith, common_steps),
        (
          grind (arith, common_steps),
          (
            grind (arith, common_steps),
            (
              grind (arith, common_steps),
              (
                grind (arith, common_steps),
                (
                  grind (arith, common_steps),
                  (
                    grind (arith, common_steps),
                    (
                      grind (arith, common_steps),
                      (
                        grind (arith, common_steps),
                        (grind (arith, common_steps), tt),
                      ),
                    ),
                  ),
                ),
              ),
            ),
          ),
        ),
      ),
    )
