use Rattle.std.proofs.Common.{◌∙◌, [], ◌∷◌, Option, Some, is_some, if◌then◌else◌, ap}
use Rattle.vfs_flags.specs.Numbers.{enoent, enotdir}
use Rattle.vfs_wire.specs.declared.attributes.Attr.{Attr}
use Rattle.vfs_files.specs.Answers.{Failed}
use Rattle.fs_small.specs.ReadOnly.{refusal_of}
use Rattle.test_uses.proofs.SmallFiles.{items_left, no_items, items_alone}
use Rattle.test_uses.proofs.small_files.a_directory_in_a_tree.Goals as goal

pub returns-clause-second : goal.returns-clause-second
returns-clause-second c = λ t ctx handle size a b left is h.
    items_left (t.items 1) (a ∷ b ∷ []) (refusal_of t 1 enotdir) 1 left is h

pub returns-clause-no_directory : goal.returns-clause-no_directory
returns-clause-no_directory c = λ t ctx handle size offset attr answer none is h.
    no_items (t.items 2) (refusal_of t 2 enotdir) offset answer none h
    ∙ ap (λ (o : Option Attr). Failed (Some (if is_some o then enotdir else enoent))) is

pub returns-clause-nothing_else : goal.returns-clause-nothing_else
returns-clause-nothing_else c = λ t ctx handle size offset items answer is h.
    items_alone (t.items 1) items (refusal_of t 1 enotdir) offset answer is h
