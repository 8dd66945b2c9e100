-- A call keeps a tree one.
use Rattle.laws_tree.specs.Laws.{CallsKeepTrees}
use Rattle.laws_tree.proofs.Linked.{calls_keep_links}
use Rattle.laws_tree.proofs.Rooted.{calls_keep_the_way_up}
use Rattle.laws_tree.proofs.Sound.{calls_are_sound}
use Rattle.laws_tree.proofs.Within.{calls_stay_within}

pub calls_keep_trees : CallsKeepTrees
calls_keep_trees old new call answer tree allowed =
    let sound = calls_are_sound old new call answer tree.sound allowed in
    let within = calls_stay_within old new call answer tree.sound tree.within allowed in (
      record {
        sound = sound.0;
        within = within.0;
        linked = calls_keep_links old new call answer tree.sound tree.linked allowed;
        rooted = calls_keep_the_way_up old new call answer tree.sound tree.linked tree.rooted
            allowed;
      },
      within.1,
      sound.1,
    )
