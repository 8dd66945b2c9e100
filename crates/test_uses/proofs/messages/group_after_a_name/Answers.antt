use Rattle.std.proofs.Common.{Some, None, Ok, refl}
use Rattle.std.proofs.lemmas.Result.{MatchResult-weaker}
use Rattle.vfs_wire.specs.Fields.{number}
use Rattle.vfs_files.specs.Values.{ExtensionValues, extension_values_of}
use Rattle.vfs_grammar.specs.Extensions.{extensions_in, cut_of}
use Rattle.vfs_messages.proofs.Blocks.{GivesValue-at_ok}
use Rattle.test_uses.proofs.messages.group_after_a_name.Goals as goal

pub returns : goal.returns
unfolding extensions_in cut_of number
returns c =
    let said : ExtensionValues = record { context = None; group = Some 1000 } in
    MatchResult-weaker c.get_extensions.result
    (GivesValue-at_ok _ extension_values_of c.get_extensions.result (Ok said) said c.get_extensions.ensures.gives refl)
    (λ ext same. same) (λ error (wanted, same). absurd (cc))
