use Rattle.std.proofs.Common.{List, ℕ, Option, ap, subst}
use Rattle.vfs_files.specs.Calls.{Getattr, Lookup, Mkdir}
use Rattle.codec_calls.specs.declared.call.CallData.{CallData}
use Rattle.laws_flight.specs.Table.{TellsContext}
use Rattle.laws_flight.proofs.uses.what_is_not_there_is_told_so.Goals as goal

pub returns-clause-getattr : goal.returns-clause-getattr
returns-clause-getattr c = λ request told echo ctx inode handle is.
    let row = (c.the_table_says_what_is_told.ensures.says request echo (Getattr ctx inode handle) told).0 is in (
      ap (λ (d : CallData). d.name) row,
      ap (λ (d : CallData). d.other_name) row,
      ap (λ (d : CallData). d.data) row,
      ap (λ (d : CallData). d.context_name) row,
      ap (λ (d : CallData). d.context) row,
    )

pub returns-clause-lookup : goal.returns-clause-lookup
returns-clause-lookup c = λ request told echo ctx parent name is.
    let row = (c.the_table_says_what_is_told.ensures.says request echo (Lookup ctx parent name) told).0 is in (
      ap (λ (d : CallData). d.other_name) row.0,
      ap (λ (d : CallData). d.data) row.0,
      ap (λ (d : CallData). d.context_name) row.0,
      ap (λ (d : CallData). d.context) row.0,
    )

pub returns-clause-mkdir : goal.returns-clause-mkdir
returns-clause-mkdir c = λ request told echo ctx parent name mode umask ext without is.
    let row = (c.the_table_says_what_is_told.ensures.says request echo (Mkdir ctx parent name mode umask ext) told).0 is in
    let none = subst (λ (o : Option (List ℕ × List ℕ)). TellsContext request told o) without row.1 in
    (ap (λ (d : CallData). d.other_name) row.0.0, ap (λ (d : CallData). d.data) row.0.0, none.0, none.1)
