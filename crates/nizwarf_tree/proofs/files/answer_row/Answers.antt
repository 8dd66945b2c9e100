use Rattle.std.proofs.Common.{◌∙◌, ℕ, ap, length}
use Rattle.std.proofs.lemmas.List.{length-replicate}
use Rattle.nizwarf_tree.proofs.Texts.{flags_fit, statx_fits, statx_text}
use Rattle.nizwarf_tree.proofs.files.answer_row.Goals as goal

pub returns-in-39-clause-fits : goal.returns-in-39-clause-fits
returns-in-39-clause-fits c =
    flags_fit c.args.call.now c.args.text.now c.ioctl.result c.in-39.is c.requires c.ioctl.ensures.len
    c.ioctl.ensures.within

pub returns-in_ok-statx-in-52-clause-text : goal.returns-in_ok-statx-in-52-clause-text
returns-in_ok-statx-in-52-clause-text c =
    statx_text c.args.files.now c.args.call.now c.statx.new.text c.in-52.is c.in_ok-statx-in-52.ensures.ok
    (c.statx.auto.text ∙ ap length c.requires ∙ length-replicate {A = ℕ} 288 0)

pub returns-in_ok-statx-in-52-clause-fits : goal.returns-in_ok-statx-in-52-clause-fits
returns-in_ok-statx-in-52-clause-fits c =
    statx_fits c.args.call.now c.statx.new.text c.in-52.is (c.statx.auto.text ∙ ap length c.requires ∙ length-replicate {A = ℕ} 288 0)
