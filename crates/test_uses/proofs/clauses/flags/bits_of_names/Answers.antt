use Rattle.std.proofs.Common.{sym, ◌∙◌}
use Rattle.test_uses.proofs.clauses.flags.bits_of_names.Goals as goal

pub returns-clause-options : goal.returns-clause-options
returns-clause-options c =
    sym c.masks_are_of_their_names.ensures.fs_options ∙ c.masks_have_their_bits.ensures.fs_options

pub returns-clause-valid : goal.returns-clause-valid
returns-clause-valid c =
    sym c.masks_are_of_their_names.ensures.setattr_valid ∙ c.masks_have_their_bits.ensures.setattr_valid

pub returns-clause-opening : goal.returns-clause-opening
returns-clause-opening c =
    sym c.masks_are_of_their_names.ensures.open_options ∙ c.masks_have_their_bits.ensures.open_options

pub returns-clause-setting : goal.returns-clause-setting
returns-clause-setting c =
    sym c.masks_are_of_their_names.ensures.setxattr_flags ∙ c.masks_have_their_bits.ensures.setxattr_flags

pub returns-clause-notice : goal.returns-clause-notice
returns-clause-notice c =
    sym c.masks_are_of_their_names.ensures.notify_inval_entry_out_flags ∙ c.masks_have_their_bits.ensures.notify_inval_entry_out_flags

pub returns-clause-server : goal.returns-clause-server
returns-clause-server c =
    sym c.masks_are_of_their_names.ensures.supported ∙ c.masks_have_their_bits.ensures.supported
