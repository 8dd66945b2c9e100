use Rattle.std.proofs.Common.{sym, ◌∙◌}
use Rattle.test_uses.proofs.flags.named_bits.Goals as goal

pub returns-clause-ioctl : goal.returns-clause-ioctl
returns-clause-ioctl c =
    sym c.masks_are_of_their_names.ensures.ioctl_flags ∙ c.masks_have_their_bits.ensures.ioctl_flags

pub returns-clause-setupmapping : goal.returns-clause-setupmapping
returns-clause-setupmapping c =
    sym c.masks_are_of_their_names.ensures.setupmapping_flags
    ∙ c.masks_have_their_bits.ensures.setupmapping_flags
