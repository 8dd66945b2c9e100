use Rattle.std.proofs.Common.{length, ap}
use Rattle.vfs_flags.specs.Flags.{fs_options_bits}
use Rattle.vfs_flags.specs.declared.constants.TheConstants.{KERNEL_VERSION}
use Rattle.codec_decode.proofs.Checking.{is_later, judges_later, judges_version, not_above}
use Rattle.codec_decode.proofs.checked.check_version.Goals as goal

pub returns-then-init_in-gt-KERNEL_VERSION : goal.returns-then-init_in-gt-KERNEL_VERSION
returns-then-init_in-gt-KERNEL_VERSION c = λ request.
    let later = is_later c.args.init_in.now.major c.if-init_in-gt-KERNEL_VERSION.true in
    rw (c.answered.ensures) (judges_later request (fs_options_bits c.args.options) c.args.room c.args.call.now c.args.header.now
    c.args.init_in.now c.args.flags2 later.0 later.1 c.requires)

pub returns : goal.returns
returns c = λ request.
    rw (c.of.ensures) (judges_version _ request (fs_options_bits c.args.options) 0 c.args.room c.empty-nowhere.result
    c.ask_of_version.new.w (ap (λ w. length w.left) c.empty-nowhere.ensures) c.ask_of_version.new.call c.ask_of_version.result
    c.args.header.now c.args.init_in.now c.args.flags2
    (not_above KERNEL_VERSION c.args.init_in.now.major c.if-init_in-gt-KERNEL_VERSION.false) (c.ask_of_version.ensures.told request))
