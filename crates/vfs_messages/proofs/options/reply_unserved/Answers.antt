use Rattle.std.proofs.Common.{Some, arith}
use Rattle.std.proofs.lemmas.Bool.Decides.{nat_tests}
use Rattle.vfs_flags.specs.Numbers.{eproto}
use Rattle.vfs_wire.specs.Fields.{bytes_of}
use Rattle.vfs_wire.specs.Records.{init_out}
use Rattle.vfs_grammar.specs.Reply.{Bytes, fault_reply, body_reply, version_out}
use Rattle.vfs_messages.proofs.Versions.{older_major, newer_major, older_minor}
use Rattle.vfs_messages.proofs.options.reply_unserved.Goals as goal

pub returns-then-init_in-lt-KERNEL_VERSION : goal.returns-then-init_in-lt-KERNEL_VERSION
returns-then-init_in-lt-KERNEL_VERSION c = record {
  reply = Bytes (fault_reply (Some eproto) c.args.header.now.unique);
  ends = λ flags2. older_major c.args.header.now c.args.init_in.now flags2 (grind (arith, nat_tests));
  replied = c.reply_failed.ensures.replied;
}

pub returns-then-init_in-gt-KERNEL_VERSION : goal.returns-then-init_in-gt-KERNEL_VERSION
returns-then-init_in-gt-KERNEL_VERSION c = record {
  reply = Bytes (body_reply (bytes_of init_out version_out) c.args.header.now.unique);
  ends = λ flags2. newer_major c.args.header.now c.args.init_in.now flags2 (grind (arith, nat_tests));
  replied = c.reply_version.ensures;
}

pub returns-then-init_in-lt-MIN_KERNEL_MINOR_VERSION : goal.returns-then-init_in-lt-MIN_KERNEL_MINOR_VERSION
returns-then-init_in-lt-MIN_KERNEL_MINOR_VERSION c = record {
  reply = Bytes (fault_reply (Some eproto) c.args.header.now.unique);
  ends = λ flags2. older_minor c.args.header.now c.args.init_in.now flags2 (grind (arith, nat_tests)) (grind (arith, nat_tests));
  replied = c.reply_failed-then-init_in-lt-MIN_KERNEL_MINOR_VERSION.ensures.replied;
}
