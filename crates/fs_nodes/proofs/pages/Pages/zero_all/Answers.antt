use Rattle.std.proofs.Common.{◌≡◌, ◌+◌, ◌-◌, ◌*◌, ℕ, min, max, refl, subst, ◌∙◌, arith}
use Rattle.fs_nodes.specs.Pages.{byte_at}
use Rattle.fs_nodes.proofs.Punch.{IsZeroed, over_zeroed, zeroed_over, zeroed_more}
use Rattle.fs_nodes.proofs.pages.Pages.zero_all.Goals as goal

pub write-init : goal.write-init
write-init c = record {
  keys = refl;
  zeroed = record {
    zeros = λ k from to. absurd (omega arith);
    before = λ k less. refl;
    following = λ k more. refl;
  };
}

pub write-preserved : goal.write-preserved
write-preserved c =
    let at = c.args.at in
    let page = c.write.page in
    let from = c.max-from.result in
    let some = c.min.result in
    let before = byte_at c.write.self in
    let written : IsZeroed before (byte_at c.zero.new.self) from some =
    over_zeroed before (byte_at c.zero.new.self) from some c.zero.ensures.bytes in
    let done : ℕ = min (at + c.args.count) (max at (page * 4096)) - at in
    let all : ℕ = min (at + c.args.count) (max at ((page + 1) * 4096)) - at in
    let begins : from ≡ at + done = omega arith in
    let sum : all ≡ done + some = omega (arith, begins) in
    record {
      keys = c.zero.ensures.keys ∙ c.write.invariant.keys;
      zeroed = zeroed_more (byte_at c.args.self.now) before (byte_at c.zero.new.self) at done from some all
          begins sum c.write.invariant.zeroed written;
    }

pub returns-clause-bytes : goal.returns-clause-bytes
returns-clause-bytes c =
    let old = byte_at c.args.self.now in
    let new = byte_at c.write.self in
    let at = c.args.at in
    let all : min (at + c.args.count) (max at (c.write.page * 4096)) - at ≡ c.args.count = omega arith in
    zeroed_over old new at c.args.count (subst (IsZeroed old new at) all c.write.invariant.zeroed)
