use Rattle.std.proofs.Common.{ℕ, arith, subst, sym, take}
use Rattle.std.specs.List.{All, AllPairs}
use Rattle.vhost_protocol.specs.Tables.{Apart, IsRegion}
use Rattle.vhost_protocol.proofs.messages.table.table.Goals as goal

pub returns-clause-memory : goal.returns-clause-memory
returns-clause-memory c =
    let regions = c.regions_at-region.result in
    let Are : ℕ → Type 0 = λ n. All IsRegion (take n regions) in
    let Lie : ℕ → Type 0 = λ n. AllPairs Apart (take n regions) in
    record {
      can_be = record {
        few = omega (arith, c.if-count-gt8.false, c.from.ensures);
        are = subst Are (sym c.from.ensures) c.in_default.ensures.are;
        apart = subst Lie (sym c.from.ensures) (c.any_meet.ensures.apart c.if-any_meet.false);
      };
      with_descriptors = omega (arith, c.from.ensures);
      log = omega arith;
    }
