use Rattle.std.proofs.Common.{rules, arith}
use Rattle.plan.proofs.Mapped.{filled_each}
use Rattle.plan.proofs.sharing.reaches.Goals as goal

pub returns : goal.returns
returns g c = filled_each _ _ c.args.targets.now c.from_fn.result 64 (omega arith) c.from_fn.ensures.items _ (λ i y q k. search rules)
