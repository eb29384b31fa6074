use Rattle.std.proofs.Common.{rules, arith}
use Rattle.plan.proofs.Mapped.{filled_by_tag}
use Rattle.plan.proofs.planner.weights.Goals as goal

pub returns : goal.returns
returns g c = filled_by_tag _ _ c.args.reaches.now c.from_fn.result 64 (omega arith) c.from_fn.ensures.items _ (λ i y q k. search rules)
