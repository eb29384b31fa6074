use Rattle.std.proofs.Common.{◌^◌, ◌≤◌, rules, arith}
use Rattle.plan.proofs.Mapped.{filled_every}
use Rattle.plan.proofs.admission.weights.Goals as goal

pub returns : goal.returns
returns c =
    filled_every _ _ c.args.targets.now c.from_fn.result 64 (omega arith) c.from_fn.ensures.items (λ d. d ≤ 2 ^ c.args.width.bits) _ c.requires
    (λ i y q k. (search rules, λ s. search rules))
