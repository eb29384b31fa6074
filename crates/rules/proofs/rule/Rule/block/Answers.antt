use Rattle.std.proofs.Common.{ℕ, ◌-◌, ◌^◌, ap, arith}
use Rattle.rules.proofs.Shapes.{shape, shape_end}
use Rattle.rules.proofs.rule.Rule.block.Goals as goal

pub invariant_of-result-clause-inside : goal.invariant_of-result-clause-inside
invariant_of-result-clause-inside c =
    let W = c.args.width.bits in
    omega (arith, ap (λ (w : ℕ). 2 ^ (w - c.args.self.length)) c.bits.ensures, shape_end W c.args.self (shape W c.args.self c.requires))
