use Rattle.std.proofs.Common.{ap, arith}
use Rattle.rules.specs.Digits.{D}
use Rattle.rules.specs.Shortest.{L}
use Rattle.rules.proofs.Fewness.{L_most}
use Rattle.rules.proofs.weight.Weight.fewest_rules.Goals as goal

pub overflow_add-result : goal.overflow_add-result
unfolding L
overflow_add-result c =
    omega (arith, ap D c.complement.ensures.addresses, L_most c.args.self.width.bits c.args.self.addresses c.args.self.width.most c.args.self.inside)

pub returns : goal.returns
unfolding L
returns c = omega (arith, ap D c.complement.ensures.addresses)
