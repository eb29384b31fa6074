use Rattle.std.proofs.Common.{arith, pow_mono}
use Rattle.rules.proofs.width.Width.new.Goals as goal

pub invariant_of-result-clause-small : goal.invariant_of-result-clause-small
invariant_of-result-clause-small c = pow_mono {i = c.args.bits} {j = 24} (omega arith)
