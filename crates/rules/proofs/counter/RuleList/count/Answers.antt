use Rattle.std.proofs.Common.{arith}
use Rattle.rules.proofs.Blocks.{enough}
use Rattle.rules.proofs.counter.RuleList.count.Goals as goal

pub overflow_sub-excess : goal.overflow_sub-excess
overflow_sub-excess c = omega (arith, enough _ _ _ c.args.self.fit c.all_shares-shares.ensures (omega arith))

pub returns-then-shares-eq0 : goal.returns-then-shares-eq0
returns-then-shares-eq0 c =
    let t = c.all_shares-shares.ensures in
    let e = enough _ _ _ c.args.self.fit t (omega arith) in
    record { one = t.one; two = t.two; unmatched = t.unmatched; all = t.all; excess = (omega arith, omega arith) }
