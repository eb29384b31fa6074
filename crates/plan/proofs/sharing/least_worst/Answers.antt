use Rattle.std.proofs.Common.{◌+◌, ◌/◌, arith}
use Rattle.plan.proofs.Noting.{noted_mono}
use Rattle.plan.proofs.sharing.least_worst.Goals as goal

pub loop-low-preserved : goal.loop-low-preserved
loop-low-preserved c = (
  omega arith,
  omega arith,
  omega arith,
  λ e h. omega (arith, noted_mono c.args.reaches.now e ((c.loop-low.low + c.loop-low.high) / 2) (omega arith)),
)
