use Rattle.std.proofs.Common.{length, refl, ap, arith}
use Rattle.commands.proofs.Laws.{lawful}
use Rattle.commands.proofs.pending.Pending.read.Goals as goal

pub returns-in-None : goal.returns-in-None
returns-in-None c =
    record {
      meaning = λ p h. (refl, λ d small e. omega (arith, c.in-None.ensures p h, ap length e, lawful.short d small));
      small = tt;
    }
