-- The even measure is lawful.
use Rattle.std.proofs.Common.{arith}
use Rattle.plan.specs.Even.{even}
use Rattle.plan.specs.Measures.{Lawful, dist}
use Rattle.plan.specs.Ranged.{small, ranged_lawful}

pub even_lawful : Lawful even
unfolding even
even_lawful = ranged_lawful (λ W c d. dist d c) (record {
  bounded = λ W c d i. omega (arith, small W c i.most i.target, small W d i.most i.weight);
  exact = λ W c. omega arith;
  lighter = λ W c x y h k. omega arith;
  heavier = λ W c x y h k. omega arith;
})
