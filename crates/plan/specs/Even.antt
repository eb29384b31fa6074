-- The even measure.
use Rattle.plan.specs.Measures.{Misses, ranged, dist}

-- By how many addresses the weight misses the target.
unfoldable pub even : Misses
even W c d = ranged (λ W c d. dist d c) W c d
