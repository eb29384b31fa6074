use Rattle.std.proofs.Common.{ℕ, ◌-◌, ◌^◌, ◌<◌, ◌≤◌}
use Rattle.plan.specs.Reached.{noted_needs}
use Rattle.plan.proofs.sharing.least_worst.Given as goal

abbrev pub invariant-loop-low : goal.invariant-loop-low
invariant-loop-low l =
    (l.low ≤ l.high) × (l.high ≤ 2 ^ 40) × (noted_needs l.reaches l.high ≤ l.capacity)
    × ((e : ℕ) → e < l.low → l.capacity < noted_needs l.reaches e)

abbrev pub decreases-loop-low : goal.decreases-loop-low
decreases-loop-low l = l.high - l.low
