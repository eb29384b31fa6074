use Rattle.std.proofs.Common.{ℕ}
use Rattle.plan.specs.Measures.{Misses}
use Rattle.plan.specs.Nearest.{Nearest, nearest}
use Rattle.plan.proofs.NearestLaws.{nearest_is, nearest_one}
use Rattle.plan.proofs.Passing.{limited}
use Rattle.plan.proofs.Picks.{better_nearest}
use Rattle.plan.proofs.nearest.nearest.Goals as goal

pub returns : goal.returns
returns g c =
    let W : ℕ = c.args.width in
    let t : ℕ = c.args.target in
    let n : ℕ = c.args.limit in
    let m : Misses = g.E.Measure.miss c.args.measure.now in
    let found = c.in_ok-pair.ensures in
    let k = limited W t n found.refused in
    let i : Nearest m W t n c.pick.result =
    rw c.pick.ensures (better_nearest m (g.met.E.Measure.lawful c.args.measure.now) W t n _ _ k.some k.most k.target found.lighter found.heavier) in
    record {
      refused = found.refused;
      value = nearest_one m W t n c.pick.result (nearest m W t n) i (nearest_is m W t n k.limit);
      words = i;
    }
