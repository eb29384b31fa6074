use Rattle.std.proofs.Common.{ℕ, List, Option}
use Rattle.std.proofs.lemmas.Result.{err_from_is_err_and}
use Rattle.plan.specs.Measures.{Misses}
use Rattle.plan.proofs.Finishing.{enough, finished}
use Rattle.plan.proofs.Noting.{noted_each}
use Rattle.plan.proofs.Passing.{admitted}
use Rattle.plan.proofs.Worked.{figures}
use Rattle.plan.proofs.planner.plan.Goals as goal

pub returns-in_err-targets : goal.returns-in_err-targets
returns-in_err-targets g c =
    let p = err_from_is_err_and c.from_residual.result c.from_residual.ensures.1 in
    rw (p.1, p.2) (record {
      refused = c.in_err-targets.ensures.refused;
      worst = tt;
      weights = tt;
      rules = tt;
      words = tt;
      best = tt;
      figures = figures;
    })

pub least_worst-worst-requires : goal.least_worst-worst-requires
least_worst-worst-requires g c =
    let h = c.in_ok-targets.ensures in
    let m : Misses = g.E.Measure.miss c.args.measure.now in
    enough m (g.met.E.Measure.lawful c.args.measure.now) c.args.width c.args.capacity c.args.targets.now
    (admitted c.args.width c.args.capacity c.args.targets.now h.refused) c.reaches-reaches.result
    (noted_each m c.args.width c.args.targets.now c.in_ok-targets.targets c.reaches-reaches.result h.kept c.reaches-reaches.ensures)

pub returns : goal.returns
returns g c =
    let m : Misses = g.E.Measure.miss c.args.measure.now in
    let ts : List (Option ℕ) = c.args.targets.now in
    let h = c.in_ok-targets.ensures in
    let r = finished m (g.met.E.Measure.lawful c.args.measure.now) c.args.width c.args.capacity ts (admitted c.args.width c.args.capacity ts h.refused)
    c.reaches-reaches.result (noted_each m c.args.width ts c.in_ok-targets.targets c.reaches-reaches.result h.kept c.reaches-reaches.ensures)
    c.least_worst-worst.result c.least_worst-worst.ensures c.rules_within-rules.result c.weights-weights.result
    c.rules_within-rules.ensures c.weights-weights.ensures in
    record {
      refused = h.refused;
      worst = r.worst;
      weights = r.weights;
      rules = r.rules;
      words = r.words;
      best = r.best;
      figures = figures;
    }
