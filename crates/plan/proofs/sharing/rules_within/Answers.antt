use Rattle.std.proofs.Common.{ℕ, ◌∙◌, rules, tests, arith}
use Rattle.std.proofs.lemmas.Iterator.{YieldsList-from_map, YieldsList-from_slice}
use Rattle.std.proofs.lemmas.Iterator.Adapters.{fits_from_length, at_most_from_yields_List}
use Rattle.std.proofs.lemmas.Iterator.Consumers.{YieldsList-at, sum_by_from_yields_List}
use Rattle.plan.specs.declared.reach.Reach.{Reach}
use Rattle.plan.specs.Reached.{need_in}
use Rattle.plan.proofs.Services.{worth, total_worth}
use Rattle.plan.proofs.sharing.rules_within.Goals as goal

pub sum-requires-clause-fits : goal.sum-requires-clause-fits
sum-requires-clause-fits c =
    fits_from_length _ _ 64 _
    (at_most_from_yields_List (YieldsList-at c.map.ensures.source (YieldsList-from_slice c.args.reaches.now cc)) (omega arith))
    c.map.ensures.closure (omega arith) (λ x r q k. search (rules, tests))

pub returns : goal.returns
returns c =
    let need : Reach → ℕ = λ r. need_in r.misses c.args.limit in
    sum_by_from_yields_List (worth need) _ c.map.result _ c.sum.ensures.ran
    (YieldsList-from_map _ (worth need) (YieldsList-at c.map.ensures.source (YieldsList-from_slice c.args.reaches.now cc))
    c.map.ensures.closure (λ x r q k. search (rules, tests)))
    ∙ total_worth need c.args.reaches.now
