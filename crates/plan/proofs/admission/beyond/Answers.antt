use Rattle.std.proofs.Common.{ltb, ◌∙◌, rules, tests}
use Rattle.std.proofs.lemmas.Iterator.Search.{any_from_yields_List}
use Rattle.plan.proofs.Services.{any_present, YieldsList-from_present}
use Rattle.plan.proofs.admission.beyond.Goals as goal

pub returns : goal.returns
returns c =
    any_from_yields_List (λ x. ltb c.args.limit x) _ _ c.any.result c.any.ensures.ran
    (YieldsList-from_present _ (λ x j k. (k.0, k.1)) c.args.targets.now (cc) (cc) (cc) (cc)) (λ x b q k. search (rules, tests))
    ∙ any_present (λ x. ltb c.args.limit x) c.args.targets.now
