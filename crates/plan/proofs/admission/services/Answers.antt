use Rattle.std.proofs.Common.{◌∙◌}
use Rattle.std.proofs.lemmas.Iterator.Consumers.{count_from_yields_List}
use Rattle.plan.proofs.Services.{count_present, YieldsList-from_present}
use Rattle.plan.proofs.admission.services.Goals as goal

pub returns : goal.returns
returns c =
    count_from_yields_List c.flatten.result c.count.result c.count.ensures.ran
    (YieldsList-from_present _ (λ x j k. (k.0, k.1)) c.args.targets.now (cc) (cc) (cc) (cc))
    ∙ count_present c.args.targets.now
