use Rattle.std.proofs.Common.{◌≡◌, None, rules}
use Rattle.std.specs.List.{slice_get}
use Rattle.plan.proofs.Mapped.{filled_at}
use Rattle.shares.proofs.Planning.{tagged_is}
use Rattle.shares.proofs.plans.by_tag.Goals as goal

pub returns : goal.returns
returns c =
    tagged_is c.args.targets.now c.from_fn.result c.requires c.from_fn.ensures.items.long
    (filled_at _ (λ i y. y ≡ slice_get c.args.targets.now i) _ (λ i y q k. search rules) c.from_fn.result 64 c.from_fn.ensures.items None)
