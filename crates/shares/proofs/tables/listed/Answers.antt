use Rattle.std.proofs.Common.{length, ap}
use Rattle.std.proofs.lemmas.Iterator.{items_from_collect}
use Rattle.std.proofs.lemmas.Iterator.Consumers.{YieldsList-from_shown}
use Rattle.rules.specs.Walk.{to_come, Gives}
use Rattle.shares.proofs.tables.listed.Goals as goal

pub returns : goal.returns
returns c = items_from_collect _ c.collect.ensures.ran (YieldsList-from_shown Gives (λ r. r) to_come (λ s t e. ap length e.0) (λ s r t e. e) c.args.table)
