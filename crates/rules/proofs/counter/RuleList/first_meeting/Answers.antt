use Rattle.std.proofs.Common.{rules, tests}
use Rattle.std.proofs.lemmas.Iterator.{YieldsList-from_slice}
use Rattle.std.proofs.lemmas.Iterator.Adapters.{serves_from_places}
use Rattle.std.proofs.lemmas.List.Sums.{AllPass-from_list_all}
use Rattle.rules.specs.Prefixes.{fits}
use Rattle.rules.proofs.counter.RuleList.first_meeting.Goals as goal

pub position-requires-clause-callable : goal.position-requires-clause-callable
position-requires-clause-callable c =
    serves_from_places (YieldsList-from_slice c.args.self.rules.now cc) (λ x q k. search (rules, tests))
    (λ x k h e. rw e (search (rules, AllPass-from_list_all (fits c.args.self.width.bits) c.args.self.rules.now c.args.self.fit k x.now h)))
