use Rattle.std.proofs.Common.{◌≡◌, ◌+◌, leb, length, ap, ◌∙◌, rules, tests, arith}
use Rattle.std.specs.Option.{unwrap_or}
use Rattle.std.proofs.lemmas.Iterator.{YieldsList-from_slice}
use Rattle.std.proofs.lemmas.Iterator.Search.{position_from_yields_List}
use Rattle.plan.proofs.Noting.{need_found}
use Rattle.plan.proofs.reach.Reach.need.Goals as goal

pub returns-clause-value : goal.returns-clause-value
returns-clause-value c =
    let l : length c.args.self.now.misses ≡ 13 = omega arith in
    let e = position_from_yields_List (λ m. leb m c.args.limit) _ _ c.position-fewer.result c.position-fewer.ensures.ran (YieldsList-from_slice c.args.self.now.misses cc) (λ x b q k. search (rules, tests)) in
    ap (λ n. 1 + n) (c.unwrap_or.ensures ∙ ap (λ o. unwrap_or o 12) e) ∙ need_found c.args.self.now.misses c.args.limit l
