use Rattle.std.proofs.Common.{ℕ, sym, subst, arith, rules, tests}
use Rattle.std.proofs.lemmas.Iterator.{first_from_Range}
use Rattle.rules.specs.Nearby.{Lighter}
use Rattle.rules.proofs.Sides.{Short, Long, lighter_found}
use Rattle.rules.proofs.weight.Weight.lighter.Goals as goal

pub cut-requires : goal.cut-requires
cut-requires c =
    let d = c.args.self in
    let t = first_from_Range _ _ _ _ (Short d.width.bits d.addresses c.args.limit) (Long d.width.bits d.addresses c.args.limit) c.find-a.ensures.ran
    (λ x q k. grind (arith, tests)) (λ x q k. (search rules, grind (arith, tests))) in
    (lighter_found _ _ _ _ _ c.find-a.result d.inside c.requires c.bits-most.ensures c.unwrap_or.ensures t).0

pub returns-clause-weight : goal.returns-clause-weight
returns-clause-weight c =
    let d = c.args.self in
    let t = first_from_Range _ _ _ _ (Short d.width.bits d.addresses c.args.limit) (Long d.width.bits d.addresses c.args.limit) c.find-a.ensures.ran
    (λ x q k. grind (arith, tests)) (λ x q k. (search rules, grind (arith, tests))) in
    subst (λ (x : ℕ). Lighter d.width.bits d.addresses c.args.limit x) (sym c.cut.ensures.addresses)
    (lighter_found _ _ _ _ _ c.find-a.result d.inside c.requires c.bits-most.ensures c.unwrap_or.ensures t).1
