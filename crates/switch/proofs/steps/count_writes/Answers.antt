use Rattle.std.proofs.Common.{◌≡◌, ℕ, ◌^◌, ◌≤◌, Bool, true, false, cond, length, sym, ap, ◌∙◌, subst, inl, arith, rules, tests}
use Rattle.std.proofs.lemmas.Iterator.Consumers.{YieldsList-at, YieldsList-from_filter_map, YieldsList-from_chain, count_from_yields_List}
use Rattle.rules.specs.declared.width.Width.{Width}
use Rattle.plan.specs.Plans.{beyond}
use Rattle.model.specs.Changes.{steps}
use Rattle.switch.specs.Steps.{removal, placement}
use Rattle.switch.specs.Tabled.{tagged_rules}
use Rattle.switch.specs.Walked.{rules_left}
use Rattle.switch.proofs.Stepwise.{few_steps, steps_written}
use Rattle.switch.proofs.Walking.{all_given, few_rules}
use Rattle.switch.proofs.steps.count_writes.Goals as goal

none_or : (b : Bool) (n : ℕ) → cond b 0 n ≤ n
none_or true n = omega arith
none_or false n = omega arith

counted : (c : goal.After-count) → c.count.result ≡ length (steps c.args.standing.width.bits c.args.standing.weights.now c.args.coming.weights.now)
counted c =
    let W = c.args.standing.width.bits in
    let V = c.args.coming.width.bits in
    let standing = c.args.standing.weights.now in
    let coming = c.args.coming.weights.now in
    count_from_yields_List c.chain.result c.count.result c.count.ensures.ran
    (YieldsList-from_chain
    (YieldsList-at c.chain.ensures.first (YieldsList-from_filter_map _ (removal V coming) (YieldsList-at c.filter_map-removals.ensures.source (all_given c.rules.result _ c.rules.ensures)) c.filter_map-removals.ensures.closure (λ x r q k. search (rules, tests))))
    (YieldsList-at c.chain.ensures.second (YieldsList-from_filter_map _ (placement W standing) (YieldsList-at c.filter_map-puts.ensures.source (all_given c.rules-2.result _ c.rules-2.ensures)) c.filter_map-puts.ensures.closure (λ x r q k. search (rules, tests))))
    c.chain.ensures.first_done c.chain.ensures.second_done)
    ∙ ap length (steps_written W standing coming V (ap (λ w. w.bits) c.requires))

pub count-requires-clause-fits : goal.count-requires-clause-fits
count-requires-clause-fits c =
    let s = c.args.standing in
    let t = c.args.coming in
    let x : rules_left c.chain.result.a.iter ≡ tagged_rules s.width.bits s.weights.now
    = ap (λ f. rules_left f.iter) c.chain.ensures.first ∙ ap rules_left c.filter_map-removals.ensures.source ∙ c.rules.ensures in
    let y : rules_left c.chain.result.b.iter ≡ tagged_rules t.width.bits t.weights.now
    = ap (λ f. rules_left f.iter) c.chain.ensures.second ∙ ap rules_left c.filter_map-puts.ensures.source ∙ c.rules-2.ensures in
    inl (omega (
      arith,
      ap length x,
      ap length y,
      none_or c.chain.result.a_done (length (rules_left c.chain.result.a.iter)),
      none_or c.chain.result.b_done (length (rules_left c.chain.result.b.iter)),
      few_rules s.width.bits s.weights.now s.width.most s.fit,
      few_rules t.width.bits t.weights.now t.width.most t.fit,
    ))

pub overflow_cast-result : goal.overflow_cast-result
overflow_cast-result c =
    let s = c.args.standing in
    let t = c.args.coming in
    let fit : beyond (2 ^ s.width.bits) t.weights.now ≡ false = subst (λ (w : Width). beyond (2 ^ w.bits) t.weights.now ≡ false) (sym c.requires) t.fit in
    omega (arith, counted c, few_steps s.width.bits s.weights.now t.weights.now s.width.most s.fit fit)

pub returns : goal.returns
returns c = counted c
