use Rattle.std.proofs.Common.{List, sym, ap, ◌∙◌, rules, tests}
use Rattle.std.proofs.lemmas.Iterator.Consumers.{YieldsList-at, YieldsList-from_filter_map, YieldsList-from_chain, nth_from_yields_List}
use Rattle.model.specs.declared.write.Write.{Write}
use Rattle.model.specs.Changes.{write_at}
use Rattle.switch.specs.Steps.{removal, placement}
use Rattle.switch.proofs.Stepwise.{as_it_is, nth_is, steps_written}
use Rattle.switch.proofs.Walking.{all_given}
use Rattle.switch.proofs.steps.nth_write.Goals as goal

pub returns : goal.returns
returns c =
    let W = c.args.standing.width.bits in
    let V = c.args.coming.width.bits in
    let standing = c.args.standing.weights.now in
    let coming = c.args.coming.weights.now in
    let written = steps_written W standing coming V (ap (λ w. w.bits) c.requires) in
    sym (as_it_is c.nth.result)
    ∙ nth_from_yields_List c.nth.result c.nth.new.self c.args.n c.nth.ensures.ran
    (YieldsList-from_chain
    (YieldsList-at c.chain.ensures.first (YieldsList-from_filter_map _ (removal V coming) (YieldsList-at c.filter_map-removals.ensures.source (all_given c.rules.result _ c.rules.ensures)) c.filter_map-removals.ensures.closure (λ x r q k. search (rules, tests))))
    (YieldsList-at c.chain.ensures.second (YieldsList-from_filter_map _ (placement W standing) (YieldsList-at c.filter_map-puts.ensures.source (all_given c.rules-2.result _ c.rules-2.ensures)) c.filter_map-puts.ensures.closure (λ x r q k. search (rules, tests))))
    c.chain.ensures.first_done c.chain.ensures.second_done)
    ∙ nth_is _ c.args.n
    ∙ ap (λ (ws : List Write). write_at ws c.args.n) written
