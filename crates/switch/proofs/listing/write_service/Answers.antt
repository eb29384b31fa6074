use Rattle.std.proofs.Common.{◌-◌, List, [], map, length, take, drop, ℕ, ap, ◌∙◌, arith}
use Rattle.rules.specs.declared.rule.Rule.{Rule}
use Rattle.rules.specs.Walk.{to_come}
use Rattle.switch.specs.Listings.{Standing, under, line, lines, over}
use Rattle.switch.proofs.Filling.{lent_long, filled_as, turn, turn_room, used_all, filled_all}
use Rattle.switch.proofs.Lining.{service_is}
use Rattle.switch.proofs.listing.write_service.Goals as goal

pub write-used-requires : goal.write-used-requires
write-used-requires c =
    let t = c.args.tag in
    let text = lines (map (under t) (to_come c.into_iter-rule-iterator.result)) in
    let all = ap to_come c.into_iter-rule-iterator.ensures.into_iter_gives ∙ c.in-Some.ensures.rules in
    let whole = service_is c.args.tables.width.bits c.args.tables.weights.now t (to_come c.into_iter-rule-iterator.result) all in
    omega (
      arith,
      turn_room text c.args.out.now (lines (map (under t) (to_come c.loop-rule.rule-iterator))) c.loop-rule.out (line (under t c.in-Some-rule.rule)) (lines (map (under t) (to_come c.next.new.self)))
          c.loop-rule.used c.loop-rule.invariant (ap (λ (xs : List Rule). lines (map (under t) xs)) c.in-Some-rule.ensures.steps),
      lent_long c.loop-rule.out c.loop-rule.used,
      ap (λ (ss : List Standing). length (lines ss)) whole,
      ap length (c.deref.ensures.0 ∙ c.line-line.ensures),
    )

pub loop-rule-preserved : goal.loop-rule-preserved
loop-rule-preserved c =
    let t = c.args.tag in
    let text = lines (map (under t) (to_come c.into_iter-rule-iterator.result)) in
    let is = c.deref.ensures.0 ∙ c.line-line.ensures in
    turn text c.args.out.now (lines (map (under t) (to_come c.loop-rule.rule-iterator))) c.loop-rule.out (line (under t c.in-Some-rule.rule)) (lines (map (under t) (to_come c.next.new.self)))
    c.loop-rule.used c.loop-rule.invariant (ap (λ (xs : List Rule). lines (map (under t) xs)) c.in-Some-rule.ensures.steps) c.write-used.new.out c.write-used.result
    (c.write-used.ensures.value ∙ ap length is) (c.write-used.ensures.bytes ∙ ap (λ (w : List ℕ). over w (take (length c.loop-rule.out - c.loop-rule.used) (drop c.loop-rule.used c.loop-rule.out))) is)

pub returns : goal.returns
returns c =
    let t = c.args.tag in
    let o = c.args.out.now in
    let text = lines (map (under t) (to_come c.into_iter-rule-iterator.result)) in
    let all = ap to_come c.into_iter-rule-iterator.ensures.into_iter_gives ∙ c.in-Some.ensures.rules in
    let whole = service_is c.args.tables.width.bits c.args.tables.weights.now t (to_come c.into_iter-rule-iterator.result) all in
    let rest = ap (λ (xs : List Rule). lines (map (under t) xs)) c.in-None.ensures.steps.0 in
    let done = filled_as text o (lines (map (under t) (to_come c.loop-rule.rule-iterator))) [] c.loop-rule.out c.loop-rule.used rest c.loop-rule.invariant in
    record {
      value = used_all text o c.loop-rule.out c.loop-rule.used done ∙ ap (λ (ss : List Standing). length (lines ss)) whole;
      bytes = filled_all text o c.loop-rule.out c.loop-rule.used done ∙ ap (λ (ss : List Standing). over (lines ss) o) whole;
    }

pub returns-in_default : goal.returns-in_default
returns-in_default c =
    let whole = service_is c.args.tables.width.bits c.args.tables.weights.now c.args.tag [] c.in_default.ensures.rules in
    record {
      value = ap (λ (ss : List Standing). length (lines ss)) whole;
      bytes = ap (λ (ss : List Standing). over (lines ss) c.args.out.now) whole;
    }
