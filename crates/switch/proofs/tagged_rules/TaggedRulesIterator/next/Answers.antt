use Rattle.std.proofs.Common.{◌<◌, ◌∙◌, arith, refl}
use Rattle.switch.proofs.Walking.{none_left, next_table}
use Rattle.switch.proofs.tagged_rules.TaggedRulesIterator.next.Goals as goal

pub returns-then-self-eq63-clause-steps : goal.returns-then-self-eq63-clause-steps
returns-then-self-eq63-clause-steps c =
    let h = c.in_default.ensures in
    let e = none_left c.next_of_tag.new.self h.done c.if-self-eq63.true in
    (c.loop-rule.invariant ∙ h.steps ∙ e, e)

pub loop-rule-preserved : goal.loop-rule-preserved
loop-rule-preserved c =
    let h = c.in_default.ensures in
    let m = c.next_of_tag.new.self in
    let k : m.tag < 63 = omega (arith, m.in_range, c.if-self-eq63.false) in
    c.loop-rule.invariant ∙ h.steps ∙ next_table m _ h.done k refl refl c.table-self.ensures.rules
