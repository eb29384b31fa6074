use Rattle.std.proofs.Common.{List, length, ap, ◌∙◌, arith}
use Rattle.switch.specs.declared.tables.TaggedRule.{TaggedRule}
use Rattle.switch.specs.Walked.{rules_left}
use Rattle.switch.proofs.Lining.{lines_of, lines_are, count_is}
use Rattle.switch.proofs.Walking.{few_rules}
use Rattle.switch.proofs.listing.measure.Goals as goal

pub loop-rule-init : goal.loop-rule-init
loop-rule-init c =
    let t = c.args.tables in
    let all = ap rules_left c.into_iter-rule-iterator.ensures.into_iter_gives ∙ c.rules-rule-items.ensures in
    record { bytes = omega arith; count = omega arith; short = omega arith; few = omega (arith, ap length all, few_rules t.width.bits t.weights.now t.width.most t.fit) }

pub returns : goal.returns
returns c =
    let W = c.args.tables.width.bits in
    let ds = c.args.tables.weights.now in
    let all = ap rules_left c.into_iter-rule-iterator.ensures.into_iter_gives ∙ c.rules-rule-items.ensures in
    let rest = c.in-None.ensures.steps.0 in
    let inv = c.loop-rule.invariant in
    record {
      bytes = omega (arith, inv.bytes, ap (λ (rs : List TaggedRule). length (lines_of rs)) rest, ap (λ (rs : List TaggedRule). length (lines_of rs)) all, ap length (lines_are W ds));
      count = omega (arith, inv.count, ap length rest, ap length all, count_is W ds);
      few = omega arith;
    }
