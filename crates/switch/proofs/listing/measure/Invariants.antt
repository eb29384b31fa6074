use Rattle.std.proofs.Common.{◌≡◌, ◌+◌, ◌*◌, ◌≤◌, length}
use Rattle.switch.specs.Walked.{rules_left}
use Rattle.switch.proofs.Lining.{lines_of}
use Rattle.switch.proofs.listing.measure.Given as goal

abbrev pub invariant-loop-rule : goal.invariant-loop-rule
invariant-loop-rule l = record {
  bytes : l.bytes + length (lines_of (rules_left l.rule-iterator)) ≡ length (lines_of (rules_left l.initial.rule-iterator));
  count : l.count + length (rules_left l.rule-iterator) ≡ length (rules_left l.initial.rule-iterator);
  short : l.bytes ≤ 44 * l.count;
  few : length (rules_left l.initial.rule-iterator) ≤ 832;
}
