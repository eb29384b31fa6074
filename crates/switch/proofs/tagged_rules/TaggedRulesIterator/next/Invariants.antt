use Rattle.std.proofs.Common.{◌≡◌, ◌-◌}
use Rattle.switch.specs.Walked.{rules_left}
use Rattle.switch.proofs.tagged_rules.TaggedRulesIterator.next.Given as goal

abbrev pub invariant-loop-rule : goal.invariant-loop-rule
invariant-loop-rule l = rules_left l.initial.self ≡ rules_left l.self

abbrev pub decreases-loop-rule : goal.decreases-loop-rule
decreases-loop-rule l = 64 - l.self.tag
