use Rattle.std.proofs.Common.{map}
use Rattle.rules.specs.Walk.{to_come}
use Rattle.switch.specs.Listings.{under, lines}
use Rattle.switch.proofs.Filling.{Filled}
use Rattle.switch.proofs.listing.write_service.Given as goal

abbrev pub invariant-loop-rule : goal.invariant-loop-rule
invariant-loop-rule l =
    Filled (lines (map (under l.tag) (to_come l.initial.rule-iterator))) l.initial.out l.used (lines (map (under l.tag) (to_come l.rule-iterator))) l.out
