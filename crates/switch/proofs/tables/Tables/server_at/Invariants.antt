use Rattle.std.proofs.Common.{◌≡◌, true, map}
use Rattle.rules.specs.Prefixes.{all_fit}
use Rattle.rules.specs.Walk.{to_come}
use Rattle.memory.specs.Holding.{at, listed}
use Rattle.model.specs.Keyed.{keyed}
use Rattle.switch.proofs.tables.Tables.server_at.Given as goal

abbrev pub invariant-loop-rule : goal.invariant-loop-rule
invariant-loop-rule l =
    (all_fit l.self.width.bits (to_come l.rule-iterator) ≡ true)
    × (at (listed (map (keyed l.self.width.bits l.tag) (to_come l.rule-iterator))) l.prefix
    ≡ at (listed (map (keyed l.self.width.bits l.tag) (to_come l.initial.rule-iterator))) l.prefix)
