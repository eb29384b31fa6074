use Rattle.rules.specs.Walk.{to_come}
use Rattle.controller.proofs.Writing.{small}
use Rattle.controller.proofs.tables.write_table.Goals as goal

pub write_rules-requires-clause-small : goal.write_rules-requires-clause-small
write_rules-requires-clause-small c = small c.in_ok-weight.weight.width.bits (to_come c.table.result) c.in_ok-weight.weight.width.most c.table.ensures.shortest.fit
