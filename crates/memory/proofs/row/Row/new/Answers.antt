use Rattle.std.proofs.Common.{arith}
use Rattle.memory.specs.Covering.{last_key}
use Rattle.memory.proofs.row.Row.new.Goals as goal

pub overflow_cast-result : goal.overflow_cast-result
overflow_cast-result c = omega (arith, last_key c.args.rule.prefix.value c.args.rule.prefix.length c.requires, c.breadth.ensures.value, c.breadth.ensures.low, c.from.ensures)
