use Rattle.std.proofs.Common.{◌≡◌, ◌+◌, ◌*◌, ◌<◌, ◌++◌, length, take, drop}
use Rattle.std.specs.Iterator.Adapters.{enumerate_count, enumerate_source}
use Rattle.std.specs.List.{AllByRecursion}
use Rattle.rules.specs.Walk.{to_come}
use Rattle.controller.specs.Records.{records_of}
use Rattle.controller.proofs.tables.write_rules.Given as goal

-- the records written and those to come are those of the table, and behind the written ones nothing has changed
abbrev pub invariant-loop-place : goal.invariant-loop-place
invariant-loop-place l =
    let at = 8 * enumerate_count l.place-iterator in
    let rest = to_come (enumerate_source l.place-iterator) in
    let table = to_come l.fn.table in
    AllByRecursion (λ rule. rule.length < 256) rest
    × (at + 8 * length rest ≡ 8 * length table)
    × (take at l.out ++ records_of rest ≡ records_of table)
    × (drop at l.out ≡ drop at l.fn.out)
