use Rattle.std.proofs.Common.{arith}
use Rattle.controller.proofs.Counting.{read_and_counted}
use Rattle.controller.proofs.counts.count_records.Goals as goal

pub returns-clause-counted : goal.returns-clause-counted
returns-clause-counted c =
    read_and_counted c.args.width c.args.records.now c.in_ok-rules.rules.now c.in_ok-rules.ensures.1 (λ i. omega (arith, c.type_inv.records i))
    c.count_addresses.result c.count_addresses.ensures.refused c.count_addresses.ensures.counted
