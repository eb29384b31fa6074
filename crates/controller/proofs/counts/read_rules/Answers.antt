use Rattle.std.proofs.Common.{◌+◌, ◌<◌, length, take, set, arith}
use Rattle.std.specs.Iterator.Adapters.{enumerate_source}
use Rattle.std.specs.Slice.Iter.{chunks_rest, chunks_size}
use Rattle.std.proofs.lemmas.List.{length-set, take_more_set}
use Rattle.controller.specs.Records.{rule_in}
use Rattle.controller.proofs.Reading.{count_one, read_one, read_ok}
use Rattle.controller.proofs.counts.read_rules.Goals as goal

pub loop-place-preserved : goal.loop-place-preserved
loop-place-preserved c =
    let all = c.args.records.now in
    let it = c.loop-place.place-iterator in
    let rest = chunks_rest (enumerate_source it) in
    let size = chunks_size (enumerate_source it) in
    let x = c.in-Some.bytes.now in
    let more = chunks_rest (enumerate_source c.next.new.self) in
    let rules = c.loop-place.rules in
    let n = c.in-Some.place in
    let r = c.in_ok-rules.field-0 in
    let steps = c.in-Some.ensures.steps in
    let s = steps.0.1 in
    let inv = rw (← steps.1) at c.loop-place.invariant in
    let read = read_ok (rule_in x) r c.in_ok-rules.ensures in
    let place : n < length rules = omega (arith, c.requires, s.2, inv.1, inv.2) in
    rw steps.2 (rw (← steps.1) (
      omega (arith, steps.0.0, inv.0),
      count_one all rest x more (take n rules) size inv.0 s.0 s.1 s.2 inv.3 r n read inv.1,
      omega (arith, length-set rules n r, inv.2),
      read_one all rest x more (take n rules) size inv.0 s.0 s.1 s.2 inv.3 r (take (n + 1) (set rules n r)) read (take_more_set rules n r place),
    ))
