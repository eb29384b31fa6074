use Rattle.std.proofs.Common.{◌≡◌, ◌+◌, ◌*◌, ◌∙◌, arith}
use Rattle.std.specs.Iterator.Adapters.{enumerate_count, enumerate_source}
use Rattle.rules.specs.Walk.{to_come}
use Rattle.controller.proofs.Writing.{turn}
use Rattle.controller.proofs.tables.write_rules.Goals as goal

pub loop-place-preserved : goal.loop-place-preserved
loop-place-preserved c =
    let inv = c.loop-place.invariant in
    let s = c.in-Some.ensures.steps in
    let next : 8 * enumerate_count c.next.new.self ≡ 8 * c.in-Some.place + 8 = omega arith in
    let here = rw (← s.1) at inv in
    rw next (turn (8 * c.in-Some.place) (to_come c.args.table) (to_come (enumerate_source c.loop-place.place-iterator)) (to_come (enumerate_source c.next.new.self))
    c.in-Some.rule c.loop-place.out c.args.out.now c.copy_from_slice.new.self s.0 (c.copy_from_slice.ensures.after ∙ c.record_bytes.ensures)
    (omega (arith, c.requires.room)) here.1 here)
