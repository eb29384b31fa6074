use Rattle.std.proofs.Common.{◌<◌, length, ◌∙◌, arith}
use Rattle.std.proofs.lemmas.List.{drop-set-lt}
use Rattle.switch.proofs.Running.{one_more}
use Rattle.switch.proofs.run.carry_on.Goals as goal

pub loop-i-preserved : goal.loop-i-preserved
loop-i-preserved g c =
    let within = c.loop-i-test.true in
    let room : c.loop-i.i < length c.loop-i.answers = omega arith in
    record {
      within = omega arith;
      followed = λ m h. one_more _ c.args.calls.now c.loop-i.i _ within m c.loop-i.answers c.perform.result.1 room (c.loop-i.invariant.followed m h) c.perform.ensures;
      behind = drop-set-lt (length c.args.calls.now) c.loop-i.answers c.loop-i.i c.perform.result.1 within ∙ c.loop-i.invariant.behind;
    }
