use Rattle.std.proofs.Common.{◌∙◌}
use Rattle.plan.specs.Measures.{Misses}
use Rattle.switch.specs.Desks.{Desk, View, desk, view}
use Rattle.commands.proofs.ToRest.{draws, under_way, closes, never_open}
use Rattle.commands.proofs.settling.settle.Goals as goal

pub returns-in_err-changing-2 : goal.returns-in_err-changing-2
returns-in_err-changing-2 g c = λ W R ts h.
    let miss : Misses = g.E.Measure.miss c.args.measure.now in
    let d : Desk = desk c.args.register.now in
    let v : View = view g.M.Reader.held_at g.M.Reader.size g.M.RuleMemory.limit c.args.memory.now in
    let placed = c.in_ok-draft.ensures in
    let way = under_way miss W R ts c.args.order c.args.resting d (desk c.accept.new.register) v h c.in_ok-draft.draft placed.refused placed.state
    c.in_ok-changing.changing c.accept.ensures.register c.forecast-forecast.result c.forecast-forecast.ensures in
    absurd (c.in_err-changing-2.ensures miss W R ts c.args.order way)

pub returns-in_err-resting : goal.returns-in_err-resting
returns-in_err-resting g c = λ W R ts h.
    let miss : Misses = g.E.Measure.miss c.args.measure.now in
    let d : Desk = desk c.args.register.now in
    let v : View = view g.M.Reader.held_at g.M.Reader.size g.M.RuleMemory.limit c.args.memory.now in
    let placed = c.in_ok-draft.ensures in
    let way = under_way miss W R ts c.args.order c.args.resting d (desk c.accept.new.register) v h c.in_ok-draft.draft placed.refused placed.state
    c.in_ok-changing.changing c.accept.ensures.register c.forecast-forecast.result c.forecast-forecast.ensures in
    absurd (never_open miss W R ts c.args.order c.in_ok-changing-2.changing (desk c.take_steps.new.register) (desk c.close.new.register)
    (view g.M.Reader.held_at g.M.Reader.size g.M.RuleMemory.limit c.take_steps.new.memory) (c.in_ok-changing-2.ensures miss W R ts c.args.order way) c.close.ensures.register
    c.in_err-resting.ensures.refused)

pub returns : goal.returns
returns g c = λ W R ts h.
    let miss : Misses = g.E.Measure.miss c.args.measure.now in
    let d : Desk = desk c.args.register.now in
    let v : View = view g.M.Reader.held_at g.M.Reader.size g.M.RuleMemory.limit c.args.memory.now in
    let placed = c.in_ok-draft.ensures in
    let told = draws miss W R ts c.args.order c.args.resting d v h c.in_ok-draft.draft placed.refused placed.state in
    let way = under_way miss W R ts c.args.order c.args.resting d (desk c.accept.new.register) v h c.in_ok-draft.draft placed.refused placed.state
    c.in_ok-changing.changing c.accept.ensures.register c.forecast-forecast.result c.forecast-forecast.ensures in (
      told.free,
      c.forecast-forecast.ensures ∙ told.tells,
      closes miss W R ts c.args.order c.in_ok-changing-2.changing (desk c.take_steps.new.register) (desk c.close.new.register)
          (view g.M.Reader.held_at g.M.Reader.size g.M.RuleMemory.limit c.take_steps.new.memory) (c.in_ok-changing-2.ensures miss W R ts c.args.order way) c.close.ensures.register
          c.in_ok-resting.resting c.in_ok-resting.ensures.refused,
    )
