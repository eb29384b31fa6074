use Rattle.std.proofs.Common.{◌≡◌, ℕ, ◌+◌, ◌-◌, ◌<◌, subst, arith}
use Rattle.model.specs.Models.{changing, model}
use Rattle.switch.specs.declared.state.State.TheVariants as state
use Rattle.switch.specs.Desks.{Desk, View, desk, view}
use Rattle.switch.specs.Kept.{Kept}
use Rattle.commands.proofs.ToRest.{steps_on, never_stuck}
use Rattle.commands.proofs.settling.take_steps.Goals as goal

pub loop-taken-preserved : goal.loop-taken-preserved
loop-taken-preserved g c = λ miss W R ts o h.
    let left : ℕ = c.args.steps - c.loop-taken._taken in
    let one : left - 1 ≡ c.args.steps - (c.loop-taken._taken + 1) = omega arith in
    let pos : 0 < left = omega (arith, c.loop-taken-test.true) in
    let d : Desk = desk c.loop-taken.register in
    let d' : Desk = desk c.step.new.register in
    let v : View = view g.M.Reader.held_at g.M.Reader.size g.M.RuleMemory.limit c.loop-taken.memory in
    let v' : View = view g.M.Reader.held_at g.M.Reader.size g.M.RuleMemory.limit c.step.new.memory in
    subst (λ (n : ℕ). Kept miss (model W R ts (changing o n)) (state.Changing c.in_ok-changing.changing) d' v') one
    (steps_on miss W R ts o left pos c.loop-taken.changing d d' v v' (c.loop-taken.invariant miss W R ts o h) (g.met.M.Reader.counted c.loop-taken.memory)
    c.step.ensures.register c.step.ensures.held c.step.ensures.limit c.in_ok-changing.changing c.in_ok-changing.ensures.refused)

pub returns-in_err-changing : goal.returns-in_err-changing
returns-in_err-changing g c = λ miss W R ts o h.
    let left : ℕ = c.args.steps - c.loop-taken._taken in
    let pos : 0 < left = omega (arith, c.loop-taken-test.true) in
    let d : Desk = desk c.loop-taken.register in
    let d' : Desk = desk c.step.new.register in
    let v : View = view g.M.Reader.held_at g.M.Reader.size g.M.RuleMemory.limit c.loop-taken.memory in
    let v' : View = view g.M.Reader.held_at g.M.Reader.size g.M.RuleMemory.limit c.step.new.memory in
    absurd (never_stuck miss W R ts o left pos c.loop-taken.changing d d' v v' (c.loop-taken.invariant miss W R ts o h) (g.met.M.Reader.counted c.loop-taken.memory)
    c.step.ensures.register c.step.ensures.held c.step.ensures.limit c.in_err-changing.field-0.0 c.in_err-changing.ensures.refused)
