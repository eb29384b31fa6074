use Rattle.std.proofs.Common.{ℕ, ◌-◌, List, Option}
use Rattle.plan.specs.Measures.{Misses}
use Rattle.model.specs.declared.order.Order.{Order}
use Rattle.model.specs.Models.{changing, model}
use Rattle.switch.specs.declared.state.State.TheVariants as state
use Rattle.switch.specs.Desks.{desk, view}
use Rattle.switch.specs.Kept.{Kept}
use Rattle.commands.proofs.settling.take_steps.Given as goal

abbrev pub invariant-loop-taken : goal.invariant-loop-taken
invariant-loop-taken g l =
    (miss : Misses) (W R : ℕ) (ts : List (Option ℕ)) (o : Order)
    → Kept miss (model W R ts (changing o l.steps)) (state.Changing l.initial.changing) (desk l.initial.register) (view g.M.Reader.held_at g.M.Reader.size g.M.RuleMemory.limit l.initial.memory)
    → Kept miss (model W R ts (changing o (l.steps - l._taken))) (state.Changing l.changing) (desk l.register) (view g.M.Reader.held_at g.M.Reader.size g.M.RuleMemory.limit l.memory)
