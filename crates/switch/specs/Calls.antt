-- What each call answers and leaves, for any register, memory and state that it is handed.
use Rattle.std.specs.Prelude.{ℕ, ◌-◌, Bool, cond, not, ◌&&◌, List, [], ◌∷◌, length, replicate, is_some, Some, None, Ok, Err, Option, Result, ◌==◌, nat_le, nat_lt}
use Rattle.rules.specs.declared.refusal.Refusal.{Refusal}
use Rattle.rules.specs.declared.refusal.Refusal.TheVariants.{StateMismatch, StepsMismatch, BrokenLayout, MemoryFull, NothingToRemove}
use Rattle.rules.specs.Refusals.{Ground, ◌when◌, first}
use Rattle.memory.specs.Holding.{Held, at}
use Rattle.memory.specs.Writes.{broken}
use Rattle.plan.specs.ByTag.{on}
use Rattle.plan.specs.Measures.{Misses}
use Rattle.plan.specs.Plans.{worst_miss, plan_weights, rule_total}
use Rattle.model.specs.declared.answer.Forecast.{Forecast}
use Rattle.model.specs.declared.order.Order.{Order}
use Rattle.model.specs.declared.write.Write.{Write}
use Rattle.model.specs.declared.write.Write.TheVariants.{Remove, Put}
use Rattle.model.specs.Changes.{steps, write_at, after_write}
use Rattle.model.specs.Grounds.{order_grounds}
use Rattle.model.specs.Models.{coming, kept_if}
use Rattle.switch.specs.declared.state.Refused.{Refused}
use Rattle.switch.specs.Desks.{Underway, Desk, with_change, View}

-- What a call with a state refused with, if it refused.
abbrev pub refusal_of : {T S : Type 0} → Result T (Refused S) → Option Refusal
refusal_of (Ok x) = None
refusal_of (Err e) = Some e.why

-- ---- making

-- A register with no service.
abbrev pub fresh : ℕ → ℕ → Desk
fresh W R = record { width = W; capacity = R; targets = replicate 64 None; weights = replicate 64 None; change = None }

-- ---- orders

abbrev pub place_grounds : Desk → Order → List Ground
place_grounds d o = (StateMismatch when is_some d.change) ∷ order_grounds d.width d.capacity d.targets o

-- The plan that an order brings: its weights, and what a draft tells of it.
abbrev pub weights_of : Misses → Desk → Order → List (Option ℕ)
weights_of miss d o = plan_weights miss d.width d.capacity (coming o d.targets)

abbrev pub forecast_of : Misses → Desk → Order → Forecast
forecast_of miss d o = record {
  order = o;
  worst = worst_miss miss d.width d.capacity (coming o d.targets);
  rules = rule_total d.width (weights_of miss d o);
  steps = length (steps d.width d.weights (weights_of miss d o));
}

-- ---- accept and discard

abbrev pub same_numbers : Forecast → Forecast → Bool
same_numbers f g = f.worst == g.worst && (f.rules == g.rules && f.steps == g.steps)

-- The draft is what its order gives now, in every number.
abbrev pub current : Misses → Desk → Forecast → Bool
current miss d f = not (is_some (first (order_grounds d.width d.capacity d.targets f.order))) && same_numbers f (forecast_of miss d f.order)

abbrev pub accept_grounds : Misses → Desk → Forecast → List Ground
accept_grounds miss d f = (StateMismatch when is_some d.change) ∷ (StateMismatch when not (current miss d f)) ∷ []

-- A change with all its steps left.
abbrev pub begun : Misses → Desk → Forecast → Underway
begun miss d f = record { order = f.order; weights = weights_of miss d f.order; steps = f.steps; left = f.steps }

abbrev pub accept_desk : Misses → Desk → Forecast → Desk
accept_desk miss d f = kept_if (first (accept_grounds miss d f)) d (with_change d (Some (begun miss d f)))

abbrev pub discard_grounds : Desk → List Ground
discard_grounds d = (StateMismatch when is_some d.change) ∷ []

-- ---- step

-- The write that is next, if a step is left: that behind the ones that are done.
abbrev pub next_write : Desk → Underway → Option Write
next_write d u = cond (u.left == 0) None (write_at (steps d.width d.weights u.weights) (u.steps - u.left))

-- What the memory says to a write.
abbrev pub write_grounds : View → Write → List Ground
write_grounds v (Remove p) = (BrokenLayout when broken p) ∷ (NothingToRemove when not (is_some (at v.held p))) ∷ []
write_grounds v (Put r) =
    (BrokenLayout when broken r.prefix) ∷ (MemoryFull when (not (is_some (at v.held r.prefix)) && nat_le v.limit v.size)) ∷ []

-- What is held then.
abbrev pub write_held : View → Write → Held
write_held v w = kept_if (first (write_grounds v w)) v.held (after_write v.held w)

abbrev pub one_done : Underway → Underway
one_done u = record { order = u.order; weights = u.weights; steps = u.steps; left = u.left - 1 }

-- With no change under way a step is refused, and with none left; else the memory decides.
abbrev pub write_refusal : View → Option Write → Option Refusal
write_refusal v None = Some StepsMismatch
write_refusal v (Some w) = first (write_grounds v w)

abbrev pub refusal_in : Desk → Option Underway → View → Option Refusal
refusal_in d None v = Some StateMismatch
refusal_in d (Some u) v = write_refusal v (next_write d u)

abbrev pub step_refusal : Desk → View → Option Refusal
step_refusal d v = refusal_in d d.change v

-- A step that is not refused takes one off the steps that are left.
abbrev pub step_desk : Desk → View → Desk
step_desk d v = kept_if (step_refusal d v) d (with_change d (on one_done d.change))

-- And the memory holds what the write leaves.
abbrev pub held_after : View → Option Write → Held
held_after v None = v.held
held_after v (Some w) = write_held v w

abbrev pub held_in : Desk → Option Underway → View → Held
held_in d None v = v.held
held_in d (Some u) v = held_after v (next_write d u)

abbrev pub step_held : Desk → View → Held
step_held d v = held_in d d.change v

-- ---- close

abbrev pub close_in : Option Underway → Option Refusal
close_in None = Some StateMismatch
close_in (Some u) = first ((StepsMismatch when nat_lt 0 u.left) ∷ [])

abbrev pub close_refusal : Desk → Option Refusal
close_refusal d = close_in d.change

abbrev pub closed : Desk → Option Underway → Desk
closed d None = d
closed d (Some u) = record { width = d.width; capacity = d.capacity; targets = coming u.order d.targets; weights = u.weights; change = None }

abbrev pub close_desk : Desk → Desk
close_desk d = kept_if (close_refusal d) d (closed d d.change)
