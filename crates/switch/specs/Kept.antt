-- How a switch agrees with the model: the one relation that every call keeps.
use Rattle.std.specs.Prelude.{◌≡◌, ℕ, List, length, Some, None, Option}
use Rattle.plan.specs.Measures.{Misses}
use Rattle.model.specs.declared.answer.Answer.{Answer}
use Rattle.model.specs.declared.call.Call.{Call}
use Rattle.model.specs.Models.{Phase, at_rest, drafted, changing, Model, standing_weights, coming_weights, order_steps, forecast, model_contents, model_answer, model_next, model_after, model_answers}
use Rattle.model.specs.Sound.{Sound}
use Rattle.switch.specs.declared.state.State.{State}
use Rattle.switch.specs.declared.state.State.TheVariants as state
use Rattle.switch.specs.Desks.{Underway, Desk, View}

-- The register that a model prescribes.
abbrev pub change_in : Misses → Model → Phase → Option Underway
change_in miss m at_rest = None
change_in miss m (drafted o) = None
change_in miss m (changing o left) = Some (record { order = o; weights = coming_weights miss m o; steps = length (order_steps miss m o); left = left })

abbrev pub model_desk : Misses → Model → Desk
model_desk miss m = record {
  width = m.width;
  capacity = m.capacity;
  targets = m.targets;
  weights = standing_weights miss m;
  change = change_in miss m m.phase;
}

-- The state is that of the phase, and a draft tells what the model tells of its order.
abbrev pub StateKept : Misses → Model → Phase → State → Type 0
StateKept miss m at_rest (state.Resting r) = Unit {0}
StateKept miss m at_rest (state.Drafted d) = ⊥
StateKept miss m at_rest (state.Changing c) = ⊥
StateKept miss m (drafted o) (state.Resting r) = ⊥
StateKept miss m (drafted o) (state.Drafted d) = d.forecast ≡ forecast miss m o
StateKept miss m (drafted o) (state.Changing c) = ⊥
StateKept miss m (changing o left) (state.Resting r) = ⊥
StateKept miss m (changing o left) (state.Drafted d) = ⊥
StateKept miss m (changing o left) (state.Changing c) = Unit {0}

-- The register is the model's, the memory has the model's capacity and holds what the model says at every prefix.
pub record Under (miss : Misses) (m : Model) (d : Desk) (v : View) : Type 0 where
  pub sound : Sound miss m
  pub register : d ≡ model_desk miss m
  pub limit : v.limit ≡ m.capacity
  pub holds : (x l : ℕ) → v.held x l ≡ model_contents miss m x l

pub record Kept (miss : Misses) (m : Model) (s : State) (d : Desk) (v : View) : Type 0 where
  pub under : Under miss m d v
  pub state : StateKept miss m m.phase s

-- One call: the model's answer, and agreement with what the model then is.
pub record Did (miss : Misses) (m : Model) (call : Call) (answer : Answer) (s : State) (d : Desk) (v : View) : Type 0 where
  pub answered : answer ≡ model_answer miss m call
  pub kept : Kept miss (model_next miss m call) s d v

-- From every agreement with a model the call leads to one with the model after it.
abbrev pub Carries : Misses → Call → State → Desk → View → Answer → State → Desk → View → Type 0
Carries miss call s d v answer s' d' v' = (m : Model) → Kept miss m s d v → Did miss m call answer s' d' v'

-- A chain of calls does the same.
pub record Followed (miss : Misses) (m : Model) (calls : List Call) (answers : List Answer) (s : State) (d : Desk) (v : View) : Type 0 where
  pub answers_are : answers ≡ model_answers miss m calls
  pub kept : Kept miss (model_after miss m calls) s d v
