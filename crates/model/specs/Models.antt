-- The reference model of a switch. It is fed the width and the capacity at the making, then each call with its arguments, and nothing else; it
-- holds no memory. What the memory should hold is a function of the model.
use Rattle.std.specs.Prelude.{ℕ, ◌-◌, List, [], ◌∷◌, length, take, replicate, Some, None, Option, slice_set}
use Rattle.rules.specs.declared.refusal.Refusal.{Refusal}
use Rattle.rules.specs.Refusals.{first}
use Rattle.memory.specs.Holding.{Held}
use Rattle.memory.specs.Looks.{longest}
use Rattle.plan.specs.Measures.{Misses}
use Rattle.plan.specs.Plans.{worst_miss, plan_weights, rule_total}
use Rattle.model.specs.declared.answer.Answer.{Answer}
use Rattle.model.specs.declared.answer.Answer.TheVariants.{Done, Drafted, Seen, Refused, NotTaken}
use Rattle.model.specs.declared.answer.Forecast.{Forecast}
use Rattle.model.specs.declared.call.Call.{Call}
use Rattle.model.specs.declared.call.Call.TheVariants.{Place, Accept, Discard, Step, Close, Look}
use Rattle.model.specs.declared.order.Order.{Order}
use Rattle.model.specs.declared.order.Order.TheVariants.{Enter, Reweigh, Withdraw}
use Rattle.model.specs.declared.write.Write.{Write}
use Rattle.model.specs.Changes.{steps, altered}
use Rattle.model.specs.Grounds.{order_grounds, step_grounds, close_grounds, look_grounds}
use Rattle.model.specs.Keyed.{key, contents}

-- At rest, with a draft of an order, or in the change that an order brings, with so many steps left.
pub data Phase : Type 0 where
  at_rest : Phase
  drafted : Order → Phase
  changing : Order → ℕ → Phase

-- The targets are those of the standing services, by tag.
pub record Model : Type 0 where
  pub width : ℕ
  pub capacity : ℕ
  pub targets : List (Option ℕ)
  pub phase : Phase

abbrev pub model : ℕ → ℕ → List (Option ℕ) → Phase → Model
model W R ts phase = record { width = W; capacity = R; targets = ts; phase = phase }

-- A making leaves no service.
abbrev pub made : ℕ → ℕ → Model
made W R = model W R (replicate 64 None) at_rest

abbrev pub enter_phase : Model → Phase → Model
enter_phase m phase = model m.width m.capacity m.targets phase

-- The targets of the services that an order makes of the standing ones.
abbrev pub coming : Order → List (Option ℕ) → List (Option ℕ)
coming (Enter t c) ts = slice_set ts t (Some c)
coming (Reweigh t c) ts = slice_set ts t (Some c)
coming (Withdraw t) ts = slice_set ts t None

-- The rest is for one measure.
module _ (miss : Misses) where
  -- The weights of the standing plan, and of the plan that an order brings; the steps from one to the other.
  abbrev pub standing_weights : Model → List (Option ℕ)
  standing_weights m = plan_weights miss m.width m.capacity m.targets

  abbrev pub coming_weights : Model → Order → List (Option ℕ)
  coming_weights m o = plan_weights miss m.width m.capacity (coming o m.targets)

  abbrev pub order_steps : Model → Order → List Write
  order_steps m o = steps m.width (standing_weights m) (coming_weights m o)

  -- What a draft answers: the order, the worst miss and the rule total of the plan that it brings, and the number of steps.
  abbrev pub forecast : Model → Order → Forecast
  forecast m o = record {
    order = o;
    worst = worst_miss miss m.width m.capacity (coming o m.targets);
    rules = rule_total m.width (coming_weights m o);
    steps = length (order_steps m o);
  }

  -- What the memory should hold: the standing tables, in a change as altered by the steps that are done.
  abbrev pub contents_in : Model → Phase → Held
  contents_in m at_rest = contents m.width (standing_weights m)
  contents_in m (drafted o) = contents m.width (standing_weights m)
  contents_in m (changing o left) =
      altered (contents m.width (standing_weights m)) (take (length (order_steps m o) - left) (order_steps m o))

  abbrev pub model_contents : Model → Held
  model_contents m = contents_in m m.phase

-- An answer unless there is a ground to refuse, and what is then left.
abbrev pub unless : Option Refusal → Answer → Answer
unless None x = x
unless (Some why) x = Refused why

abbrev pub kept_if : {X : Type 0} → Option Refusal → X → X → X
kept_if None old new = new
kept_if (Some why) old new = old

-- An accepted look answers the server of the longest match.
abbrev pub look_answer : ℕ → Held → ℕ → ℕ → Answer
look_answer W held t a = unless (first (look_grounds W t a)) (Seen (longest held (key W t a)))

module _ (miss : Misses) where
  -- The answer to each call in each phase. A call that the phase does not take is answered so, and alters nothing.
  abbrev pub answer_in : Model → Phase → Call → Answer
  answer_in m at_rest (Place o) = unless (first (order_grounds m.width m.capacity m.targets o)) (Drafted (forecast miss m o))
  answer_in m at_rest Accept = NotTaken
  answer_in m at_rest Discard = NotTaken
  answer_in m at_rest Step = NotTaken
  answer_in m at_rest Close = NotTaken
  answer_in m at_rest (Look t a) = look_answer m.width (contents_in miss m at_rest) t a
  answer_in m (drafted o) (Place o') = NotTaken
  answer_in m (drafted o) Accept = Done
  answer_in m (drafted o) Discard = Done
  answer_in m (drafted o) Step = NotTaken
  answer_in m (drafted o) Close = NotTaken
  answer_in m (drafted o) (Look t a) = look_answer m.width (contents_in miss m (drafted o)) t a
  answer_in m (changing o left) (Place o') = NotTaken
  answer_in m (changing o left) Accept = NotTaken
  answer_in m (changing o left) Discard = NotTaken
  answer_in m (changing o left) Step = unless (first (step_grounds left)) Done
  answer_in m (changing o left) Close = unless (first (close_grounds left)) Done
  answer_in m (changing o left) (Look t a) = look_answer m.width (contents_in miss m (changing o left)) t a

  -- What each call leaves.
  abbrev pub next_in : Model → Phase → Call → Model
  next_in m at_rest (Place o) = kept_if (first (order_grounds m.width m.capacity m.targets o)) m (enter_phase m (drafted o))
  next_in m at_rest Accept = m
  next_in m at_rest Discard = m
  next_in m at_rest Step = m
  next_in m at_rest Close = m
  next_in m at_rest (Look t a) = m
  next_in m (drafted o) (Place o') = m
  next_in m (drafted o) Accept = enter_phase m (changing o (length (order_steps miss m o)))
  next_in m (drafted o) Discard = enter_phase m at_rest
  next_in m (drafted o) Step = m
  next_in m (drafted o) Close = m
  next_in m (drafted o) (Look t a) = m
  next_in m (changing o left) (Place o') = m
  next_in m (changing o left) Accept = m
  next_in m (changing o left) Discard = m
  next_in m (changing o left) Step = kept_if (first (step_grounds left)) m (enter_phase m (changing o (left - 1)))
  next_in m (changing o left) Close =
      kept_if (first (close_grounds left)) m (model m.width m.capacity (coming o m.targets) at_rest)
  next_in m (changing o left) (Look t a) = m

  abbrev pub model_answer : Model → Call → Answer
  model_answer m call = answer_in m m.phase call

  abbrev pub model_next : Model → Call → Model
  model_next m call = next_in m m.phase call

  -- A chain of calls.
  abbrev pub model_after : Model → List Call → Model
  model_after m [] = m
  model_after m (call ∷ calls) = model_after (model_next m call) calls

  abbrev pub model_answers : Model → List Call → List Answer
  model_answers m [] = []
  model_answers m (call ∷ calls) = model_answer m call ∷ model_answers (model_next m call) calls
