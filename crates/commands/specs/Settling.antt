-- An order run to rest, as the model sees it.
use Rattle.std.specs.Prelude.{◌≡◌, ℕ, List, Some, None, Option, Result, MatchResult}
use Rattle.rules.specs.Refusals.{first}
use Rattle.plan.specs.Measures.{Misses}
use Rattle.model.specs.declared.answer.Forecast.{Forecast}
use Rattle.model.specs.declared.order.Order.{Order}
use Rattle.model.specs.Grounds.{order_grounds}
use Rattle.model.specs.Models.{at_rest, changing, model, coming, forecast}
use Rattle.switch.specs.declared.state.Changing.{Changing}
use Rattle.switch.specs.declared.state.Refused.{Refused}
use Rattle.switch.specs.declared.state.Resting.{Resting}
use Rattle.switch.specs.declared.state.State.{State}
use Rattle.switch.specs.declared.state.State.TheVariants as state
use Rattle.switch.specs.Desks.{Desk, View}
use Rattle.switch.specs.Kept.{Kept}

-- From a switch at rest that agrees with the model: the order is refused on the first ground that fits, and the switch is as it was; or it is carried
-- out, the forecast is what the model forecasts, and the switch rests with the coming services.
abbrev pub Settled : Misses → Order → Resting → Desk → Desk → View → View → Result (Resting × Forecast) (Refused State) → Type 0
Settled miss o resting d d' v v' r =
    (W R : ℕ) (ts : List (Option ℕ)) → Kept miss (model W R ts at_rest) (state.Resting resting) d v
    → MatchResult r
    (λ x. (first (order_grounds W R ts o) ≡ None) × (x.1 ≡ forecast miss (model W R ts at_rest) o) × Kept miss (model W R (coming o ts) at_rest) (state.Resting x.0) d' v')
    (λ e. (first (order_grounds W R ts o) ≡ Some e.why) × Kept miss (model W R ts at_rest) e.state d' v')

-- From a change with so many steps left that agrees with the model, all of them are taken; and then it is closed.
abbrev pub AllStepped : ℕ → Changing → Desk → Desk → View → View → Result Changing (Refused Changing) → Type 0
AllStepped steps c d d' v v' r =
    (miss : Misses) (W R : ℕ) (ts : List (Option ℕ)) (o : Order) → Kept miss (model W R ts (changing o steps)) (state.Changing c) d v
    → MatchResult r (λ c'. Kept miss (model W R ts (changing o 0)) (state.Changing c') d' v') (λ _. ⊥)
