-- Each call on the way to rest, from agreement with the model: none is refused once the order is not.
use Rattle.std.proofs.Common.{◌≡◌, ℕ, ◌-◌, ◌<◌, Bool, false, cond, eqb, List, Some, None, Ok, Err, Option, sym, ap, ◌∙◌, subst, arith}
use Rattle.std.proofs.lemmas.Bool.{ne_eqb}
use Rattle.rules.specs.declared.refusal.Refusal.{Refusal}
use Rattle.rules.specs.declared.refusal.Refusal.TheVariants.{StepsMismatch}
use Rattle.rules.specs.Refusals.{first}
use Rattle.memory.specs.Holding.{Counted}
use Rattle.plan.specs.Measures.{Misses}
use Rattle.model.specs.declared.answer.Answer.TheVariants.{Done, Refused}
use Rattle.model.specs.declared.answer.Forecast.{Forecast}
use Rattle.model.specs.declared.call.Call.TheVariants.{Place}
use Rattle.model.specs.declared.order.Order.{Order}
use Rattle.model.specs.Grounds.{order_grounds}
use Rattle.model.specs.Models.{at_rest, drafted, changing, model, coming, forecast, unless, kept_if}
use Rattle.model.specs.Sound.{Sound}
use Rattle.model.proofs.Models.{next_sound}
use Rattle.switch.specs.declared.state.Changing.{Changing}
use Rattle.switch.specs.declared.state.Draft.{Draft}
use Rattle.switch.specs.declared.state.Refused as refused
use Rattle.switch.specs.declared.state.Resting.{Resting}
use Rattle.switch.specs.declared.state.State.TheVariants as state
use Rattle.switch.specs.Calls.{place_grounds, forecast_of, accept_desk, step_refusal, step_desk, step_held, close_refusal, close_desk}
use Rattle.switch.specs.Desks.{Desk, View}
use Rattle.switch.specs.Kept.{Kept}
use Rattle.switch.proofs.Carrying.{accepted, stepped, closed_by}

module _ (miss : Misses) (W R : ℕ) (ts : List (Option ℕ)) (o : Order) where
  -- ---- the order

  pub record Draws (draft : Draft) (d : Desk) (v : View) : Type 0 where
    pub free : first (order_grounds W R ts o) ≡ None
    pub tells : draft.forecast ≡ forecast miss (model W R ts at_rest) o
    pub kept : Kept miss (model W R ts (drafted o)) (state.Drafted draft) d v

  pub draws : (resting : Resting) (d : Desk) (v : View) → Kept miss (model W R ts at_rest) (state.Resting resting) d v
      → (draft : Draft) → None ≡ first (place_grounds d o) → draft.forecast ≡ forecast_of miss d o → Draws draft d v
  draws resting d v h draft e f =
      let u = h.under in
      let free : first (order_grounds W R ts o) ≡ None = sym (e ∙ ap (λ (x : Desk). first (place_grounds x o)) u.register) in
      let tells : draft.forecast ≡ forecast miss (model W R ts at_rest) o = f ∙ ap (λ (x : Desk). forecast_of miss x o) u.register in
      let sound : Sound miss (model W R ts (drafted o))
      = subst (λ (g : Option Refusal). Sound miss (kept_if g (model W R ts at_rest) (model W R ts (drafted o)))) free (next_sound miss (model W R ts at_rest) (Place o) u.sound) in
      record {
        free = free;
        tells = tells;
        kept = record { under = record { sound = sound; register = u.register; limit = u.limit; holds = u.holds }; state = tells };
      }

  -- ---- as far as the first step

  pub under_way : (resting : Resting) (d d' : Desk) (v : View) → Kept miss (model W R ts at_rest) (state.Resting resting) d v
      → (draft : Draft) → None ≡ first (place_grounds d o) → draft.forecast ≡ forecast_of miss d o
      → (c : Changing) → d' ≡ accept_desk miss d draft.forecast
      → (f : Forecast) → f ≡ draft.forecast → Kept miss (model W R ts (changing o f.steps)) (state.Changing c) d' v
  under_way resting d d' v h draft e t c q f same =
      let w = draws resting d v h draft e t in
      subst (λ (n : ℕ). Kept miss (model W R ts (changing o n)) (state.Changing c) d' v)
      (sym (ap (λ (x : Forecast). x.steps) (same ∙ w.tells))) (accepted miss d v draft c d' q (model W R ts (drafted o)) w.kept).kept

  -- ---- the steps

  module _ (left : ℕ) (pos : 0 < left) (c : Changing) (d d' : Desk) (v v' : View) (h : Kept miss (model W R ts (changing o left)) (state.Changing c) d v)
      (counted : ∥ Counted v.held v.size ∥₁) (q : d' ≡ step_desk d v) (held : (x l : ℕ) → v'.held x l ≡ step_held d v x l) (limit : v'.limit ≡ v.limit) where
    some_left : eqb left 0 ≡ false
    some_left = ne_eqb left 0 (λ e. omega arith)

    pub steps_on : (c' : Changing) → None ≡ step_refusal d v → Kept miss (model W R ts (changing o (left - 1))) (state.Changing c') d' v'
    steps_on c' e =
        subst (λ (b : Bool). Kept miss (kept_if (cond b (Some StepsMismatch) None) (model W R ts (changing o left)) (model W R ts (changing o (left - 1)))) (state.Changing c') d' v')
        some_left (stepped miss d v c c' d' v' (Ok c') counted e q held limit (model W R ts (changing o left)) h).kept

    pub never_stuck : (e : refused.Refused Changing) → Some e.why ≡ step_refusal d v → ⊥
    never_stuck e f =
        let a : Refused e.why ≡ Done
        = subst (λ (b : Bool). Refused e.why ≡ unless (cond b (Some StepsMismatch) None) Done) some_left
        (stepped miss d v c c d' v' (Err e) counted f q held limit (model W R ts (changing o left)) h).answered in
        let z : ◌≡◌ {A = ℕ} 0 1 = cc in
        omega arith

  -- ---- the close

  module _ (c : Changing) (d d' : Desk) (v : View) (h : Kept miss (model W R ts (changing o 0)) (state.Changing c) d v) (q : d' ≡ close_desk d) where
    pub closes : (resting : Resting) → None ≡ close_refusal d → Kept miss (model W R (coming o ts) at_rest) (state.Resting resting) d' v
    closes resting e = (closed_by miss d v c resting d' e q (model W R ts (changing o 0)) h).kept

    pub never_open : {why : Refusal} → Some why ≡ close_refusal d → ⊥
    never_open {why} f =
        let n : Some why ≡ None = f ∙ ap close_refusal h.under.register in
        let z : ◌≡◌ {A = ℕ} 0 1 = cc in
        omega arith
