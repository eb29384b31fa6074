-- An order is refused by its own grounds, or by those of the plan that it brings.
use Rattle.std.proofs.Common.{◌≡◌, ℕ, ◌^◌, ◌<◌, ◌≤◌, false, cond, not, ltb, List, length, set, Some, None, Option, sym, ap, ◌∙◌, ap₂, arith}
use Rattle.std.proofs.lemmas.Bool.{or_from, ltb-false, le-ltb, not-false, cond-false}
use Rattle.rules.specs.declared.refusal.Refusal.{Refusal}
use Rattle.rules.specs.declared.refusal.Refusal.TheVariants.{TagOutOfRange, BeyondWidth, AlreadyRegistered, NotRegistered, TooManyServices}
use Rattle.rules.specs.Grounds.{bad_width}
use Rattle.rules.specs.Refusals.{first}
use Rattle.plan.specs.Grounds.{plan_grounds}
use Rattle.plan.specs.Measures.{Misses, Lawful}
use Rattle.plan.specs.Plans.{services, beyond, plan_weights}
use Rattle.model.specs.declared.order.Order.{Order}
use Rattle.model.specs.declared.order.Order.TheVariants.{Enter, Reweigh, Withdraw}
use Rattle.model.specs.Grounds.{registered, order_grounds}
use Rattle.model.specs.Models.{coming}
use Rattle.model.specs.Sound.{Fitting}
use Rattle.model.proofs.Orders.{past, enter_services, reweigh_services, withdraw_services, set_beyond, unset_beyond, order_fitting}
use Rattle.model.proofs.Plans.{planned}
use Rattle.switch.specs.Prospects.{admit_grounds}

-- of services that fit, the plan refuses only too many
plan_refusal : (W R : ℕ) (cs : List (Option ℕ)) → 1 ≤ W → W ≤ 24 → beyond (2 ^ W) cs ≡ false → first (plan_grounds W R cs) ≡ cond (ltb R (services cs)) (Some TooManyServices) None
plan_refusal W R cs low high fit =
    cond-false (bad_width W) _ _ (or_from (ltb W 1) (ltb 24 W) (le-ltb W 1 low) (le-ltb 24 W high)) ∙ cond-false (beyond (2 ^ W) cs) _ _ fit

module _ (W R : ℕ) (ts : List (Option ℕ)) (low : 1 ≤ W) (high : W ≤ 24) (f : Fitting W R ts) where
  enough : (cs : List (Option ℕ)) → beyond (2 ^ W) cs ≡ false → services cs ≤ services ts → first (plan_grounds W R cs) ≡ None
  enough cs fit few =
      plan_refusal W R cs low high fit ∙ cond-false (ltb R (services cs)) _ _ (le-ltb R (services cs) (omega (arith, f.room)))

  pub plan_decides : (o : Order) → first (admit_grounds W ts o) ≡ None → first (plan_grounds W R (coming o ts)) ≡ first (order_grounds W R ts o)
  plan_decides (Enter t c) e =
      let (a, e₁) = past (ltb 63 t) TagOutOfRange _ e in
      let (b, e₂) = past (ltb (2 ^ W) c) BeyondWidth _ e₁ in
      let (k, e₃) = past (registered ts t) AlreadyRegistered _ e₂ in
      let in_list : t < length ts = omega (arith, f.long, ltb-false 63 t a) in
      plan_refusal W R (set ts t (Some c)) low high (set_beyond (2 ^ W) ts t c b f.fit)
      ∙ ap (λ (n : ℕ). cond (ltb R n) (Some TooManyServices) None) (enter_services ts t c in_list k)
      ∙ sym (cond-false (ltb 63 t) _ _ a ∙ cond-false (ltb (2 ^ W) c) _ _ b ∙ cond-false (registered ts t) _ _ k)
  plan_decides (Reweigh t c) e =
      let (a, e₁) = past (ltb 63 t) TagOutOfRange _ e in
      let (b, e₂) = past (ltb (2 ^ W) c) BeyondWidth _ e₁ in
      let (k, e₃) = past (not (registered ts t)) NotRegistered _ e₂ in
      enough (set ts t (Some c)) (set_beyond (2 ^ W) ts t c b f.fit) (omega (arith, reweigh_services ts t c (not-false (registered ts t) k))) ∙ sym e
  plan_decides (Withdraw t) e = enough (set ts t None) (unset_beyond (2 ^ W) ts t f.fit) (withdraw_services ts t) ∙ sym e

  module _ (miss : Misses) (lawful : Lawful miss) (o : Order) (admitted : first (admit_grounds W ts o) ≡ None) (V : ℕ) (cs : List (Option ℕ)) (v : V ≡ W) (e : cs ≡ coming o ts) where
    -- What the plan of the coming services answers is what the order is answered.
    pub plan_refuses : (x : Option Refusal) → x ≡ first (plan_grounds V R cs) → x ≡ first (order_grounds W R ts o)
    plan_refuses x h = h ∙ ap₂ (λ (w : ℕ) (zs : List (Option ℕ)). first (plan_grounds w R zs)) v e ∙ plan_decides o admitted

    -- No weight of the plan is above 2 ^ W.
    pub plan_fits : None ≡ first (plan_grounds V R cs) → (ds : List (Option ℕ)) → ds ≡ plan_weights miss V R cs → beyond (2 ^ W) ds ≡ false
    plan_fits h ds d =
        ap (beyond (2 ^ W)) (d ∙ ap₂ (λ (w : ℕ) (zs : List (Option ℕ)). plan_weights miss w R zs) v e)
        ∙ (planned miss lawful W R low high (coming o ts) (order_fitting W R ts o f (sym (plan_refuses None h)))).fit
