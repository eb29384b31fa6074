-- The services that an order makes of the standing ones fit the switch as those did.
use Rattle.std.proofs.Common.{◌≡◌, ℕ, zero, suc, ◌+◌, ◌^◌, ◌<◌, ◌≤◌, Bool, true, false, cond, not, ltb, List, [], ◌∷◌, length, set, replicate, Some, None, Option, refl, ap, ◌∙◌, arith}
use Rattle.std.proofs.lemmas.List.{length-set}
use Rattle.std.proofs.lemmas.Bool.{or_parts, or_from, ltb-false, not-false}
use Rattle.rules.specs.declared.refusal.Refusal.{Refusal}
use Rattle.rules.specs.Refusals.{first}
use Rattle.plan.specs.Plans.{services, beyond}
use Rattle.model.specs.declared.order.Order.{Order}
use Rattle.model.specs.declared.order.Order.TheVariants.{Enter, Reweigh, Withdraw}
use Rattle.model.specs.Grounds.{registered, order_grounds}
use Rattle.model.specs.Models.{coming}
use Rattle.model.specs.Sound.{Fitting}

-- A ground that does not fit leaves it to those behind it.
pub past : (b : Bool) (why : Refusal) (o : Option Refusal) → cond b (Some why) o ≡ None → (b ≡ false) × (o ≡ None)
past true why o e = cc
past false why o e = (refl, e)

-- ---- one service set

pub enter_services : (ts : List (Option ℕ)) (t c : ℕ) → t < length ts → registered ts t ≡ false → services (set ts t (Some c)) ≡ services ts + 1
enter_services [] t c h e = absurd (omega arith)
enter_services (None ∷ ts) zero c h e = omega arith
enter_services (Some d ∷ ts) zero c h e = cc
enter_services (None ∷ ts) (suc t) c h e = enter_services ts t c (omega arith) e
enter_services (Some d ∷ ts) (suc t) c h e = omega (arith, enter_services ts t c (omega arith) e)

pub reweigh_services : (ts : List (Option ℕ)) (t c : ℕ) → registered ts t ≡ true → services (set ts t (Some c)) ≡ services ts
reweigh_services [] t c e = cc
reweigh_services (None ∷ ts) zero c e = cc
reweigh_services (Some d ∷ ts) zero c e = refl
reweigh_services (None ∷ ts) (suc t) c e = reweigh_services ts t c e
reweigh_services (Some d ∷ ts) (suc t) c e = ap (λ (n : ℕ). 1 + n) (reweigh_services ts t c e)

pub withdraw_services : (ts : List (Option ℕ)) (t : ℕ) → services (set ts t None) ≤ services ts
withdraw_services [] t = omega arith
withdraw_services (None ∷ ts) zero = omega arith
withdraw_services (Some d ∷ ts) zero = omega arith
withdraw_services (None ∷ ts) (suc t) = withdraw_services ts t
withdraw_services (Some d ∷ ts) (suc t) = omega (arith, withdraw_services ts t)

pub set_beyond : (n : ℕ) (ts : List (Option ℕ)) (t c : ℕ) → ltb n c ≡ false → beyond n ts ≡ false → beyond n (set ts t (Some c)) ≡ false
set_beyond n [] t c h e = refl
set_beyond n (None ∷ ts) zero c h e = or_from (ltb n c) (beyond n ts) h e
set_beyond n (Some d ∷ ts) zero c h e = or_from (ltb n c) (beyond n ts) h (or_parts (ltb n d) (beyond n ts) e).1
set_beyond n (None ∷ ts) (suc t) c h e = set_beyond n ts t c h e
set_beyond n (Some d ∷ ts) (suc t) c h e =
    let p = or_parts (ltb n d) (beyond n ts) e in
    or_from (ltb n d) (beyond n (set ts t (Some c))) p.0 (set_beyond n ts t c h p.1)

pub unset_beyond : (n : ℕ) (ts : List (Option ℕ)) (t : ℕ) → beyond n ts ≡ false → beyond n (set ts t None) ≡ false
unset_beyond n [] t e = refl
unset_beyond n (None ∷ ts) zero e = e
unset_beyond n (Some d ∷ ts) zero e = (or_parts (ltb n d) (beyond n ts) e).1
unset_beyond n (None ∷ ts) (suc t) e = unset_beyond n ts t e
unset_beyond n (Some d ∷ ts) (suc t) e =
    let p = or_parts (ltb n d) (beyond n ts) e in
    or_from (ltb n d) (beyond n (set ts t None)) p.0 (unset_beyond n ts t p.1)

-- ---- services that fit a switch

blank_beyond : (n k : ℕ) → beyond n (replicate k None) ≡ false
blank_beyond n zero = refl
blank_beyond n (suc k) = blank_beyond n k

blank_services : (k : ℕ) → services (replicate k None) ≡ 0
blank_services zero = refl
blank_services (suc k) = blank_services k

pub none_fitting : (W R : ℕ) → Fitting W R (replicate 64 None)
none_fitting W R = record { long = refl; fit = blank_beyond (2 ^ W) 64; room = omega (arith, blank_services 64) }

-- An order that is not refused leaves services that fit.
pub order_fitting : (W R : ℕ) (ts : List (Option ℕ)) (o : Order) → Fitting W R ts → first (order_grounds W R ts o) ≡ None → Fitting W R (coming o ts)
order_fitting W R ts (Enter t c) h e =
    let (a, e₁) = past (ltb 63 t) _ _ e in
    let (b, e₂) = past (ltb (2 ^ W) c) _ _ e₁ in
    let (k, e₃) = past (registered ts t) _ _ e₂ in
    let (n, e₄) = past (ltb R (services ts + 1)) _ _ e₃ in
    let low : t < length ts = omega (arith, h.long, ltb-false 63 t a) in
    record {
      long = length-set ts t (Some c) ∙ h.long;
      fit = set_beyond (2 ^ W) ts t c b h.fit;
      room = omega (arith, enter_services ts t c low k, ltb-false R (services ts + 1) n);
    }
order_fitting W R ts (Reweigh t c) h e =
    let (a, e₁) = past (ltb 63 t) _ _ e in
    let (b, e₂) = past (ltb (2 ^ W) c) _ _ e₁ in
    let (k, e₃) = past (not (registered ts t)) _ _ e₂ in
    record {
      long = length-set ts t (Some c) ∙ h.long;
      fit = set_beyond (2 ^ W) ts t c b h.fit;
      room = omega (arith, reweigh_services ts t c (not-false (registered ts t) k), h.room);
    }
order_fitting W R ts (Withdraw t) h e =
    record {
      long = length-set ts t None ∙ h.long;
      fit = unset_beyond (2 ^ W) ts t h.fit;
      room = omega (arith, withdraw_services ts t, h.room);
    }
