-- What a register's own invariant says of its numbers.
use Rattle.std.proofs.Common.{◌≡◌, ◌^◌, true, false, is_some, Some, None, Option, sym, refl, ap, ◌∙◌}
use Rattle.std.proofs.lemmas.Bool.{and_parts, not-true}
use Rattle.rules.specs.declared.refusal.Refusal.{Refusal}
use Rattle.plan.specs.Plans.{beyond}
use Rattle.model.specs.Models.{coming}
use Rattle.model.specs.Sound.{Fitting}
use Rattle.model.proofs.Orders.{order_fitting}
use Rattle.switch.specs.declared.change.Change.{Change}
use Rattle.switch.specs.declared.register.Register.{Register}
use Rattle.switch.specs.Changes.{change_fits}

pub fits : (r : Register) → Fitting r.width.bits r.capacity r.targets
fits r = record { long = r.targets_long; fit = r.targets_fit; room = r.room }

none_is : (o : Option Refusal) → is_some o ≡ false → o ≡ None
none_is None e = refl
none_is (Some x) e = cc

-- The coming services of a change fit, and so do its weights.
pub record Comes (r : Register) (c : Change) : Type 0 where
  pub services : Fitting r.width.bits r.capacity (coming c.order r.targets)
  pub weights : beyond (2 ^ r.width.bits) c.weights ≡ false

pub comes : (r : Register) (c : Change) → r.change ≡ Some c → Comes r c
comes r c e =
    let h : change_fits r.width.bits r.capacity r.targets (Some c) ≡ true =
    ap (change_fits r.width.bits r.capacity r.targets) (sym e) ∙ r.change_fits in
    let (a, b) = and_parts _ _ h in
    record {
      services = order_fitting r.width.bits r.capacity r.targets c.order (fits r) (none_is _ (not-true _ a));
      weights = not-true _ b;
    }
