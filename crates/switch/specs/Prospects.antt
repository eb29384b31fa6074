-- The grounds that an order meets ahead of those of its plan.
use Rattle.std.specs.Prelude.{ℕ, ◌^◌, not, List, [], ◌∷◌, Option, nat_lt}
use Rattle.rules.specs.declared.refusal.Refusal.TheVariants.{TagOutOfRange, BeyondWidth, AlreadyRegistered, NotRegistered}
use Rattle.rules.specs.Refusals.{Ground, ◌when◌}
use Rattle.model.specs.declared.order.Order.{Order}
use Rattle.model.specs.declared.order.Order.TheVariants.{Enter, Reweigh, Withdraw}
use Rattle.model.specs.Grounds.{registered}

abbrev pub tag_grounds : ℕ → List Ground
tag_grounds t = (TagOutOfRange when nat_lt 63 t) ∷ []

abbrev pub service_grounds : ℕ → ℕ → ℕ → List Ground
service_grounds W t c = (TagOutOfRange when nat_lt 63 t) ∷ (BeyondWidth when nat_lt (2 ^ W) c) ∷ []

abbrev pub admit_grounds : ℕ → List (Option ℕ) → Order → List Ground
admit_grounds W ts (Enter t c) = (TagOutOfRange when nat_lt 63 t) ∷ (BeyondWidth when nat_lt (2 ^ W) c) ∷ (AlreadyRegistered when registered ts t) ∷ []
admit_grounds W ts (Reweigh t c) = (TagOutOfRange when nat_lt 63 t) ∷ (BeyondWidth when nat_lt (2 ^ W) c) ∷ (NotRegistered when not (registered ts t)) ∷ []
admit_grounds W ts (Withdraw t) = (TagOutOfRange when nat_lt 63 t) ∷ (NotRegistered when not (registered ts t)) ∷ []
