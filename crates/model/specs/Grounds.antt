-- The grounds for a refusal that the calls of a switch try, each list in its order. The model has no other; a memory's own come behind them.
use Rattle.std.specs.Prelude.{ℕ, ◌+◌, ◌^◌, Bool, not, List, [], ◌∷◌, is_some, None, Option, ◌==◌, nat_le, nat_lt, slice_index_or}
use Rattle.rules.specs.declared.refusal.Refusal.TheVariants.{WidthOutOfRange, MemoryNotEmpty, StepsMismatch, TagOutOfRange, BeyondWidth, AlreadyRegistered, NotRegistered, TooManyServices}
use Rattle.rules.specs.Grounds.{bad_width}
use Rattle.rules.specs.Refusals.{Ground, ◌when◌}
use Rattle.plan.specs.Plans.{services}
use Rattle.model.specs.declared.order.Order.{Order}
use Rattle.model.specs.declared.order.Order.TheVariants.{Enter, Reweigh, Withdraw}

-- There is a service under the tag t, where ts has the targets by tag.
abbrev pub registered : List (Option ℕ) → ℕ → Bool
registered ts t = is_some (slice_index_or ts t None)

-- An order, at width W and capacity R, where the services that stand have the targets ts.
abbrev pub order_grounds : ℕ → ℕ → List (Option ℕ) → Order → List Ground
order_grounds W R ts (Enter t c) =
    (TagOutOfRange when nat_lt 63 t) ∷ (BeyondWidth when nat_lt (2 ^ W) c) ∷ (AlreadyRegistered when registered ts t) ∷ (TooManyServices when nat_lt R (services ts + 1)) ∷ []
order_grounds W R ts (Reweigh t c) =
    (TagOutOfRange when nat_lt 63 t) ∷ (BeyondWidth when nat_lt (2 ^ W) c) ∷ (NotRegistered when not (registered ts t)) ∷ []
order_grounds W R ts (Withdraw t) = (TagOutOfRange when nat_lt 63 t) ∷ (NotRegistered when not (registered ts t)) ∷ []

-- A step and a close, with so many steps left.
abbrev pub step_grounds : ℕ → List Ground
step_grounds left = (StepsMismatch when left == 0) ∷ []

abbrev pub close_grounds : ℕ → List Ground
close_grounds left = (StepsMismatch when nat_lt 0 left) ∷ []

-- A look under the tag t at the address a.
abbrev pub look_grounds : ℕ → ℕ → ℕ → List Ground
look_grounds W t a = (TagOutOfRange when nat_lt 63 t) ∷ (BeyondWidth when nat_le (2 ^ W) a) ∷ []

-- A making, with so many rules in the memory.
abbrev pub making_grounds : ℕ → ℕ → List Ground
making_grounds W count = (WidthOutOfRange when bad_width W) ∷ (MemoryNotEmpty when nat_lt 0 count) ∷ []
