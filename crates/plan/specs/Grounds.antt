-- The grounds on which a plan is refused, in their order.
use Rattle.std.specs.Prelude.{ℕ, ◌^◌, List, [], ◌∷◌, Option, nat_lt}
use Rattle.rules.specs.declared.refusal.Refusal.TheVariants.{WidthOutOfRange, BeyondWidth, TooManyServices}
use Rattle.rules.specs.Grounds.{bad_width}
use Rattle.rules.specs.Refusals.{Ground, ◌when◌}
use Rattle.plan.specs.Plans.{services, beyond}

-- A width of 1 to 24, targets of at most 2 ^ W, and a rule for each service.
abbrev pub plan_grounds : ℕ → ℕ → List (Option ℕ) → List Ground
plan_grounds W R ts =
    (WidthOutOfRange when bad_width W) ∷ (BeyondWidth when beyond (2 ^ W) ts) ∷ (TooManyServices when nat_lt R (services ts)) ∷ []
