-- The grounds for a refusal that the calls of this crate try, each list in its order.
use Rattle.std.specs.Prelude.{ℕ, ◌^◌, Bool, not, ◌||◌, List, [], ◌∷◌, length, ◌==◌, nat_lt}
use Rattle.rules.specs.declared.refusal.Refusal.TheVariants.{WidthOutOfRange, BeyondWidth, RuleCountOutOfRange, BrokenLayout}
use Rattle.rules.specs.declared.rule.Rule.{Rule}
use Rattle.rules.specs.Prefixes.{all_fit}
use Rattle.rules.specs.Refusals.{Ground, ◌when◌}

-- A width is 1 to 24.
abbrev pub bad_width : ℕ → Bool
bad_width W = nat_lt W 1 || nat_lt 24 W

abbrev pub width_grounds : ℕ → List Ground
width_grounds W = (WidthOutOfRange when bad_width W) ∷ []

-- A width and a weight or target, which is at most 2 ^ W.
abbrev pub weight_grounds : ℕ → ℕ → List Ground
weight_grounds W d = (WidthOutOfRange when bad_width W) ∷ (BeyondWidth when nat_lt (2 ^ W) d) ∷ []

-- A width, a target and a rule limit, which is not 0.
abbrev pub limit_grounds : ℕ → ℕ → ℕ → List Ground
limit_grounds W c n = (WidthOutOfRange when bad_width W) ∷ (BeyondWidth when nat_lt (2 ^ W) c) ∷ (RuleCountOutOfRange when n == 0) ∷ []

-- A width and a list to count: at most 1,024 rules, each by the layout.
abbrev pub count_grounds : ℕ → List Rule → List Ground
count_grounds W rs =
    (WidthOutOfRange when bad_width W) ∷ (RuleCountOutOfRange when nat_lt 1024 (length rs)) ∷ (BrokenLayout when not (all_fit W rs)) ∷ []
