-- Worked figures, for the definitions.
use Rattle.std.specs.Prelude.{◌≡◌, ℕ, List, [], ◌∷◌, Some, Option}
use Rattle.rules.specs.declared.rule.Rule.{Rule}
use Rattle.rules.specs.declared.server.Server.{Server}
use Rattle.rules.specs.declared.server.Server.TheVariants.{One, Two}
use Rattle.rules.specs.Tables.{table}
use Rattle.plan.specs.Even.{even}
use Rattle.plan.specs.Nearest.{nearest}
use Rattle.plan.specs.Plans.{worst_miss, plan_weights, rule_total}
use Rattle.plan.specs.Relative.{relative}

-- The rule of the prefix s/l to a server.
abbrev pub prefix : ℕ → ℕ → Server → Rule
prefix s l x = record { start = s; length = l; server = x }

-- Two services with the same target.
abbrev pub twice : ℕ → List (Option ℕ)
twice c = Some c ∷ Some c ∷ []

pub record Figures : Type 0 where
  pub fifteen : table 5 15 ≡ prefix 0 0 Two ∷ prefix 0 1 One ∷ prefix 15 5 Two ∷ []
  pub fifth : table 8 51 ≡ prefix 0 0 Two ∷ prefix 0 2 One ∷ prefix 48 4 Two ∷ prefix 48 6 One ∷ prefix 51 8 Two ∷ []
  pub four_fifths : table 8 205 ≡ prefix 0 0 One ∷ prefix 192 2 Two ∷ prefix 192 4 One ∷ prefix 204 6 Two ∷ prefix 204 8 One ∷ []
  pub nothing : table 8 0 ≡ prefix 0 0 Two ∷ []
  pub all : table 8 256 ≡ prefix 0 0 One ∷ []
  pub half : table 8 128 ≡ prefix 0 0 Two ∷ prefix 0 1 One ∷ []
  pub all_but_one : table 8 255 ≡ prefix 0 0 One ∷ prefix 255 8 Two ∷ []
  pub even_steps : (nearest even 8 51 1 ≡ 0) × (nearest even 8 51 2 ≡ 64) × (nearest even 8 51 3 ≡ 48) × (nearest even 8 51 4 ≡ 50)
  pub relative_step : (nearest relative 8 51 2 ≡ 32) × (relative 8 51 32 ≡ 92) × (relative 8 51 64 ≡ 254)
  pub tie_to_smaller : (nearest even 8 128 1 ≡ 0) × (nearest relative 8 128 1 ≡ 0)
  pub not_chopped : (nearest even 8 11 2 ≡ 8) × (nearest relative 8 11 2 ≡ 8)
  pub none_raised : (worst_miss even 8 3 (twice 51) ≡ 51) × (rule_total 8 (plan_weights even 8 3 (twice 51)) ≡ 2)
