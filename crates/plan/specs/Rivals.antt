-- No other way to use the rule memory is better than the plan.
use Rattle.std.specs.Prelude.{◌≡◌, ℕ, ◌≤◌, true, List, reverse, length, Option}
use Rattle.rules.specs.declared.rule.Rule.{Rule}
use Rattle.rules.specs.Prefixes.{all_fit, Covers, weight}
use Rattle.rules.specs.Tables.{table}
use Rattle.plan.specs.ByTag.{total, by_tag, Each}
use Rattle.plan.specs.Measures.{Misses}
use Rattle.plan.specs.Plans.{largest_miss}

-- Rules inside the addresses of one service that match all of them, in any order, the first match deciding.
pub record Whole (W : ℕ) (rs : List Rule) : Type 0 where
  pub fit : all_fit W rs ≡ true
  pub covers : Covers W rs

-- A rival plan: such a list for each service, and at most R rules in all.
pub record Rival (W R : ℕ) (ts : List (Option ℕ)) (rs : List (Option (List Rule))) : Type 0 where
  pub lists : Each (λ c r. Whole W r) ts rs
  pub room : total length rs ≤ R

-- The largest miss of what the lists weigh.
abbrev pub rival_miss : Misses → ℕ → List (Option ℕ) → List (Option (List Rule)) → ℕ
rival_miss miss W ts rs = largest_miss miss W ts (by_tag (weight W) rs)

-- The tables of some weights. From the back, the first match is the longest prefix.
abbrev pub tables : ℕ → List (Option ℕ) → List (Option (List Rule))
tables W ds = by_tag (λ d. reverse (table W d)) ds

-- Weights ds with T rules and the worst miss E are the best for targets ts: their tables make such a plan, with this worst miss and so many rules.
-- Every rival has at least this worst miss, and where it has just that, at least as many rules.
pub record Best (miss : Misses) (W R : ℕ) (ts ds : List (Option ℕ)) (E T : ℕ) : Type 0 where
  pub own : Rival W R ts (tables W ds)
  pub own_miss : rival_miss miss W ts (tables W ds) ≡ E
  pub own_rules : total length (tables W ds) ≡ T
  pub least_miss : (rs : List (Option (List Rule))) → Rival W R ts rs → E ≤ rival_miss miss W ts rs
  pub then_fewest : (rs : List (Option (List Rule))) → Rival W R ts rs → rival_miss miss W ts rs ≡ E → T ≤ total length rs
