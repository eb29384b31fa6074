-- How few rules can give server 1 a weight.
use Rattle.std.specs.Prelude.{◌≡◌, ℕ, ◌+◌, ◌-◌, ◌^◌, ◌≤◌, min, true, List, length}
use Rattle.rules.specs.declared.rule.Rule.{Rule}
use Rattle.rules.specs.Digits.{D}
use Rattle.rules.specs.Prefixes.{all_fit, Covers, weight}

-- L W d, the fewest rules: one for all addresses, and one for each digit of what server 1 gets or of what it does not get.
unfoldable pub L : ℕ → ℕ → ℕ
L W d = 1 + min (D d) (D (2 ^ W - d))

-- A list of rules, in any order, the first match deciding, that leaves no address out and gives server 1 d addresses.
pub record Splits (W d : ℕ) (rs : List Rule) : Type 0 where
  pub fit : all_fit W rs ≡ true
  pub covers : Covers W rs
  pub exact : weight W rs ≡ d

-- No such list has fewer than n rules.
abbrev pub LeastRules : ℕ → ℕ → ℕ → Type 0
LeastRules W d n = (rs : List Rule) → Splits W d rs → n ≤ length rs
