-- The weights next to a target on either side that so many rules can give.
use Rattle.std.specs.Prelude.{ℕ, ◌^◌, ◌<◌, ◌≤◌}
use Rattle.rules.specs.Shortest.{L}

-- The nearest weight at or below the target c with at most n rules.
pub record Lighter (W c n d : ℕ) : Type 0 where
  pub below : d ≤ c
  pub short : L W d ≤ n
  pub nearest : (x : ℕ) → d < x → x ≤ c → n < L W x

-- The nearest weight at or above it.
pub record Heavier (W c n d : ℕ) : Type 0 where
  pub above : c ≤ d
  pub weight : d ≤ 2 ^ W
  pub short : L W d ≤ n
  pub nearest : (x : ℕ) → c ≤ x → x < d → n < L W x
