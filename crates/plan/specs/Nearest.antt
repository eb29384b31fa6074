-- The nearest weight to a target that so many rules can give, and how many rules come near enough.
use Rattle.std.specs.Prelude.{◌≡◌, ℕ, zero, suc, ◌-◌, ◌^◌, ◌≤◌, Bool, true, false, cond, ◌&&◌, ◌||◌, ◌==◌, nat_le, nat_lt}
use Rattle.rules.specs.Shortest.{L}
use Rattle.plan.specs.Measures.{Misses, dist}

-- ---- in words

-- d is the nearest weight to c with at most n rules: of all such weights it has the least miss, of those with that miss it is the closest to c,
-- and of two as close it is the smaller.
pub record Nearest (miss : Misses) (W c n d : ℕ) : Type 0 where
  pub weight : d ≤ 2 ^ W
  pub short : L W d ≤ n
  pub least_miss : (x : ℕ) → x ≤ 2 ^ W → L W x ≤ n → miss W c d ≤ miss W c x
  pub then_closest : (x : ℕ) → x ≤ 2 ^ W → L W x ≤ n → miss W c x ≡ miss W c d → dist d c ≤ dist x c
  pub then_smaller : (x : ℕ) → x ≤ 2 ^ W → L W x ≤ n → miss W c x ≡ miss W c d → dist x c ≡ dist d c → d ≤ x

-- n is the least number with P.
pub record Least (P : ℕ → Type 0) (n : ℕ) : Type 0 where
  pub holds : P n
  pub first : (k : ℕ) → P k → n ≤ k

-- The nearest weight to c with n rules misses by at most e.
abbrev pub Reaches : Misses → ℕ → ℕ → ℕ → ℕ → Type 0
Reaches miss W c e n = (d : ℕ) × Nearest miss W c n d × (miss W c d ≤ e)

-- ---- by computation

-- x is to be taken before y.
abbrev pub ahead : Misses → ℕ → ℕ → ℕ → ℕ → Bool
ahead miss W c x y = nat_lt (miss W c x) (miss W c y) || miss W c x == miss W c y && nat_lt (dist x c) (dist y c)

-- Of a lighter weight a and a heavier weight b, the heavier only where it is ahead.
abbrev pub better : Misses → ℕ → ℕ → ℕ → ℕ → ℕ
better miss W c a b = cond (ahead miss W c b a) b a

-- The best of the weights up to k with at most n rules. The weight 0 has one rule.
unfoldable pub best_up_to : Misses → ℕ → ℕ → ℕ → ℕ → ℕ
best_up_to miss W c n zero = 0
best_up_to miss W c n (suc k) =
    cond (nat_le (L W (suc k)) n && ahead miss W c (suc k) (best_up_to miss W c n k)) (suc k) (best_up_to miss W c n k)

-- The nearest weight: the best of all.
unfoldable pub nearest : Misses → ℕ → ℕ → ℕ → ℕ
nearest miss W c n = best_up_to miss W c n (2 ^ W)

-- The least number from k on that passes the test, or k + f where none before that does.
unfoldable pub least : (ℕ → Bool) → ℕ → ℕ → ℕ
least p k zero = k
least p k (suc f) = elim (p k) [ true ↦ k | false ↦ least p (suc k) f ]

-- The need of a target c: the least number of rules whose nearest weight misses by at most e. L W c rules give c itself.
unfoldable pub need : Misses → ℕ → ℕ → ℕ → ℕ
need miss W c e = least (λ n. nat_le (miss W c (nearest miss W c n)) e) 1 (L W c - 1)
