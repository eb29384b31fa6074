-- The plan of all services of a switch, whose tables share a memory of R rules: the worst miss, the weights and their rules.
use Rattle.std.specs.Prelude.{◌≡◌, ℕ, ◌^◌, ◌≤◌, max, Bool, List, [], ◌∷◌, Some, None, Option, nat_le, nat_lt}
use Rattle.rules.specs.Shortest.{L}
use Rattle.plan.specs.ByTag.{total, any, by_tag, Every, Each}
use Rattle.plan.specs.Measures.{Misses}
use Rattle.plan.specs.Nearest.{Nearest, Least, Reaches, nearest, least, need}

-- How many services there are.
abbrev pub services : List (Option ℕ) → ℕ
services ts = total (λ c. 1) ts

-- Some target is above n.
abbrev pub beyond : ℕ → List (Option ℕ) → Bool
beyond n ts = any (λ c. nat_lt n c) ts

-- No target is above 2 ^ W.
abbrev pub Targets : ℕ → List (Option ℕ) → Type 0
Targets W ts = Every (λ c. c ≤ 2 ^ W) ts

-- ---- by computation

-- What all targets together need to miss by at most e.
unfoldable pub needs : Misses → ℕ → ℕ → List (Option ℕ) → ℕ
needs miss W e ts = total (λ c. need miss W c e) ts

-- The worst miss, E: the least whole number at which the needs come to at most R. At 2 ^ 40 one rule does for each service.
unfoldable pub worst_miss : Misses → ℕ → ℕ → List (Option ℕ) → ℕ
worst_miss miss W R ts = least (λ e. nat_le (needs miss W e ts) R) 0 (2 ^ 40)

-- Each service gets the nearest weight with as many rules as it needs to miss by at most e.
unfoldable pub weights_for : Misses → ℕ → ℕ → List (Option ℕ) → List (Option ℕ)
weights_for miss W e ts = by_tag (λ c. nearest miss W c (need miss W c e)) ts

unfoldable pub plan_weights : Misses → ℕ → ℕ → List (Option ℕ) → List (Option ℕ)
plan_weights miss W R ts = weights_for miss W (worst_miss miss W R ts) ts

-- The rules of the shortest tables of some weights.
abbrev pub rule_total : ℕ → List (Option ℕ) → ℕ
rule_total W ds = total (L W) ds

-- The largest miss of weights ds for targets ts, 0 with no service.
abbrev pub largest_miss : Misses → ℕ → List (Option ℕ) → List (Option ℕ) → ℕ
largest_miss miss W [] ds = 0
largest_miss miss W (t ∷ ts) [] = 0
largest_miss miss W (None ∷ ts) (d ∷ ds) = largest_miss miss W ts ds
largest_miss miss W (Some c ∷ ts) (None ∷ ds) = largest_miss miss W ts ds
largest_miss miss W (Some c ∷ ts) (Some d ∷ ds) = max (miss W c d) (largest_miss miss W ts ds)

-- ---- in words

-- The weight d that a target c is given where the worst miss is e: it has just as many rules as c needs, and is the nearest with so many.
pub record Given (miss : Misses) (W e c d : ℕ) : Type 0 where
  pub counted : L W d ≡ need miss W c e
  pub closest : Nearest miss W c (need miss W c e) d

-- What makes weights ds with T rules the plan of targets ts, E being the worst miss. A need is the least number of rules that comes within e of a
-- target; E is the least whole number at which the needs come to at most R; each service has the weight that it is given at E; no service misses
-- by more than E, and one by just that, or E is 0 with none; T counts the rules, and is at most R.
pub record Plan (miss : Misses) (W R : ℕ) (ts ds : List (Option ℕ)) (E T : ℕ) : Type 0 where
  pub need_is : (e : ℕ) → Every (λ c. Least (Reaches miss W c e) (need miss W c e)) ts
  pub least_worst : Least (λ e. needs miss W e ts ≤ R) E
  pub given : Each (Given miss W E) ts ds
  pub largest : largest_miss miss W ts ds ≡ E
  pub counted : rule_total W ds ≡ T
  pub room : T ≤ R
