-- What the planner notes down for a service: its target, and by how much the nearest weights with 1 to 13 rules miss it.
use Rattle.std.specs.Prelude.{◌≡◌, ℕ, ◌+◌, ◌<◌, List, Option, nat_le, slice_index}
use Rattle.plan.specs.declared.reach.Reach.{Reach}
use Rattle.plan.specs.ByTag.{total, by_tag}
use Rattle.plan.specs.Measures.{Misses}
use Rattle.plan.specs.Nearest.{nearest, least}

pub record Noted (miss : Misses) (W c : ℕ) (r : Reach) : Type 0 where
  pub width : r.target.width.bits ≡ W
  pub target : r.target.addresses ≡ c
  pub misses : (n : ℕ) → n < 13 → slice_index r.misses n ≡ miss W c (nearest miss W c (n + 1))

-- One more than the place of the first miss of at most e, or 13.
abbrev pub need_in : List ℕ → ℕ → ℕ
need_in misses e = 1 + least (λ n. nat_le (slice_index misses n) e) 0 12

-- What all services need to miss by at most e.
abbrev pub noted_needs : List (Option Reach) → ℕ → ℕ
noted_needs rs e = total (λ r. need_in r.misses e) rs

-- The nearest weights with as many rules as each service needs to miss by at most e.
abbrev pub noted_weights : Misses → ℕ → List (Option Reach) → List (Option ℕ)
noted_weights miss e rs = by_tag (λ r. nearest miss r.target.width.bits r.target.addresses (need_in r.misses e)) rs
