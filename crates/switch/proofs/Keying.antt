-- Keys of tables that fit the width.
use Rattle.std.proofs.Common.{◌≡◌, ℕ, zero, suc, ◌^◌, ◌≤◌, false, List, [], ◌∷◌, get_or, Some, None, Option, arith}
use Rattle.plan.specs.ByTag.{Every}
use Rattle.plan.specs.Plans.{beyond}
use Rattle.plan.proofs.ByTags.{none_above}

-- no weight is above 2 ^ W where none is beyond it
weight_at : (W : ℕ) (ds : List (Option ℕ)) (i d : ℕ) → Every (λ d. d ≤ 2 ^ W) ds → get_or ds i None ≡ Some d → d ≤ 2 ^ W
weight_at W [] i d h e = cc
weight_at W (None ∷ ds) zero d h e = cc
weight_at W (Some x ∷ ds) zero d (h, hs) e = let z : x ≡ d = cc in omega arith
weight_at W (None ∷ ds) (suc i) d h e = weight_at W ds i d h e
weight_at W (Some x ∷ ds) (suc i) d (h, hs) e = weight_at W ds i d hs e

pub fit_at : (W : ℕ) (ds : List (Option ℕ)) (i d : ℕ) → beyond (2 ^ W) ds ≡ false → get_or ds i None ≡ Some d → d ≤ 2 ^ W
fit_at W ds i d h e = weight_at W ds i d (none_above (2 ^ W) ds h) e
