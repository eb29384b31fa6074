-- Lists of grounds, one behind the other.
use Rattle.std.proofs.Common.{◌≡◌, ℕ, Bool, true, false, cond, List, [], ◌∷◌, ◌++◌, Some, None, refl, arith}
use Rattle.rules.specs.declared.refusal.Refusal.{Refusal}
use Rattle.rules.specs.Refusals.{Ground, ◌when◌, first}

-- the first list decides where it refuses
pub refused_by : (why : Refusal) (gs hs : List Ground) → Some why ≡ first gs → Some why ≡ first (gs ++ hs)
refused_by why [] hs e = let z : ◌≡◌ {A = ℕ} 0 1 = cc in absurd (omega arith)
refused_by why ((g when b) ∷ gs) hs e = go b e (refused_by why gs hs)
  where
    go : (b : Bool) → Some why ≡ cond b (Some g) (first gs) → (Some why ≡ first gs → Some why ≡ first (gs ++ hs))
        → Some why ≡ cond b (Some g) (first (gs ++ hs))
    go true e ih = e
    go false e ih = ih e

-- and else leaves it to the second
pub passed_by : (gs hs : List Ground) → None ≡ first gs → first (gs ++ hs) ≡ first hs
passed_by [] hs e = refl
passed_by ((g when b) ∷ gs) hs e = go b e (passed_by gs hs)
  where
    go : (b : Bool) → None ≡ cond b (Some g) (first gs) → (None ≡ first gs → first (gs ++ hs) ≡ first hs) → cond b (Some g) (first (gs ++ hs)) ≡ first hs
    go true e ih = let z : ◌≡◌ {A = ℕ} 0 1 = cc in absurd (omega arith)
    go false e ih = ih e
