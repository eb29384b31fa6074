-- The lines of a plan, and services by their order.
use Rattle.std.proofs.Common.{◌≡◌, ℕ, zero, suc, ◌-◌, ◌^◌, ◌<◌, ◌≤◌, List, [], ◌∷◌, ◌++◌, map, length, get_or, replicate, Some, None, Option, ◌⊎◌, inl, inr, sym, refl, ◌∙◌, arith, length-append}
use Rattle.std.specs.List.{slice_get}
use Rattle.std.proofs.lemmas.List.{length-map, length-replicate, same_lists, get_or_default}
use Rattle.plan.specs.ByTag.{Every, Each}
use Rattle.plan.specs.Measures.{Misses}
use Rattle.plan.specs.Plans.{Given}
use Rattle.shares.specs.Texts.{tagged, plan_lines}

-- ---- tags in order

none_at : (k j : ℕ) → get_or (replicate {A = Option ℕ} k None) j None ≡ None
none_at zero j = refl
none_at (suc k) zero = refl
none_at (suc k) (suc j) = none_at k j

tagged_at : (ts : List ℕ) (k j : ℕ) → get_or (map Some ts ++ replicate {A = Option ℕ} k None) j None ≡ slice_get ts j
tagged_at [] k j = none_at k j
tagged_at (t ∷ ts) k zero = refl
tagged_at (t ∷ ts) k (suc j) = tagged_at ts k j

tagged_long : (ts : List ℕ) → length ts ≤ 64 → length (tagged ts) ≡ 64
tagged_long ts h = omega (arith, length-append (map Some ts) (replicate {A = Option ℕ} (64 - length ts) None), length-map ts Some, length-replicate {A = Option ℕ} (64 - length ts) None)

pub tagged_is : (ts : List ℕ) (ds : List (Option ℕ)) → length ts ≤ 64 → length ds ≡ 64 → ((i : ℕ) → i < 64 → get_or ds i None ≡ slice_get ts i) → ds ≡ tagged ts
tagged_is ts ds few long h =
    same_lists ds (tagged ts) (omega (arith, tagged_long ts few))
    (λ k d l. get_or_default ds k d None l ∙ h k (omega arith) ∙ sym (tagged_at ts (64 - length ts) k)
    ∙ get_or_default (tagged ts) k None d (omega (arith, tagged_long ts few)))

-- ---- lines

pub lines_end : (W : ℕ) (ts : List ℕ) (ds : List (Option ℕ)) → (length ts ≡ 0) ⊎ (length ds ≡ 0) → plan_lines W ts ds ≡ []
lines_end W [] ds h = refl
lines_end W (t ∷ ts) [] h = refl
lines_end W (t ∷ ts) (d ∷ ds) (inl e) = absurd (omega arith)
lines_end W (t ∷ ts) (d ∷ ds) (inr e) = absurd (omega arith)

-- ---- weights

pub each_inside : (miss : Misses) (W E : ℕ) (ts ds : List (Option ℕ)) → Each (Given miss W E) ts ds → Every (λ d. d ≤ 2 ^ W) ds
each_inside miss W E [] [] h = tt
each_inside miss W E [] (d ∷ ds) h = absurd h
each_inside miss W E (t ∷ ts) [] h = absurd h
each_inside miss W E (None ∷ ts) (None ∷ ds) (h, hs) = each_inside miss W E ts ds hs
each_inside miss W E (None ∷ ts) (Some d ∷ ds) (h, hs) = absurd h
each_inside miss W E (Some c ∷ ts) (None ∷ ds) (h, hs) = absurd h
each_inside miss W E (Some c ∷ ts) (Some d ∷ ds) (h, hs) = (h.closest.weight, each_inside miss W E ts ds hs)
