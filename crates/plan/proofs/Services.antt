-- The services alone, in their order: what `flatten` leaves of a list by tag.
use Rattle.std.proofs.Common.{◌≡◌, ℕ, ◌≤◌, Bool, true, false, ◌||◌, cond, List, [], ◌∷◌, length, Some, None, Option, Bor, refl, sym, ap, ◌∙◌, subst, ap₂, arith}
use Rattle.std.proofs.lemmas.Fn.{fronts}
use Rattle.std.proofs.lemmas.Iterator.{YieldsList, YieldsList-from_slice}
use Rattle.std.proofs.lemmas.Iterator.Adapters.{YieldsList-from_flatten}
use Rattle.std.proofs.lemmas.Iterator.Consumers.{YieldsList-from_shown}
use Rattle.std.proofs.lemmas.List.Sums.{sum_by-cons}
use Rattle.std.specs.Bool.{MatchBool}
use Rattle.std.specs.Iterator.Adapters.{option_iter_item, option_iter_done, option_iter_steps, flatten_source, flatten_front, flatten_back, flatten_done, flatten_steps}
use Rattle.std.specs.List.{flat_map, sum_by, list_any}
use Rattle.std.specs.Option.{option_to_list, option_copied}
use Rattle.std.specs.Slice.Iter.{iter_rest}
use Rattle.plan.specs.ByTag.{total, any}

abbrev pub present : {X : Type 0} → List (Option X) → List X
present xs = flat_map option_to_list xs

pub total_present : {X : Type 0} (f : X → ℕ) (xs : List (Option X)) → sum_by f (present xs) ≡ total f xs
total_present f [] = refl
total_present f (None ∷ xs) = total_present f xs
total_present f (Some x ∷ xs) = omega (arith, sum_by-cons f x (present xs), total_present f xs)

-- what an option counts for in a sum over all tags
abbrev pub worth : {X : Type 0} → (X → ℕ) → Option X → ℕ
worth f None = 0
worth f (Some x) = f x

pub total_worth : {X : Type 0} (f : X → ℕ) (xs : List (Option X)) → sum_by (worth f) xs ≡ total f xs
total_worth f [] = refl
total_worth f (None ∷ xs) = omega (arith, sum_by-cons (worth f) None xs, total_worth f xs)
total_worth f (Some x ∷ xs) = omega (arith, sum_by-cons (worth f) (Some x) xs, total_worth f xs)

pub count_present : {X : Type 0} (xs : List (Option X)) → length (present xs) ≡ total (λ x. 1) xs
count_present [] = refl
count_present (None ∷ xs) = count_present xs
count_present (Some x ∷ xs) = omega (arith, count_present xs)

pub any_present : {X : Type 0} (p : X → Bool) (xs : List (Option X)) → list_any p (present xs) ≡ any p xs
any_present p [] = refl
any_present p (None ∷ xs) = any_present p xs
any_present p (Some x ∷ xs) = ap (λ (b : Bool). p x || b) (any_present p xs)

pub present_few : {X : Type 0} (xs : List (Option X)) → length (present xs) ≤ length xs
present_few [] = omega arith
present_few (None ∷ xs) = omega (arith, present_few xs)
present_few (Some x ∷ xs) = omega (arith, present_few xs)

-- ---- the chain

shown_none : {X : Type 0} (b : Bool) (o : Option X) → MatchBool b (◌≡◌ {A = Option (Bor X)} None None) (option_copied {T = X} None ≡ o) → length (cond b [] (option_to_list o)) ≡ 0
shown_none true o p = refl
shown_none false o p = ap (λ k. length (option_to_list k)) (sym p)

shown_some : {X : Type 0} (b : Bool) (o : Option X) (x : Bor X) (d : Bool) (k : Option X) → d ≡ true → MatchBool b (◌≡◌ {A = Option (Bor X)} (Some x) None) (option_copied (Some x) ≡ o)
    → cond b [] (option_to_list o) ≡ x.now ∷ cond d [] (option_to_list k)
shown_some true o x d k t p = absurd (let z : ◌≡◌ {A = ℕ} 0 1 = cc in omega arith)
shown_some {X} false o x d k t p =
    ap (λ (v : Option X). option_to_list v) (sym p) ∙ ap (λ (c : Bool). x.now ∷ cond c [] (option_to_list k)) (sym t)

-- what a reference to an option gives
option_yields : {X : Type 0} {j : _} (o : Option X) → option_iter_item j ≡ o → option_iter_done j ≡ false → YieldsList option_iter_steps (λ y. y.now) j (option_to_list o)
option_yields {X} {j} o e d =
    subst (λ l. YieldsList (option_iter_steps {A = X}) (λ y. y.now) j l) (ap₂ (λ (b : Bool) (k : Option X). cond b [] (option_to_list k)) d e)
    (YieldsList-from_shown (option_iter_steps {A = X}) (λ y. y.now) (λ u. cond (option_iter_done u) [] (option_to_list (option_iter_item u)))
    (λ u t p. shown_none (option_iter_done u) (option_iter_item u) p.1)
    (λ u x t p. shown_some (option_iter_done u) (option_iter_item u) x (option_iter_done t) (option_iter_item t) p.0 p.1) j)

pub YieldsList-from_present : {X : Type 0} {s : _} (becomes : Bor (Option X) → _ → Type 0)
    → ((x : Bor (Option X)) (j : _) → becomes x j → (option_iter_item j ≡ x.now) × (option_iter_done j ≡ false))
    → (xs : List (Option X)) → iter_rest (flatten_source s) ≡ xs → flatten_front s ≡ None → flatten_back s ≡ None → flatten_done s ≡ false
    → YieldsList (flatten_steps fronts becomes option_iter_steps) (λ y. y.now) s (present xs)
YieldsList-from_present {X} becomes h xs e f b d =
    YieldsList-from_flatten becomes option_iter_steps (λ y. y.now) option_to_list (λ x j k. let p = h x j k in option_yields x.now p.0 p.1) (YieldsList-from_slice xs e) f b d
