-- Lists by tag, one tag after the other.
use Rattle.std.proofs.Common.{◌≡◌, ℕ, zero, suc, ◌<◌, ◌≤◌, Bool, true, false, ◌||◌, ltb, List, [], ◌∷◌, length, get_or, drop, Some, None, Option, IfSome, refl, ap, subst, ap₂, arith}
use Rattle.std.proofs.lemmas.List.{at_drop_all}
use Rattle.std.proofs.lemmas.Bool.Decides.{nat_tests}
use Rattle.plan.specs.ByTag.{total, any, on, by_tag, Every, Both, Each}

pub total_all : {X : Type 0} (f : X → ℕ) (xs : List (Option X)) (i : ℕ) → length xs ≤ i → total f (drop i xs) ≡ 0
total_all f xs i h = at_drop_all (total f) xs i h

-- no number is above n
pub none_above : (n : ℕ) (ts : List (Option ℕ)) → any (λ c. ltb n c) ts ≡ false → Every (λ c. c ≤ n) ts
none_above n [] e = tt
none_above n (None ∷ ts) e = none_above n ts e
none_above n (Some c ∷ ts) e = go (ltb n c) refl e (none_above n ts)
  where
    go : (b : Bool) → ltb n c ≡ b → (b || any (λ c. ltb n c) ts) ≡ false → (any (λ c. ltb n c) ts ≡ false → Every (λ c. c ≤ n) ts)
        → (c ≤ n) × Every (λ c. c ≤ n) ts
    go true p q more = absurd (grind (arith, nat_tests))
    go false p q more = (grind (arith, nat_tests), more q)

-- ---- what holds at a tag

pub every_at : {X : Type 0} (P : X → Type 0) (xs : List (Option X)) (i : ℕ) (x : X) → Every P xs → get_or xs i None ≡ Some x → P x
every_at P [] i x h e = absurd (let z : ◌≡◌ {A = ℕ} 0 1 = cc in omega arith)
every_at P (None ∷ xs) zero x h e = absurd (let z : ◌≡◌ {A = ℕ} 0 1 = cc in omega arith)
every_at P (Some y ∷ xs) zero x (h, k) e = let z : y ≡ x = cc in subst P z h
every_at P (None ∷ xs) (suc i) x h e = every_at P xs i x h e
every_at P (Some y ∷ xs) (suc i) x (h, k) e = every_at P xs i x k e

pub every_if : {X : Type 0} (P : X → Type 0) (xs : List (Option X)) (i : ℕ) → Every P xs → IfSome (get_or xs i None) P
every_if P [] i h = tt
every_if P (None ∷ xs) zero h = tt
every_if P (Some x ∷ xs) zero (h, k) = h
every_if P (None ∷ xs) (suc i) h = every_if P xs i h
every_if P (Some x ∷ xs) (suc i) (h, k) = every_if P xs i k

-- P and Q of the pairs, one behind the other
pub each_then : {X Y Z : Type 0} (P : X → Y → Type 0) (Q : Y → Z → Type 0) (R : X → Z → Type 0) → ((x : X) (y : Y) (z : Z) → P x y → Q y z → R x z)
    → (xs : List (Option X)) (ys : List (Option Y)) (zs : List (Option Z)) → Each P xs ys → Each Q ys zs → Each R xs zs
each_then P Q R f [] [] [] h k = tt
each_then P Q R f [] [] (z ∷ zs) h k = absurd k
each_then P Q R f [] (y ∷ ys) zs h k = absurd h
each_then P Q R f (x ∷ xs) [] zs h k = absurd h
each_then P Q R f (x ∷ xs) (y ∷ ys) [] h k = absurd k
each_then P Q R f (None ∷ xs) (None ∷ ys) (None ∷ zs) (a, h) (b, k) = (tt, each_then P Q R f xs ys zs h k)
each_then P Q R f (None ∷ xs) (None ∷ ys) (Some z ∷ zs) (a, h) (b, k) = absurd b
each_then P Q R f (None ∷ xs) (Some y ∷ ys) (z ∷ zs) (a, h) (b, k) = absurd a
each_then P Q R f (Some x ∷ xs) (None ∷ ys) (z ∷ zs) (a, h) (b, k) = absurd a
each_then P Q R f (Some x ∷ xs) (Some y ∷ ys) (None ∷ zs) (a, h) (b, k) = absurd b
each_then P Q R f (Some x ∷ xs) (Some y ∷ ys) (Some z ∷ zs) (a, h) (b, k) = (f x y z a b, each_then P Q R f xs ys zs h k)

pub each_by : {X Y : Type 0} (P : X → Y → Type 0) (xs : List (Option X)) (ys : List (Option Y)) → length xs ≡ length ys
    → ((i : ℕ) → i < length xs → Both P (get_or xs i None) (get_or ys i None)) → Each P xs ys
each_by P [] [] e h = tt
each_by P [] (y ∷ ys) e h = absurd (omega arith)
each_by P (x ∷ xs) [] e h = absurd (omega arith)
each_by P (x ∷ xs) (y ∷ ys) e h = (h 0 (omega arith), each_by P xs ys (omega arith) (λ i l. h (suc i) (omega arith)))

pub by_tag_by : {X Y : Type 0} (f : X → Y) (xs : List (Option X)) (ys : List (Option Y)) → length xs ≡ length ys
    → ((i : ℕ) → i < length xs → get_or ys i None ≡ on f (get_or xs i None)) → ys ≡ by_tag f xs
by_tag_by f [] [] e h = refl
by_tag_by f [] (y ∷ ys) e h = absurd (omega arith)
by_tag_by f (x ∷ xs) [] e h = absurd (omega arith)
by_tag_by f (x ∷ xs) (y ∷ ys) e h = ap₂ (λ z zs. z ∷ zs) (h 0 (omega arith)) (by_tag_by f xs ys (omega arith) (λ i l. h (suc i) (omega arith)))

module _ {X Y : Type 0} (f : X → Y) where
  pub by_tag_long : (xs : List (Option X)) → length (by_tag f xs) ≡ length xs
  by_tag_long [] = refl
  by_tag_long (x ∷ xs) = ap suc (by_tag_long xs)

  pub by_tag_at : (xs : List (Option X)) (i : ℕ) → get_or (by_tag f xs) i None ≡ on f (get_or xs i None)
  by_tag_at [] i = refl
  by_tag_at (x ∷ xs) zero = refl
  by_tag_at (x ∷ xs) (suc i) = by_tag_at xs i
