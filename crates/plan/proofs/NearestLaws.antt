-- What the nearest weight by computation is, in words; and that it is the only one.
use Rattle.std.proofs.Common.{◌≡◌, ℕ, zero, suc, ◌^◌, ◌<◌, ◌≤◌, Bool, true, false, cond, ◌&&◌, leb, ◌⊎◌, sym, refl, ap, subst, inl, inr, arith}
use native.Mathlib.Decide.{dec_le}
use Rattle.std.proofs.lemmas.Bool.Decides.{nat_tests}
use Rattle.rules.specs.Shortest.{L}
use Rattle.rules.proofs.Fewness.{L_none}
use Rattle.plan.specs.Measures.{Misses, dist}
use Rattle.plan.specs.Nearest.{Nearest, ahead, best_up_to, nearest}

-- ---- which of two weights is ahead

abbrev pub Ahead : Misses → ℕ → ℕ → ℕ → ℕ → Type 0
Ahead miss W c x y = (miss W c x < miss W c y) ⊎ ((miss W c x ≡ miss W c y) × (dist x c < dist y c))

-- x is not ahead of y
abbrev pub Behind : Misses → ℕ → ℕ → ℕ → ℕ → Type 0
Behind miss W c x y = (miss W c y < miss W c x) ⊎ ((miss W c x ≡ miss W c y) × (dist y c ≤ dist x c))

pub ahead_true : (miss : Misses) (W c x y : ℕ) → ahead miss W c x y ≡ true → Ahead miss W c x y
ahead_true miss W c x y e = go (dec_le (miss W c y) (miss W c x))
  where
    go : Dec (miss W c y ≤ miss W c x) → Ahead miss W c x y
    go (no p) = inl (omega arith)
    go (yes p) = inr (grind (arith, nat_tests), grind (arith, nat_tests))

pub ahead_false : (miss : Misses) (W c x y : ℕ) → ahead miss W c x y ≡ false → Behind miss W c x y
ahead_false miss W c x y e = go (dec_le (miss W c x) (miss W c y))
  where
    go : Dec (miss W c x ≤ miss W c y) → Behind miss W c x y
    go (no p) = inl (omega arith)
    go (yes p) = inr (grind (arith, nat_tests), grind (arith, nat_tests))

-- ---- the best of the weights up to k

record Best (miss : Misses) (W c n k d : ℕ) : Type 0 where
  weight : d ≤ k
  short : L W d ≤ n
  least_miss : (x : ℕ) → x ≤ k → L W x ≤ n → miss W c d ≤ miss W c x
  then_closest : (x : ℕ) → x ≤ k → L W x ≤ n → miss W c x ≡ miss W c d → dist d c ≤ dist x c
  then_smaller : (x : ℕ) → x ≤ k → L W x ≤ n → miss W c x ≡ miss W c d → dist x c ≡ dist d c → d ≤ x

module _ (miss : Misses) (W c n : ℕ) where
  last_or : (k x : ℕ) → x ≤ suc k → (x ≤ k) ⊎ (suc k ≡ x)
  last_or k x h = go (dec_le x k)
    where
      go : Dec (x ≤ k) → (x ≤ k) ⊎ (suc k ≡ x)
      go (yes p) = inl p
      go (no p) = inr (omega arith)

  take_it : (k u : ℕ) → Best miss W c n k u → L W (suc k) ≤ n → Ahead miss W c (suc k) u → Best miss W c n (suc k) (suc k)
  take_it k u i s a = record {
    weight = omega arith;
    short = s;
    least_miss = λ x h l. miss_le x l a (last_or k x h);
    then_closest = λ x h l e. dist_le x l e a (last_or k x h);
    then_smaller = λ x h l e f. smaller x l e f a (last_or k x h);
  }
    where
      miss_le : (x : ℕ) → L W x ≤ n → Ahead miss W c (suc k) u → (x ≤ k) ⊎ (suc k ≡ x) → miss W c (suc k) ≤ miss W c x
      miss_le x l (inl a) (inl p) = omega (arith, i.least_miss x p l)
      miss_le x l (inr (a, b)) (inl p) = omega (arith, i.least_miss x p l)
      miss_le x l a (inr e) = omega (arith, ap (miss W c) e)

      dist_le : (x : ℕ) → L W x ≤ n → miss W c x ≡ miss W c (suc k) → Ahead miss W c (suc k) u → (x ≤ k) ⊎ (suc k ≡ x)
          → dist (suc k) c ≤ dist x c
      dist_le x l e (inl a) (inl p) = absurd (omega (arith, i.least_miss x p l))
      dist_le x l e (inr (a, b)) (inl p) = omega (arith, b, i.then_closest x p l (omega arith))
      dist_le x l e a (inr f) = omega arith

      smaller : (x : ℕ) → L W x ≤ n → miss W c x ≡ miss W c (suc k) → dist x c ≡ dist (suc k) c → Ahead miss W c (suc k) u
          → (x ≤ k) ⊎ (suc k ≡ x) → suc k ≤ x
      smaller x l e f (inl a) (inl p) = absurd (omega (arith, i.least_miss x p l))
      smaller x l e f (inr (a, b)) (inl p) = absurd (omega (arith, b, f, i.then_closest x p l (omega arith)))
      smaller x l e f a (inr g) = omega arith

  keep_it : (k u : ℕ) → Best miss W c n k u → (L W (suc k) ≤ n → Behind miss W c (suc k) u) → Best miss W c n (suc k) u
  keep_it k u i a = record {
    weight = omega (arith, i.weight);
    short = i.short;
    least_miss = λ x h l. miss_le x l (last_or k x h);
    then_closest = λ x h l e. dist_le x l e (last_or k x h);
    then_smaller = λ x h l e f. smaller x l e f (last_or k x h);
  }
    where
      last : (x : ℕ) → suc k ≡ x → L W x ≤ n → Behind miss W c x u
      last x e = subst (λ (y : ℕ). L W y ≤ n → Behind miss W c y u) e a

      behind_miss : (x : ℕ) → Behind miss W c x u → miss W c u ≤ miss W c x
      behind_miss x (inl p) = omega arith
      behind_miss x (inr (p, q)) = omega arith

      behind_dist : (x : ℕ) → Behind miss W c x u → miss W c x ≡ miss W c u → dist u c ≤ dist x c
      behind_dist x (inl p) e = absurd (omega arith)
      behind_dist x (inr (p, q)) e = q

      miss_le : (x : ℕ) → L W x ≤ n → (x ≤ k) ⊎ (suc k ≡ x) → miss W c u ≤ miss W c x
      miss_le x l (inl p) = i.least_miss x p l
      miss_le x l (inr e) = behind_miss x (last x e l)

      dist_le : (x : ℕ) → L W x ≤ n → miss W c x ≡ miss W c u → (x ≤ k) ⊎ (suc k ≡ x) → dist u c ≤ dist x c
      dist_le x l e (inl p) = i.then_closest x p l e
      dist_le x l e (inr f) = behind_dist x (last x f l) e

      smaller : (x : ℕ) → L W x ≤ n → miss W c x ≡ miss W c u → dist x c ≡ dist u c → (x ≤ k) ⊎ (suc k ≡ x) → u ≤ x
      smaller x l e f (inl p) = i.then_smaller x p l e f
      smaller x l e f (inr g) = omega (arith, i.weight)

  best_up_to_is : 0 < n → (k : ℕ) → Best miss W c n k (best_up_to miss W c n k)
  unfolding best_up_to
  best_up_to_is h zero = record {
    weight = omega arith;
    short = omega (arith, L_none W);
    least_miss = λ x p l. let e : 0 ≡ x = omega arith in omega (arith, ap (miss W c) e);
    then_closest = λ x p l e. let f : 0 ≡ x = omega arith in omega arith;
    then_smaller = λ x p l e f. omega arith;
  }
  best_up_to_is h (suc k) =
      go (leb (L W (suc k)) n) (ahead miss W c (suc k) (best_up_to miss W c n k)) refl refl (best_up_to_is h k)
    where
      go : (a b : Bool) → leb (L W (suc k)) n ≡ a → ahead miss W c (suc k) (best_up_to miss W c n k) ≡ b → Best miss W c n k (best_up_to miss W c n k)
          → Best miss W c n (suc k) (cond (a && b) (suc k) (best_up_to miss W c n k))
      go true true p q i = take_it k (best_up_to miss W c n k) i (grind (arith, nat_tests)) (ahead_true miss W c (suc k) (best_up_to miss W c n k) q)
      go true false p q i = keep_it k (best_up_to miss W c n k) i (λ l. ahead_false miss W c (suc k) (best_up_to miss W c n k) q)
      go false b p q i = keep_it k (best_up_to miss W c n k) i (λ l. absurd (grind (arith, nat_tests)))

  pub nearest_is : 0 < n → Nearest miss W c n (nearest miss W c n)
  unfolding nearest
  nearest_is h =
      let i = best_up_to_is h (2 ^ W) in
      record { weight = i.weight; short = i.short; least_miss = i.least_miss; then_closest = i.then_closest; then_smaller = i.then_smaller }

  pub nearest_one : (x y : ℕ) → Nearest miss W c n x → Nearest miss W c n y → x ≡ y
  nearest_one x y i j =
      let a = i.least_miss y j.weight j.short in
      let b = j.least_miss x i.weight i.short in
      let e : miss W c x ≡ miss W c y = omega arith in
      let f = i.then_closest y j.weight j.short (sym e) in
      let g = j.then_closest x i.weight i.short e in
      let p = i.then_smaller y j.weight j.short (sym e) (omega (arith, f, g)) in
      let q = j.then_smaller x i.weight i.short e (omega (arith, f, g)) in
      omega arith
