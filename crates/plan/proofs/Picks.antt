-- The better of the nearest lighter and the nearest heavier weight is the nearest of all, by the measure's law alone.
use Rattle.std.proofs.Common.{◌≡◌, ℕ, ◌^◌, ◌≤◌, Bool, true, false, cond, ◌⊎◌, refl, inl, inr, arith}
use native.Mathlib.Decide.{dec_le}
use Rattle.rules.specs.Nearby.{Lighter, Heavier}
use Rattle.rules.specs.Shortest.{L}
use Rattle.plan.specs.Measures.{Misses, Lawful, in_range, dist}
use Rattle.plan.specs.Nearest.{Nearest, ahead, better}
use Rattle.plan.proofs.NearestLaws.{Ahead, Behind, ahead_true, ahead_false}
use Rattle.plan.specs.Ranged.{inside_range}

module _ (miss : Misses) (lawful : Lawful miss) (W c n a b : ℕ) (low : 1 ≤ W) (high : W ≤ 24) (h : c ≤ 2 ^ W)
    (i : Lighter W c n a) (j : Heavier W c n b) where
  -- a reachable weight lies beyond one of the two
  abbrev Beyond : ℕ → Type 0
  Beyond x = ((x ≤ a) × (miss W c a ≤ miss W c x)) ⊎ ((b ≤ x) × (miss W c b ≤ miss W c x))

  ranges : (x : ℕ) → x ≤ 2 ^ W → in_range W c x ≡ true
  ranges x k = inside_range W c x (record { some = low; most = high; target = h; weight = k })

  beyond : (x : ℕ) → x ≤ 2 ^ W → L W x ≤ n → Beyond x
  beyond x k l = go (dec_le x c) (dec_le x a) (dec_le b x)
    where
      go : Dec (x ≤ c) → Dec (x ≤ a) → Dec (b ≤ x) → Beyond x
      go (yes p) (yes q) r = inl (q, lawful.lighter W c x a (ranges x k) q i.below)
      go (yes p) (no q) r = absurd (omega (arith, i.nearest x (omega arith) p))
      go (no p) q (yes r) = inr (r, lawful.heavier W c x b (ranges x k) j.above r)
      go (no p) q (no r) = absurd (omega (arith, j.nearest x (omega arith) (omega arith)))

  heavy : Ahead miss W c b a → Nearest miss W c n b
  heavy t = record {
    weight = j.weight;
    short = j.short;
    least_miss = λ x k l. miss_le x t (beyond x k l);
    then_closest = λ x k l e. dist_le x e t (beyond x k l);
    then_smaller = λ x k l e f. smaller x e f t (beyond x k l);
  }
    where
      miss_le : (x : ℕ) → Ahead miss W c b a → Beyond x → miss W c b ≤ miss W c x
      miss_le x (inl u) (inl (p, q)) = omega arith
      miss_le x (inr (u, v)) (inl (p, q)) = omega arith
      miss_le x u (inr (p, q)) = q

      dist_le : (x : ℕ) → miss W c x ≡ miss W c b → Ahead miss W c b a → Beyond x → dist b c ≤ dist x c
      dist_le x e (inl u) (inl (p, q)) = absurd (omega arith)
      dist_le x e (inr (u, v)) (inl (p, q)) = omega (arith, i.below, j.above)
      dist_le x e u (inr (p, q)) = omega (arith, j.above)

      smaller : (x : ℕ) → miss W c x ≡ miss W c b → dist x c ≡ dist b c → Ahead miss W c b a → Beyond x → b ≤ x
      smaller x e f (inl u) (inl (p, q)) = absurd (omega arith)
      smaller x e f (inr (u, v)) (inl (p, q)) = absurd (omega (arith, i.below, j.above))
      smaller x e f u (inr (p, q)) = p

  light : Behind miss W c b a → Nearest miss W c n a
  light t = record {
    weight = omega (arith, i.below);
    short = i.short;
    least_miss = λ x k l. miss_le x t (beyond x k l);
    then_closest = λ x k l e. dist_le x e t (beyond x k l);
    then_smaller = λ x k l e f. smaller x f (beyond x k l);
  }
    where
      miss_le : (x : ℕ) → Behind miss W c b a → Beyond x → miss W c a ≤ miss W c x
      miss_le x u (inl (p, q)) = q
      miss_le x (inl u) (inr (p, q)) = omega arith
      miss_le x (inr (u, v)) (inr (p, q)) = omega arith

      dist_le : (x : ℕ) → miss W c x ≡ miss W c a → Behind miss W c b a → Beyond x → dist a c ≤ dist x c
      dist_le x e u (inl (p, q)) = omega (arith, i.below)
      dist_le x e (inl u) (inr (p, q)) = absurd (omega arith)
      dist_le x e (inr (u, v)) (inr (p, q)) = omega (arith, i.below, j.above)

      smaller : (x : ℕ) → dist x c ≡ dist a c → Beyond x → a ≤ x
      smaller x f (inl (p, q)) = omega (arith, i.below)
      smaller x f (inr (p, q)) = omega (arith, i.below, j.above)

  pub better_nearest : Nearest miss W c n (better miss W c a b)
  better_nearest = go (ahead miss W c b a) refl
    where
      go : (t : Bool) → ahead miss W c b a ≡ t → Nearest miss W c n (cond t b a)
      go true e = heavy (ahead_true miss W c b a e)
      go false e = light (ahead_false miss W c b a e)
