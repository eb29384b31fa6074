-- What one service needs, under any lawful measure.
use Rattle.std.proofs.Common.{◌≡◌, ℕ, ◌+◌, ◌-◌, ◌^◌, ◌<◌, ◌≤◌, true, leb, subst, arith}
use native.Mathlib.Decide.{dec_le}
use Rattle.rules.specs.Shortest.{L}
use Rattle.rules.proofs.Fewness.{L_none, L_most}
use Rattle.plan.specs.Measures.{Misses, Lawful}
use Rattle.plan.specs.Nearest.{Nearest, Least, Reaches, nearest, need}
use Rattle.plan.specs.Plans.{Given}
use Rattle.plan.proofs.LeastNumbers.{LeastFrom, least_is, leb_from_le, le_from_leb}
use Rattle.plan.proofs.NearestLaws.{nearest_is, nearest_one}
use Rattle.plan.specs.Ranged.{inside_range}

pub L_pos : (W d : ℕ) → 1 ≤ L W d
unfolding L
L_pos W d = omega arith

module _ (miss : Misses) (lawful : Lawful miss) (W : ℕ) (low : 1 ≤ W) (high : W ≤ 24) where
  hit : (c : ℕ) → c ≤ 2 ^ W → miss W c c ≡ 0
  hit c h = lawful.exact W c (inside_range W c c (record { some = low; most = high; target = h; weight = h }))

  reached : (c e n : ℕ) → 0 < n → miss W c (nearest miss W c n) ≤ e → Reaches miss W c e n
  reached c e n p h = (nearest miss W c n, nearest_is miss W c n p, h)

  reaches_pos : (c e n : ℕ) → Reaches miss W c e n → 0 < n
  reaches_pos c e n (d, i, h) = omega (arith, L_pos W d, i.short)

  reaches_le : (c e n : ℕ) → Reaches miss W c e n → miss W c (nearest miss W c n) ≤ e
  reaches_le c e n (d, i, h) =
      let p : 0 < n = reaches_pos c e n (d, i, h) in
      let s = nearest_one miss W c n d (nearest miss W c n) i (nearest_is miss W c n p) in
      subst (λ (x : ℕ). miss W c x ≤ e) s h

  need_least : (c e : ℕ) → c ≤ 2 ^ W → LeastFrom (λ n. leb (miss W c (nearest miss W c n)) e) 1 (need miss W c e)
  unfolding need
  need_least c e h =
      let s : L W c ≡ 1 + (L W c - 1) = omega (arith, L_pos W c) in
      let i = nearest_is miss W c (L W c) (L_pos W c) in
      let a : miss W c (nearest miss W c (L W c)) ≤ e = omega (arith, i.least_miss c h (omega arith), hit c h) in
      let b : leb (miss W c (nearest miss W c (1 + (L W c - 1)))) e ≡ true =
      subst (λ (n : ℕ). leb (miss W c (nearest miss W c n)) e ≡ true) s (leb_from_le (miss W c (nearest miss W c (L W c))) e a) in
      least_is (λ n. leb (miss W c (nearest miss W c n)) e) 1 (L W c - 1) b

  pub need_pos : (c e : ℕ) → c ≤ 2 ^ W → 0 < need miss W c e
  need_pos c e h = (need_least c e h).from

  pub need_miss : (c e : ℕ) → c ≤ 2 ^ W → miss W c (nearest miss W c (need miss W c e)) ≤ e
  need_miss c e h = le_from_leb (miss W c (nearest miss W c (need miss W c e))) e (need_least c e h).holds

  -- fewer rules do not do
  pub need_before : (c e n : ℕ) → c ≤ 2 ^ W → 0 < n → n < need miss W c e → e < miss W c (nearest miss W c n)
  need_before c e n h p l = go (dec_le (miss W c (nearest miss W c n)) e)
    where
      go : Dec (miss W c (nearest miss W c n) ≤ e) → e < miss W c (nearest miss W c n)
      go (no q) = omega arith
      go (yes q) = absurd (omega (arith, (need_least c e h).first n p (leb_from_le (miss W c (nearest miss W c n)) e q)))

  pub need_is : (c e : ℕ) → c ≤ 2 ^ W → Least (Reaches miss W c e) (need miss W c e)
  need_is c e h = record {
    holds = reached c e (need miss W c e) (need_pos c e h) (need_miss c e h);
    first = λ k r. (need_least c e h).first k (reaches_pos c e k r) (leb_from_le (miss W c (nearest miss W c k)) e (reaches_le c e k r));
  }

  -- a weight that misses by no more has at least as many rules
  pub need_first : (c e x : ℕ) → c ≤ 2 ^ W → x ≤ 2 ^ W → miss W c x ≤ e → need miss W c e ≤ L W x
  need_first c e x h l m =
      let i = nearest_is miss W c (L W x) (L_pos W x) in
      (need_is c e h).first (L W x) (reached c e (L W x) (L_pos W x) (omega (arith, i.least_miss x l (omega arith))))

  pub need_nearest : (c e : ℕ) → c ≤ 2 ^ W → Nearest miss W c (need miss W c e) (nearest miss W c (need miss W c e))
  need_nearest c e h = nearest_is miss W c (need miss W c e) (need_pos c e h)

  -- and the nearest weight has just as many
  pub need_exact : (c e : ℕ) → c ≤ 2 ^ W → L W (nearest miss W c (need miss W c e)) ≡ need miss W c e
  need_exact c e h =
      let i = need_nearest c e h in
      omega (arith, i.short, need_first c e (nearest miss W c (need miss W c e)) h i.weight (need_miss c e h))

  pub given_is : (c e : ℕ) → c ≤ 2 ^ W → Given miss W e c (nearest miss W c (need miss W c e))
  given_is c e h = record { counted = need_exact c e h; closest = need_nearest c e h }

  -- one rule comes within 2 ^ 40, and never are more than 13 wanted
  pub need_one : (c : ℕ) → c ≤ 2 ^ W → need miss W c (2 ^ 40) ≡ 1
  need_one c h =
      omega (arith, need_first c (2 ^ 40) 0 h (omega arith) (lawful.bounded W c 0), L_none W, need_pos c (2 ^ 40) h)

  pub need_most : (c e : ℕ) → c ≤ 2 ^ W → need miss W c e ≤ 13
  need_most c e h = omega (arith, need_first c e c h h (omega (arith, hit c h)), L_most W c high h)
