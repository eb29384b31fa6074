-- The weights next to a target that so many rules can give. What holds of server 1's addresses holds of server 2's from the other end.
use Rattle.std.proofs.Common.{◌≡◌, ℕ, zero, suc, ◌+◌, ◌-◌, ◌*◌, ◌/◌, ◌^◌, ◌<◌, ◌≤◌, Some, None, Option, MatchOption, unwrap_or, sym, ap, ◌∙◌, subst, add-mul, one-mul, div-mul-le_self, le_of_mul-le-mul_right, arith, pow_pos, pow-add}
use native.Mathlib.Decide.{dec_le}
use native.Mathlib.Nat.{div-eq_of_lt, div-eq_of_lt-le, lt-div-mul-add}
use Rattle.rules.specs.Digits.{D}
use Rattle.rules.specs.Nearby.{Lighter, Heavier}
use Rattle.rules.specs.Shortest.{L}
use Rattle.rules.proofs.Fewness.{L_none, L_all}
use Rattle.rules.proofs.Nearby.{floor_to, ceil_to, lighter, heavier}

-- ---- the other server's side

pub mirror_floor : (W c a : ℕ) → a ≤ W → c ≤ 2 ^ W → 2 ^ W - floor_to a c ≡ ceil_to a (2 ^ W - c)
mirror_floor W c a h k =
    let P : ℕ = 2 ^ a in
    let V : ℕ = 2 ^ (W - a) in
    let q : ℕ = c / 2 ^ a in
    let w : W ≡ (W - a) + a = omega arith in
    let s : 2 ^ W ≡ V * P = ap (λ (i : ℕ). 2 ^ i) w ∙ pow-add 2 (W - a) a in
    let pos = pow_pos a in
    let lo : q * P ≤ c = div-mul-le_self c (2 ^ a) in
    let hi : c < q * P + P = lt-div-mul-add {a = c} {b = 2 ^ a} pos in
    let qv : q ≤ V = le_of_mul-le-mul_right {k = 2 ^ a} (omega arith) pos in
    let j : ℕ = V - q in
    let v : V ≡ q + j = omega arith in
    let t : V * P ≡ q * P + j * P = ap (λ (i : ℕ). i * P) v ∙ add-mul q j P in
    let j1 : (j + 1) * P ≡ j * P + P = add-mul j 1 P ∙ ap (λ (i : ℕ). j * P + i) (one-mul P) in
    let d : (2 ^ W - c + (2 ^ a - 1)) / 2 ^ a ≡ j = div-eq_of_lt-le {k = j} (2 ^ a) (omega arith) (omega arith) in
    sym (ap (λ (i : ℕ). i * P) d ∙ omega arith)

pub floor_le : (a c : ℕ) → floor_to a c ≤ c
floor_le a c = div-mul-le_self c (2 ^ a)

-- ---- the next reachable weight

pub lighter_next : (W c n a : ℕ) → a ≤ W → c ≤ 2 ^ W → ((b : ℕ) → b < a → n < L W (floor_to b c))
    → (x : ℕ) → floor_to a c < x → x ≤ c → n < L W x
unfolding L
lighter_next W c zero a h k f x l u = omega arith
lighter_next W c (suc n) a h k f x l u = both
  where
    ones : n < D x
    ones = lighter a c n (λ b t. omega (arith, f b t)) x l u

    twos : n < D (2 ^ W - x)
    twos = heavier a (2 ^ W - c) n
        (λ b t. let m = ap D (mirror_floor W c b (omega arith) k) in omega (arith, f b t))
        (2 ^ W - x) (omega arith) (omega (arith, mirror_floor W c a h k))

    both : suc n < L W x
    both = omega (arith, ones, twos)

pub lighter_at : (W c n a : ℕ) → a ≤ W → c ≤ 2 ^ W → ((b : ℕ) → b < a → n < L W (floor_to b c)) → L W (floor_to a c) ≤ n → Lighter W c n (floor_to a c)
lighter_at W c n a h k f s = record { below = floor_le a c; short = s; nearest = lighter_next W c n a h k f }

-- At the full width only no addresses or all of them are left, and one rule gives those.
pub lighter_last : (W c n : ℕ) → c ≤ 2 ^ W → 0 < n → ((b : ℕ) → b < W → n < L W (floor_to b c)) → Lighter W c n (floor_to W c)
lighter_last W c n k p f = go (dec_le (2 ^ W) c)
  where
    go : Dec (2 ^ W ≤ c) → Lighter W c n (floor_to W c)
    go (yes q) =
        let e : c ≡ 2 ^ W = omega arith in
        let z = pow_pos W in
        let d : c / 2 ^ W ≡ 1 = div-eq_of_lt-le {k = 1} (2 ^ W) (omega (arith, one-mul (2 ^ W))) (omega arith) in
        let t : floor_to W c ≡ 2 ^ W = ap (λ (i : ℕ). i * 2 ^ W) d ∙ one-mul (2 ^ W) in
        lighter_at W c n W (omega arith) k f (omega (arith, ap (L W) t, L_all W))
    go (no q) =
        let t : floor_to W c ≡ 0 = ap (λ (i : ℕ). i * 2 ^ W) (div-eq_of_lt (omega arith)) ∙ omega arith in
        lighter_at W c n W (omega arith) k f (omega (arith, ap (L W) t, L_none W))

-- whether few enough rules give the number cut at the place a
abbrev pub Short : ℕ → ℕ → ℕ → ℕ → Type 0
Short W c n a = L W (floor_to a c) ≤ n

abbrev pub Long : ℕ → ℕ → ℕ → ℕ → Type 0
Long W c n a = n < L W (floor_to a c)

-- cut at the first place where they do, or else at the full width
pub lighter_found : (W c n m a : ℕ) (o : Option ℕ) → c ≤ 2 ^ W → 0 < n → m ≡ W → a ≡ unwrap_or o m
    → MatchOption o ((k : ℕ) → 0 ≤ k → k < m → Long W c n k) (λ i. (0 ≤ i) × (i < m) × Short W c n i × ((k : ℕ) → 0 ≤ k → k < i → Long W c n k))
    → (a ≤ W) × Lighter W c n (floor_to a c)
lighter_found W c n m a None h p e f all =
    let q : W ≡ a = omega arith in
    (omega arith, subst (λ (i : ℕ). Lighter W c n (floor_to i c)) q (lighter_last W c n h p (λ b t. all b (omega arith) (omega arith))))
lighter_found W c n m a (Some i) h p e f t =
    (omega arith, subst (λ (j : ℕ). Lighter W c n (floor_to j c)) (sym f) (lighter_at W c n i (omega arith) h (λ b l. t.3 b (omega arith) l) t.2))

-- ---- the other server's side of both

L_mirror : (W d : ℕ) → d ≤ 2 ^ W → L W (2 ^ W - d) ≡ L W d
unfolding L
L_mirror W d h = let e : 2 ^ W - (2 ^ W - d) ≡ d = omega arith in omega (arith, ap D e)

pub heavier_mirror : (W c n d : ℕ) → c ≤ 2 ^ W → Lighter W (2 ^ W - c) n d → Heavier W c n (2 ^ W - d)
heavier_mirror W c n d h t =
    let b = t.below in
    let s = t.short in
    record {
      above = omega arith;
      weight = omega arith;
      short = omega (arith, L_mirror W d);
      nearest = λ x l u. omega (arith, t.nearest (2 ^ W - x) (omega arith) (omega arith), L_mirror W x (omega arith));
    }
