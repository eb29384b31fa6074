-- The nearest numbers with so many digits: cut off below, fill up above, at the first place that leaves few enough.
use Rattle.std.proofs.Common.{◌≡◌, ℕ, zero, suc, ◌+◌, ◌-◌, ◌*◌, ◌/◌, ◌^◌, ◌<◌, ◌≤◌, min, refl, ap, inl, inr, lt_of_mul-lt-mul_right, pow-suc, arith, pow_pos}
use native.Mathlib.Decide.{dec_le}
use Rattle.rules.specs.Digits.{D}
use Rattle.rules.proofs.DigitCount.{D_even, D_odd, D_scale, double_power, Parity, parity}

-- the multiples of 2 ^ a next to c, below and above
abbrev pub floor_to : ℕ → ℕ → ℕ
floor_to a c = c / 2 ^ a * 2 ^ a

abbrev pub ceil_to : ℕ → ℕ → ℕ
ceil_to a c = (c + (2 ^ a - 1)) / 2 ^ a * 2 ^ a

-- at the multiples themselves one less at most
edge : (b m z : ℕ) → (0 < z → z < 2 ^ b → D (2 * m + 1) ≤ D (m * 2 ^ b + z)) → z ≤ 2 ^ b → D (2 * m + 1) ≤ D (m * 2 ^ b + z) + 1
edge b m z ih h = go (dec_le z 0) (dec_le (2 ^ b) z)
  where
    o : D (2 * m + 1) ≡ 1 + min (D m) (D (m + 1))
    o = D_odd (2 * m + 1) m refl

    go : Dec (z ≤ 0) → Dec (2 ^ b ≤ z) → D (2 * m + 1) ≤ D (m * 2 ^ b + z) + 1
    go (yes p) d = let e : m * 2 ^ b + z ≡ m * 2 ^ b = omega arith in omega (arith, ap D e, D_scale b m, o)
    go (no p) (yes q) = let e : m * 2 ^ b + z ≡ (m + 1) * 2 ^ b = omega arith in omega (arith, ap D e, D_scale b (m + 1), o)
    go (no p) (no q) = let t = ih (omega arith) (omega arith) in omega arith

-- a number strictly between two neighbouring multiples of 2 ^ b has no fewer digits than the one midway
between : (b m y : ℕ) → 0 < y → y < 2 ^ b → D (2 * m + 1) ≤ D (m * 2 ^ b + y)
between zero m y h k = absurd (omega arith)
between (suc b) m y h k = go (parity y) (λ z. between b m z)
  where
    go : Parity y → ((z : ℕ) → 0 < z → z < 2 ^ b → D (2 * m + 1) ≤ D (m * 2 ^ b + z))
        → D (2 * m + 1) ≤ D (m * 2 ^ suc b + y)
    go (inl (t, e)) ih =
        let i = ih t (omega arith) (omega (arith, pow-suc 2 b)) in
        let d = D_even (m * 2 ^ suc b + y) (m * 2 ^ b + t) (omega (arith, double_power m b)) in
        omega arith
    go (inr (t, e)) ih =
        let i = edge b m t (ih t) (omega (arith, pow-suc 2 b)) in
        let j = edge b m (t + 1) (ih (t + 1)) (omega (arith, pow-suc 2 b)) in
        let d = D_odd (m * 2 ^ suc b + y) (m * 2 ^ b + t) (omega (arith, double_power m b)) in
        let s : m * 2 ^ b + t + 1 ≡ m * 2 ^ b + (t + 1) = omega arith in
        omega (arith, ap D s)

-- The multiples of P and of 2 * P at or below c are at most P apart: where they differ, the first is odd.
below_odd : (P f g c x : ℕ) → f * P ≤ c → c < g * (2 * P) + 2 * P → g * (2 * P) < x → x ≤ f * P → f ≡ 2 * g + 1
below_odd P f g c x h k l m =
    let a : 2 * g * P < f * P = omega arith in
    let b : f * P < (2 * g + 2) * P = omega arith in
    let u = lt_of_mul-lt-mul_right P a in
    let v = lt_of_mul-lt-mul_right P b in
    omega arith

above_odd : (P f g c x : ℕ) → c ≤ f * P → g * (2 * P) < c + 2 * P → x < g * (2 * P) → f * P ≤ x → suc f ≡ 2 * g
above_odd P f g c x h k l m =
    let a : f * P < 2 * g * P = omega arith in
    let b : 2 * g * P < (f + 2) * P = omega arith in
    let u = lt_of_mul-lt-mul_right P a in
    let v = lt_of_mul-lt-mul_right P b in
    omega arith

floor_near : (a c : ℕ) → (floor_to a c ≤ c) × (c < floor_to a c + 2 ^ a)
floor_near a c = let p = pow_pos a in (omega arith, omega arith)

ceil_near : (a c : ℕ) → (c ≤ ceil_to a c) × (ceil_to a c < c + 2 ^ a)
ceil_near a c = let p = pow_pos a in (omega arith, omega arith)

pub lighter : (a c k : ℕ) → ((b : ℕ) → b < a → k < D (floor_to b c)) → (x : ℕ) → floor_to a c < x → x ≤ c → k < D x
lighter zero c k h x l u = absurd (omega arith)
lighter (suc a) c k h x l u = go (dec_le x (floor_to a c)) (lighter a c k (λ b t. h b (omega arith)) x)
  where
    go : Dec (x ≤ floor_to a c) → (floor_to a c < x → x ≤ c → k < D x) → k < D x
    go (no p) ih = ih (omega arith) u
    go (yes p) ih =
        let P : ℕ = 2 ^ a in
        let f : ℕ = c / 2 ^ a in
        let g : ℕ = c / 2 ^ suc a in
        let e = double_power g a in
        let n = floor_near a c in
        let m = floor_near (suc a) c in
        let q : f ≡ 2 * g + 1 = below_odd P f g c x n.0 (omega (arith, pow-suc 2 a)) (omega arith) p in
        let i = between (suc a) g (x - g * 2 ^ suc a) (omega arith) (omega (arith, pow-suc 2 a)) in
        let r : g * 2 ^ suc a + (x - g * 2 ^ suc a) ≡ x = omega arith in
        omega (arith, h a (omega arith), D_scale a f, ap D q, ap D r)

pub heavier : (a c k : ℕ) → ((b : ℕ) → b < a → k < D (ceil_to b c)) → (x : ℕ) → c ≤ x → x < ceil_to a c → k < D x
heavier zero c k h x l u = absurd (omega arith)
heavier (suc a) c k h x l u = go (dec_le (ceil_to a c) x) (heavier a c k (λ b t. h b (omega arith)) x l)
  where
    go : Dec (ceil_to a c ≤ x) → (x < ceil_to a c → k < D x) → k < D x
    go (no p) ih = ih (omega arith)
    go (yes p) ih =
        let f : ℕ = (c + (2 ^ a - 1)) / 2 ^ a in
        let g : ℕ = (c + (2 ^ suc a - 1)) / 2 ^ suc a in
        let n = ceil_near a c in
        let m = ceil_near (suc a) c in
        let e = double_power g a in
        let q : suc f ≡ 2 * g = above_odd (2 ^ a) f g c x n.0 (omega (arith, pow-suc 2 a)) (omega arith) p in
        let t : ℕ = f / 2 in
        let q1 : f ≡ 2 * t + 1 = omega arith in
        let q2 : g ≡ t + 1 = omega arith in
        let w = ap (λ (z : ℕ). z * 2 ^ suc a) q2 in
        let v = ap (λ (z : ℕ). z * 2 ^ a) q1 in
        let y = double_power t a in
        let i = between (suc a) t (x - t * 2 ^ suc a) (omega (arith, pow_pos a)) (omega (arith, pow-suc 2 a)) in
        let r : t * 2 ^ suc a + (x - t * 2 ^ suc a) ≡ x = omega arith in
        omega (arith, h a (omega arith), D_scale a f, ap D q1, ap D r)
