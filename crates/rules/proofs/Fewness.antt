-- How many rules a weight can need: one at the ends, and never many.
use Rattle.std.proofs.Common.{◌≡◌, ℕ, zero, suc, ◌+◌, ◌-◌, ◌*◌, ◌/◌, ◌%◌, ◌^◌, ◌≤◌, min, ◌⊎◌, refl, ap, inl, inr, pow-suc, arith}
use Rattle.rules.specs.Digits.{D}
use Rattle.rules.specs.Shortest.{L}
use Rattle.rules.proofs.DigitCount.{D_none, D_unit, D_even, D_one, D_three}

pub L_none : (W : ℕ) → L W 0 ≡ 1
unfolding L
L_none W = omega (arith, D_none)

pub L_all : (W : ℕ) → L W (2 ^ W) ≡ 1
unfolding L
L_all W = let e : 2 ^ W - 2 ^ W ≡ 0 = omega arith in omega (arith, ap D e, D_none)

-- even, one more than a multiple of 4, or three more
abbrev ByFour : ℕ → Type 0
ByFour n = ((m : ℕ) × (n ≡ 2 * m)) ⊎ (((m : ℕ) × (n ≡ 4 * m + 1)) ⊎ ((m : ℕ) × (n ≡ 4 * m + 3)))

by_four : (n : ℕ) → ByFour n
by_four n = go (n % 4) refl
  where
    go : (r : ℕ) → n % 4 ≡ r → ByFour n
    go zero e = inl (n / 2, omega arith)
    go (suc zero) e = inr (inl (n / 4, omega arith))
    go (suc (suc zero)) e = inl (n / 2, omega arith)
    go (suc (suc (suc r))) e = inr (inr (n / 4, omega arith))

few : (W d : ℕ) → d ≤ 2 ^ W → min (D d) (D (2 ^ W - d)) ≤ (W + 1) / 2
few zero zero h = omega (arith, D_none)
few zero (suc d) h = let e : 2 ^ 0 - suc d ≡ 0 = omega arith in omega (arith, ap D e, D_none)
few (suc zero) zero h = omega (arith, D_none)
few (suc zero) (suc zero) h = omega (arith, D_unit)
few (suc zero) (suc (suc d)) h = let e : 2 ^ 1 - suc (suc d) ≡ 0 = omega arith in omega (arith, ap D e, D_none)
few (suc (suc W)) d h = go (by_four d) (few (suc W)) (few W)
  where
    p : 2 ^ suc (suc W) ≡ 4 * 2 ^ W
    p = omega (arith, pow-suc 2 (suc W), pow-suc 2 W)

    go : ByFour d
        → ((x : ℕ) → x ≤ 2 ^ suc W → min (D x) (D (2 ^ suc W - x)) ≤ (suc W + 1) / 2)
        → ((x : ℕ) → x ≤ 2 ^ W → min (D x) (D (2 ^ W - x)) ≤ (W + 1) / 2)
        → min (D d) (D (2 ^ suc (suc W) - d)) ≤ (suc (suc W) + 1) / 2
    go (inl (m, e)) f g =
        omega (arith, D_even d m e, D_even (2 ^ suc (suc W) - d) (2 ^ suc W - m) (omega (arith, pow-suc 2 (suc W))), f m (omega (arith, pow-suc 2 (suc W))))
    go (inr (inl (m, e))) f g =
        let z : 2 ^ W - m - 1 + 1 ≡ 2 ^ W - m = omega (arith, p) in
        omega (arith, D_one d m e, D_three (2 ^ suc (suc W) - d) (2 ^ W - m - 1) (omega (arith, p)), ap D z, g m (omega (arith, p)))
    go (inr (inr (m, e))) f g =
        omega (arith, D_three d m e, D_one (2 ^ suc (suc W) - d) (2 ^ W - (m + 1)) (omega (arith, p)), g (m + 1) (omega (arith, p)))

pub L_most : (W d : ℕ) → W ≤ 24 → d ≤ 2 ^ W → L W d ≤ 13
unfolding L
L_most W d h k = omega (arith, few W d k)
