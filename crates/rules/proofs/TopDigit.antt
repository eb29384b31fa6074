-- The highest digit stands below the width, or the other server's part has fewer digits.
use Rattle.std.proofs.Common.{◌≡◌, ℕ, zero, suc, ◌+◌, ◌-◌, ◌*◌, ◌%◌, ◌^◌, ◌<◌, ◌≤◌, ◌⊎◌, [], length, drop, sym, refl, ap, ◌∙◌, inl, inr, pow-suc, arith, length-drop}
use Rattle.rules.specs.Digits.{rest, after, digits, D}
use Rattle.rules.proofs.DigitCount.{D_none, D_unit, D_step, D_even, D_up, D_down, digits_zero, digits_step}
use Rattle.rules.proofs.Rounding.{after_zero}

lighter_rest : (v n : ℕ) → 0 < n → rest n ≤ 2 ^ v → n ≤ 2 ^ suc v → D (2 ^ v - rest n) + 1 ≤ D (rest n) → D (2 ^ suc v - n) + 1 ≤ D n
lighter_rest v n p h k i = go (n % 4) refl
  where
    s : 2 ^ suc v ≡ 2 * 2 ^ v
    s = omega (arith, pow-suc 2 v)

    go : (r : ℕ) → n % 4 ≡ r → D (2 ^ suc v - n) + 1 ≤ D n
    go zero e = omega (arith, D_step n, i, D_even (2 ^ suc v - n) (2 ^ v - rest n) (omega (arith, s)))
    go (suc zero) e =
        omega (arith, D_step n, i, D_down (2 ^ suc v - n) 0, D_even (2 ^ suc v - n + 2 ^ 0) (2 ^ v - rest n) (omega (arith, s)))
    go (suc (suc zero)) e = omega (arith, D_step n, i, D_even (2 ^ suc v - n) (2 ^ v - rest n) (omega (arith, s)))
    go (suc (suc (suc r))) e =
        let z : 2 ^ suc v - n ≡ 2 * (2 ^ v - rest n) + 2 ^ 0 = omega (arith, s) in
        omega (arith, D_step n, i, ap D z, D_up (2 * (2 ^ v - rest n)) 0, D_even (2 * (2 ^ v - rest n)) (2 ^ v - rest n) refl)

tops : (v n : ℕ) → n ≤ 2 ^ v → (after v n ≡ 0) ⊎ (D (2 ^ v - n) + 1 ≤ D n)
tops zero zero k = inl refl
tops zero (suc n) k =
    let z : suc n ≡ 1 = omega arith in
    let y : 2 ^ 0 - suc n ≡ 0 = omega arith in
    inr (omega (arith, ap D z, ap D y, D_unit, D_none))
tops (suc v) zero k = inl (after_zero v)
tops (suc v) (suc n) k = go (tops v (rest (suc n)) r)
  where
    r : rest (suc n) ≤ 2 ^ v
    r = omega (arith, pow-suc 2 v)

    go : (after v (rest (suc n)) ≡ 0) ⊎ (D (2 ^ v - rest (suc n)) + 1 ≤ D (rest (suc n)))
        → (after v (rest (suc n)) ≡ 0) ⊎ (D (2 ^ suc v - suc n) + 1 ≤ D (suc n))
    go (inl l) = inl l
    go (inr l) = inr (lighter_rest v (suc n) (omega arith) r k l)

pub top_none : (W n : ℕ) → n ≤ 2 ^ W → D n ≤ D (2 ^ W - n) → after W n ≡ 0
top_none W n h k = go (tops W n h)
  where
    go : (after W n ≡ 0) ⊎ (D (2 ^ W - n) + 1 ≤ D n) → after W n ≡ 0
    go (inl l) = l
    go (inr l) = absurd (omega arith)

drop_digits : (p n : ℕ) → drop p (digits n) ≡ digits (after p n)
drop_digits zero n = refl
drop_digits (suc p) zero = ap (drop (suc p)) digits_zero ∙ sym (ap digits (after_zero p) ∙ digits_zero)
drop_digits (suc p) (suc n) = ap (drop (suc p)) (digits_step n) ∙ drop_digits p (rest (suc n))

-- with nothing left above the place p there are at most p digits
pub short_digits : (p n : ℕ) → after p n ≡ 0 → length (digits n) ≤ p
short_digits p n e =
    let z : drop p (digits n) ≡ [] = drop_digits p n ∙ ap digits e ∙ digits_zero in
    omega (arith, length-drop p (digits n), ap length z)
