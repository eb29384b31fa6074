-- What is left of a number above its lowest digits.
use Rattle.std.proofs.Common.{◌≡◌, ℕ, zero, suc, ◌+◌, ◌-◌, ◌*◌, ◌/◌, ◌%◌, ◌^◌, ◌<◌, ◌≤◌, sym, refl, ap, ◌∙◌, subst, inl, inr, mod-lt, div-lt_iff_lt-mul, arith, pow_pos}
use native.Mathlib.Nat.{mul-add-div_right}
use Rattle.std.proofs.lemmas.Nat.{div-add-mod', shr-shr}
use Rattle.rules.specs.Digits.{rest, after}
use Rattle.rules.proofs.DigitCount.{Parity, parity}
use Rattle.rules.proofs.Laying.{carry}

pub after_rest : (p n : ℕ) → after (suc p) n ≡ rest (after p n)
after_rest zero n = refl
after_rest (suc p) n = after_rest p (rest n)

pub after_zero : (p : ℕ) → after p 0 ≡ 0
after_zero zero = refl
after_zero (suc p) = after_zero p

pub after_bound : (W p n : ℕ) → n ≤ 2 ^ W → after p n * 2 ^ p ≤ 2 ^ W
after_bound W zero n h = omega arith
after_bound W (suc p) n h =
    subst (λ (x : ℕ). x * 2 ^ suc p ≤ 2 ^ W) (sym (after_rest p n)) (carry W p (after p n) (after_bound W p n h))

-- a third of 3n is n, but for what is cut off
thirds : (n P : ℕ) → 0 < P → (3 * (n / P) ≤ 3 * n / P) × (3 * n / P < 3 * (n / P) + 3)
thirds n P h =
    let s : 3 * n ≡ 3 * (n / P) * P + 3 * (n % P) = omega (arith, div-add-mod' n P) in
    let d : 3 * n / P ≡ 3 * (n / P) + 3 * (n % P) / P = ap (λ (x : ℕ). x / P) s ∙ mul-add-div_right h (3 * (n / P)) (3 * (n % P)) in
    let l : 3 * (n % P) / P < 3 = (div-lt_iff_lt-mul {k = P} {x = 3 * (n % P)} {y = 3} h).1 (omega (arith, mod-lt n h)) in
    (omega arith, omega arith)

-- by its remainder
rest_of : (x r h : ℕ) → x ≡ 2 * h + r → r < 4 → h % 2 ≡ 0 → rest x ≡ h + r / 2 + r / 3
rest_of x r h e k z =
    let a : x % 4 ≡ r = omega arith in
    let b : x / 2 ≡ h + r / 2 = omega arith in
    ap (λ (y : ℕ). x / 2 + y / 3) a ∙ ap (λ (y : ℕ). y + r / 3) b

-- halving both parts takes one digit off
halve : (a b : ℕ) → 3 * a ≤ b → b < 3 * a + 3 → rest (b - a) ≡ b / 2 - a / 2
halve a b h k = go (parity a) (b - 3 * a) refl
  where
    go : Parity a → (c : ℕ) → b - 3 * a ≡ c → rest (b - a) ≡ b / 2 - a / 2
    go (inl (m, e)) zero f =
        let b2 : b / 2 ≡ 3 * m = omega arith in
        let a2 : a / 2 ≡ m = omega arith in
        rest_of (b - a) 0 (2 * m) (omega arith) (omega arith) (omega arith) ∙ omega arith
    go (inl (m, e)) (suc zero) f =
        let b2 : b / 2 ≡ 3 * m = omega arith in
        let a2 : a / 2 ≡ m = omega arith in
        rest_of (b - a) 1 (2 * m) (omega arith) (omega arith) (omega arith) ∙ omega arith
    go (inl (m, e)) (suc (suc c)) f =
        let b2 : b / 2 ≡ 3 * m + 1 = omega arith in
        let a2 : a / 2 ≡ m = omega arith in
        rest_of (b - a) 2 (2 * m) (omega arith) (omega arith) (omega arith) ∙ omega arith
    go (inr (m, e)) zero f =
        let b2 : b / 2 ≡ 3 * m + 1 = omega arith in
        let a2 : a / 2 ≡ m = omega arith in
        rest_of (b - a) 2 (2 * m) (omega arith) (omega arith) (omega arith) ∙ omega arith
    go (inr (m, e)) (suc zero) f =
        let b2 : b / 2 ≡ 3 * m + 2 = omega arith in
        let a2 : a / 2 ≡ m = omega arith in
        rest_of (b - a) 3 (2 * m) (omega arith) (omega arith) (omega arith) ∙ omega arith
    go (inr (m, e)) (suc (suc c)) f =
        let b2 : b / 2 ≡ 3 * m + 2 = omega arith in
        let a2 : a / 2 ≡ m = omega arith in
        rest_of (b - a) 0 (2 * m + 2) (omega arith) (omega arith) (omega arith) ∙ omega arith

pub after_is : (p n : ℕ) → after p n ≡ 3 * n / 2 ^ (p + 1) - n / 2 ^ (p + 1)
after_is zero n = omega arith
after_is (suc p) n =
    let t = thirds n (2 ^ (p + 1)) (pow_pos (p + 1)) in
    after_rest p n ∙ ap rest (after_is p n) ∙ halve (n / 2 ^ (p + 1)) (3 * n / 2 ^ (p + 1)) t.0 t.1
    ∙ ap (λ (x : ℕ). x - n / 2 ^ (p + 1) / 2) (shr-shr (3 * n) (p + 1) 1)
    ∙ ap (λ (x : ℕ). 3 * n / 2 ^ (p + 1 + 1) - x) (shr-shr n (p + 1) 1)
    ∙ ap (λ (i : ℕ). 3 * n / 2 ^ i - n / 2 ^ i) (omega arith)
