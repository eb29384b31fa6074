-- The digit count by one exclusive or: the digits of n other than 0 stand where 3 * n and n differ.
use Rattle.std.proofs.Common.{◌≡◌, ℕ, zero, suc, ◌+◌, ◌*◌, ◌/◌, ◌%◌, ◌<◌, ◌≤◌, sym, refl, ap, ◌∙◌, ap₂, inl, inr, not-suc-le-zero, arith}
use Prim.Native.Nat.{differ}
use lib.Bits.{bit_xor, xor_step}
use lib.Count.{ones, ones_step}
use Rattle.rules.specs.Digits.{D}
use Rattle.rules.proofs.DigitCount.{D_none, D_even, D_one, D_three, Parity, parity}

-- the lowest digits apart
xor_low : (a b c d x y : ℕ) → a ≡ 2 * c + x → b ≡ 2 * d + y → x < 2 → y < 2 → bit_xor a b ≡ bit_xor c d * 2 + differ x y
xor_low a b c d x y e f h k =
    let p : a / 2 ≡ c = omega arith in
    let q : b / 2 ≡ d = omega arith in
    let r : a % 2 ≡ x = omega arith in
    let s : b % 2 ≡ y = omega arith in
    xor_step a b ∙ ap₂ (λ (i j : ℕ). i + j) (ap₂ (λ (i j : ℕ). bit_xor i j * 2) p q) (ap₂ differ r s)

ones_low : (n m x : ℕ) → n ≡ m * 2 + x → x < 2 → ones n ≡ ones m + x
ones_low n m x e h =
    let p : n / 2 ≡ m = omega arith in
    let q : n % 2 ≡ x = omega arith in
    omega (arith, ones_step n, ap ones p)

-- a carry makes no difference
carry_within : (f k : ℕ) → k ≤ f → bit_xor (3 * k + 2) k ≡ bit_xor (3 * (k + 1)) (k + 1)
carry_within zero zero h = refl
carry_within zero (suc k) h = absurd (not-suc-le-zero h)
carry_within (suc f) zero h = refl
carry_within (suc f) (suc k) h = go (parity (suc k)) (carry_within f (suc k / 2) (omega arith))
  where
    n : ℕ
    n = suc k

    m : ℕ
    m = suc k / 2

    go : Parity (suc k) → bit_xor (3 * m + 2) m ≡ bit_xor (3 * (m + 1)) (m + 1)
        → bit_xor (3 * n + 2) n ≡ bit_xor (3 * (n + 1)) (n + 1)
    go (inl (t, e)) ih =
        xor_low (3 * n + 2) n (3 * m + 1) m 0 0 (omega arith) (omega arith) (omega arith) (omega arith)
        ∙ sym (xor_low (3 * (n + 1)) (n + 1) (3 * m + 1) m 1 1 (omega arith) (omega arith) (omega arith) (omega arith))
    go (inr (t, e)) ih =
        xor_low (3 * n + 2) n (3 * m + 2) m 1 1 (omega arith) (omega arith) (omega arith) (omega arith)
        ∙ ap (λ (x : ℕ). x * 2 + 0) ih
        ∙ sym (xor_low (3 * (n + 1)) (n + 1) (3 * (m + 1)) (m + 1) 0 0 (omega arith) (omega arith) (omega arith) (omega arith))

abbrev closed : ℕ → ℕ
closed n = ones (bit_xor (3 * n) n)

closed_even : (n m : ℕ) → n ≡ 2 * m → closed n ≡ closed m
closed_even n m e =
    let p = xor_low (3 * n) n (3 * m) m 0 0 (omega arith) (omega arith) (omega arith) (omega arith) in
    omega (arith, ones_low (bit_xor (3 * n) n) (bit_xor (3 * m) m) 0 p (omega arith))

closed_one : (n k : ℕ) → n ≡ 4 * k + 1 → closed n ≡ closed k + 1
closed_one n k e =
    let p = xor_low (3 * n) n (6 * k + 1) (2 * k) 1 1 (omega arith) (omega arith) (omega arith) (omega arith) in
    let q = xor_low (6 * k + 1) (2 * k) (3 * k) k 1 0 (omega arith) (omega arith) (omega arith) (omega arith) in
    omega (
      arith,
      ones_low (bit_xor (3 * n) n) (bit_xor (6 * k + 1) (2 * k)) 0 p (omega arith),
      ones_low (bit_xor (6 * k + 1) (2 * k)) (bit_xor (3 * k) k) 1 q (omega arith),
    )

closed_three : (n k : ℕ) → n ≡ 4 * k + 3 → closed n ≡ closed (k + 1) + 1
closed_three n k e =
    let p = xor_low (3 * n) n (6 * k + 4) (2 * k + 1) 1 1 (omega arith) (omega arith) (omega arith) (omega arith) in
    let q = xor_low (6 * k + 4) (2 * k + 1) (3 * k + 2) k 0 1 (omega arith) (omega arith) (omega arith) (omega arith) in
    omega (
      arith,
      ones_low (bit_xor (3 * n) n) (bit_xor (6 * k + 4) (2 * k + 1)) 0 p (omega arith),
      ones_low (bit_xor (6 * k + 4) (2 * k + 1)) (bit_xor (3 * k + 2) k) 1 q (omega arith),
      ap ones (carry_within k k (omega arith)),
    )

-- what keeps the four laws is D
closed_within : (f n : ℕ) → n ≤ f → D n ≡ closed n
unfolding ones
closed_within zero zero h = D_none
closed_within zero (suc n) h = absurd (not-suc-le-zero h)
closed_within (suc f) zero h = D_none
closed_within (suc f) (suc n) h =
    go (suc n % 4) refl (closed_within f (suc n / 2) (omega arith)) (closed_within f (suc n / 4) (omega arith))
    (λ l. closed_within f (suc n / 4 + 1) l)
  where
    k : ℕ
    k = suc n / 4

    go : (r : ℕ) → suc n % 4 ≡ r → D (suc n / 2) ≡ closed (suc n / 2) → D k ≡ closed k → (k + 1 ≤ f → D (k + 1) ≡ closed (k + 1)) → D (suc n) ≡ closed (suc n)
    go zero e a b c = D_even (suc n) (suc n / 2) (omega arith) ∙ a ∙ sym (closed_even (suc n) (suc n / 2) (omega arith))
    go (suc zero) e a b c = omega (arith, D_one (suc n) k (omega arith), closed_one (suc n) k (omega arith), b)
    go (suc (suc zero)) e a b c = D_even (suc n) (suc n / 2) (omega arith) ∙ a ∙ sym (closed_even (suc n) (suc n / 2) (omega arith))
    go (suc (suc (suc r))) e a b c =
        omega (arith, D_three (suc n) k (omega arith), closed_three (suc n) k (omega arith), c (omega arith))

pub closed_form : (n : ℕ) → D n ≡ ones (bit_xor (3 * n) n)
closed_form n = closed_within n n (omega arith)
