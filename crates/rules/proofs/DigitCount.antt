-- The laws of the digit count D. Callers use these and never the text of D.
use Rattle.std.proofs.Common.{◌≡◌, ℕ, zero, suc, ◌+◌, ◌*◌, ◌/◌, ◌%◌, ◌^◌, ◌<◌, ◌≤◌, min, ◌⊎◌, List, [], ◌∷◌, sym, refl, ap, ◌∙◌, inl, inr, not-suc-le-zero, pow-suc, arith}
use Rattle.rules.specs.Digits.{Digit, minus, nought, plus, nonzero, lowest, rest, write, digits, D}

-- ---- one digit at a time

write_zero : (f : ℕ) → write f zero ≡ []
unfolding write
write_zero zero = refl
write_zero (suc f) = refl

write_same : (n f g : ℕ) → n ≤ f → n ≤ g → write f n ≡ write g n
unfolding write
write_same zero f g h k = write_zero f ∙ sym (write_zero g)
write_same (suc n) zero g h k = absurd (not-suc-le-zero h)
write_same (suc n) (suc f) zero h k = absurd (not-suc-le-zero k)
write_same (suc n) (suc f) (suc g) h k =
    ap (λ (q : List Digit). lowest (suc n % 4) ∷ q) (write_same (rest (suc n)) f g (omega arith) (omega arith))

pub digits_zero : digits 0 ≡ []
unfolding digits write
digits_zero = refl

pub digits_step : (n : ℕ) → digits (suc n) ≡ lowest (suc n % 4) ∷ digits (rest (suc n))
unfolding digits write
digits_step n =
    ap (λ (q : List Digit). lowest (suc n % 4) ∷ q) (write_same (rest (suc n)) n (rest (suc n)) (omega arith) (omega arith))

-- the digit by its remainder is 0 exactly where the number is even
pub weigh : Digit → ℕ
weigh minus = 1
weigh nought = 0
weigh plus = 1

pub weigh_lowest : (r : ℕ) → r < 4 → weigh (lowest r) ≡ r % 2
unfolding weigh
weigh_lowest zero h = refl
weigh_lowest (suc zero) h = refl
weigh_lowest (suc (suc zero)) h = refl
weigh_lowest (suc (suc (suc r))) h = omega arith

pub nonzero_cons : (d : Digit) (q : List Digit) → nonzero (d ∷ q) ≡ weigh d + nonzero q
unfolding weigh
nonzero_cons minus q = refl
nonzero_cons nought q = omega arith
nonzero_cons plus q = refl

pub D_none : D 0 ≡ 0
unfolding D digits write
D_none = refl

pub D_step : (n : ℕ) → D n ≡ n % 2 + D (rest n)
unfolding D
D_step zero = omega (arith, ap nonzero digits_zero)
D_step (suc n) =
    omega (
      arith,
      ap nonzero (digits_step n),
      nonzero_cons (lowest (suc n % 4)) (digits (rest (suc n))),
      weigh_lowest (suc n % 4) (omega arith),
    )

pub D_even : (n m : ℕ) → n ≡ 2 * m → D n ≡ D m
D_even n m e = let q : rest n ≡ m = omega arith in omega (arith, D_step n, ap D q)

pub D_one : (n m : ℕ) → n ≡ 4 * m + 1 → D n ≡ D m + 1
D_one n m e = let q : rest n ≡ 2 * m = omega arith in omega (arith, D_step n, ap D q, D_even (2 * m) m refl)

pub D_three : (n m : ℕ) → n ≡ 4 * m + 3 → D n ≡ D (m + 1) + 1
D_three n m e = let q : rest n ≡ 2 * (m + 1) = omega arith in omega (arith, D_step n, ap D q, D_even (2 * (m + 1)) (m + 1) refl)

pub D_unit : D 1 ≡ 1
D_unit = omega (arith, D_one 1 0 refl, D_none)

-- ---- the even and the odd numbers

abbrev pub Parity : ℕ → Type 0
Parity n = ((m : ℕ) × (n ≡ 2 * m)) ⊎ ((m : ℕ) × (n ≡ 2 * m + 1))

pub parity : (n : ℕ) → Parity n
parity n = go (n % 2) refl
  where
    go : (r : ℕ) → n % 2 ≡ r → Parity n
    go zero e = inl (n / 2, omega arith)
    go (suc r) e = inr (n / 2, omega arith)

-- neighbours differ by at most one, and an odd number has one more than the lighter half beside it
record Near (n : ℕ) : Type 0 where
  up : D (n + 1) ≤ D n + 1
  down : D n ≤ D (n + 1) + 1
  odd : D (2 * n + 1) ≡ 1 + min (D n) (D (n + 1))

near_even : (n k : ℕ) → n ≡ 2 * k → Near k → Near n
near_even n k e h =
    let p : n + 1 ≡ 2 * k + 1 = omega arith in
    let a = D_even n k e in
    let b = ap D p in
    let c = D_one (2 * n + 1) k (omega arith) in
    let u = h.up in
    let d = h.down in
    let o = h.odd in
    record { up = omega arith; down = omega arith; odd = omega arith }

near_odd : (n k : ℕ) → n ≡ 2 * k + 1 → Near k → Near n
near_odd n k e h =
    let a = ap D e in
    let b = D_even (n + 1) (k + 1) (omega arith) in
    let c = D_three (2 * n + 1) k (omega arith) in
    let u = h.up in
    let d = h.down in
    let o = h.odd in
    record { up = omega arith; down = omega arith; odd = omega arith }

near_zero : Near 0
near_zero = record {
  up = omega (arith, D_unit, D_none);
  down = omega (arith, D_none);
  odd = omega (arith, D_unit, D_none);
}

near_within : (f n : ℕ) → n ≤ f → Near n
near_within zero zero h = near_zero
near_within zero (suc n) h = absurd (not-suc-le-zero h)
near_within (suc f) zero h = near_zero
near_within (suc f) (suc n) h = go (parity (suc n)) (near_within f (suc n / 2) (omega arith))
  where
    go : Parity (suc n) → Near (suc n / 2) → Near (suc n)
    go (inl p) ih = near_even (suc n) (suc n / 2) (omega arith) ih
    go (inr p) ih = near_odd (suc n) (suc n / 2) (omega arith) ih

near : (n : ℕ) → Near n
near n = near_within n n (omega arith)

pub D_odd : (n m : ℕ) → n ≡ 2 * m + 1 → D n ≡ 1 + min (D m) (D (m + 1))
D_odd n m e = ap D e ∙ (near m).odd

-- ---- a power of two more or less changes the count by one at most

record Hop (j n : ℕ) : Type 0 where
  up : D (n + 2 ^ j) ≤ D n + 1
  down : D n ≤ D (n + 2 ^ j) + 1

hop : (j n : ℕ) → Hop j n
hop zero n = record { up = (near n).up; down = (near n).down }
hop (suc j) n = go (parity n) (hop j (n / 2)) (hop j (n / 2 + 1))
  where
    go : Parity n → Hop j (n / 2) → Hop j (n / 2 + 1) → Hop (suc j) n
    go (inl p) h k =
        let a = D_even n (n / 2) (omega arith) in
        let b = D_even (n + 2 ^ suc j) (n / 2 + 2 ^ j) (omega (arith, pow-suc 2 j)) in
        record { up = omega arith; down = omega arith }
    go (inr p) h k =
        let a = D_odd n (n / 2) (omega arith) in
        let b = D_odd (n + 2 ^ suc j) (n / 2 + 2 ^ j) (omega (arith, pow-suc 2 j)) in
        let q : n / 2 + 2 ^ j + 1 ≡ n / 2 + 1 + 2 ^ j = omega arith in
        let c = ap D q in
        record { up = omega arith; down = omega arith }

pub D_up : (n j : ℕ) → D (n + 2 ^ j) ≤ D n + 1
D_up n j = (hop j n).up

pub D_down : (n j : ℕ) → D n ≤ D (n + 2 ^ j) + 1
D_down n j = (hop j n).down

-- ---- a factor 2 ^ b changes nothing

pub double_power : (m b : ℕ) → m * 2 ^ suc b ≡ 2 * (m * 2 ^ b)
double_power m b = ap (λ (x : ℕ). m * x) (pow-suc 2 b) ∙ omega arith

pub D_scale : (b m : ℕ) → D (m * 2 ^ b) ≡ D m
D_scale zero m = ap D (omega arith)
D_scale (suc b) m = D_even (m * 2 ^ suc b) (m * 2 ^ b) (double_power m b) ∙ D_scale b m
