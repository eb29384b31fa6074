-- Every number has one writing without neighbours, and its digits are counted by D.
use Rattle.std.proofs.Common.{◌≡◌, ℕ, zero, suc, ◌+◌, ◌*◌, ◌/◌, ◌%◌, ◌<◌, ◌≤◌, ◌⊎◌, List, [], ◌∷◌, sym, refl, ap, ◌∙◌, inl, inr, arith}
use Rattle.rules.specs.Digits.{Digit, minus, nought, plus, digit, up, down, nonzero, Writing, lowest, rest, after, write, digits, D}
use Rattle.rules.proofs.DigitCount.{D_step, D_none, weigh, weigh_lowest, nonzero_cons}

lowest_even : (r : ℕ) → r < 4 → r % 2 ≡ 0 → lowest r ≡ nought
lowest_even zero h e = refl
lowest_even (suc zero) h e = absurd (omega arith)
lowest_even (suc (suc zero)) h e = refl
lowest_even (suc (suc (suc r))) h e = absurd (omega arith)

even_low : (n : ℕ) → n % 2 ≡ 0 → lowest (n % 4) ≡ nought
even_low n e = lowest_even (n % 4) (omega arith) (omega arith)

-- ---- what any writing looks like

abbrev tail : List Digit → List Digit
tail [] = []
tail (d ∷ q) = q

twice_up : (q : List Digit) → digit q 0 ≡ nought → up q ≡ 2 * up (tail q)
twice_up [] e = refl
twice_up (minus ∷ q) e = refl
twice_up (nought ∷ q) e = refl
twice_up (plus ∷ q) e = let z : ◌≡◌ {A = ℕ} 0 1 = cc in omega arith

twice_down : (q : List Digit) → digit q 0 ≡ nought → down q ≡ 2 * down (tail q)
twice_down [] e = refl
twice_down (minus ∷ q) e = let z : ◌≡◌ {A = ℕ} 0 1 = cc in omega arith
twice_down (nought ∷ q) e = refl
twice_down (plus ∷ q) e = refl

next_nought : (d : Digit) (q : List Digit) (n : ℕ) → Writing n (d ∷ q) → (d ≡ nought → ⊥) → digit q 0 ≡ nought
next_nought d q n w h = go (w.apart 0)
  where
    go : (d ≡ nought) ⊎ (digit q 0 ≡ nought) → digit q 0 ≡ nought
    go (inl e) = absurd (h e)
    go (inr e) = e

plus_not : plus ≡ nought → ⊥
plus_not e = let z : ◌≡◌ {A = ℕ} 0 1 = cc in omega arith

minus_not : minus ≡ nought → ⊥
minus_not e = let z : ◌≡◌ {A = ℕ} 0 1 = cc in omega arith

-- the lowest digit is that of n, and the others write what is left
record Peeled (n : ℕ) (q : List Digit) : Type 0 where
  low : digit q 0 ≡ lowest (n % 4)
  value : up (tail q) ≡ rest n + down (tail q)

peeled : (n : ℕ) (q : List Digit) → Writing n q → Peeled n q
peeled n [] w = let v = w.value in record { low = sym (even_low n (omega arith)); value = omega arith }
peeled n (minus ∷ q) w =
    let e = next_nought minus q n w minus_not in
    let v = w.value in
    let r : n % 4 ≡ 3 = omega (arith, twice_up q e, twice_down q e) in
    record { low = sym (ap lowest r); value = omega (arith, twice_up q e, twice_down q e) }
peeled n (nought ∷ q) w = let v = w.value in record { low = sym (even_low n (omega arith)); value = omega arith }
peeled n (plus ∷ q) w =
    let e = next_nought plus q n w plus_not in
    let v = w.value in
    let r : n % 4 ≡ 1 = omega (arith, twice_up q e, twice_down q e) in
    record { low = sym (ap lowest r); value = omega (arith, twice_up q e, twice_down q e) }

tail_digit : (q : List Digit) (j : ℕ) → digit (tail q) j ≡ digit q (suc j)
tail_digit [] j = refl
tail_digit (d ∷ q) j = refl

tail_apart : (q : List Digit) → ((j : ℕ) → (digit q j ≡ nought) ⊎ (digit q (suc j) ≡ nought))
    → (j : ℕ) → (digit (tail q) j ≡ nought) ⊎ (digit (tail q) (suc j) ≡ nought)
tail_apart [] a j = inl refl
tail_apart (d ∷ q) a j = a (suc j)

peel : (n : ℕ) (q : List Digit) → Writing n q → Writing (rest n) (tail q)
peel n q w = record { value = (peeled n q w).value; apart = tail_apart q w.apart }

pub counts : (n : ℕ) (q : List Digit) → Writing n q → nonzero q ≡ D n
counts n [] w = let v = w.value in let z : n ≡ 0 = omega arith in omega (arith, ap D z, D_none)
counts n (d ∷ q) w =
    let ih = counts (rest n) q (peel n (d ∷ q) w) in
    let e = ap weigh (peeled n (d ∷ q) w).low in
    omega (arith, D_step n, nonzero_cons d q, weigh_lowest (n % 4) (omega arith))

pub digit_is : (j n : ℕ) (q : List Digit) → Writing n q → digit q j ≡ lowest (after j n % 4)
digit_is zero n q w = (peeled n q w).low
digit_is (suc j) n q w = sym (tail_digit q j) ∙ digit_is j (rest n) (tail q) (peel n q w)

pub unique : (n : ℕ) (p q : List Digit) → Writing n p → Writing n q → (j : ℕ) → digit p j ≡ digit q j
unique n p q v w j = digit_is j n p v ∙ sym (digit_is j n q w)

-- ---- the writing of n

write_value : (f n : ℕ) → n ≤ f → up (write f n) ≡ n + down (write f n)
unfolding write
write_value zero n h = omega arith
write_value (suc f) zero h = omega arith
write_value (suc f) (suc n) h = go (suc n % 4) refl (write_value f (rest (suc n)) (omega arith))
  where
    go : (r : ℕ) → suc n % 4 ≡ r → up (write f (rest (suc n))) ≡ rest (suc n) + down (write f (rest (suc n)))
        → up (lowest r ∷ write f (rest (suc n))) ≡ suc n + down (lowest r ∷ write f (rest (suc n)))
    go zero e i = omega arith
    go (suc zero) e i = omega arith
    go (suc (suc zero)) e i = omega arith
    go (suc (suc (suc r))) e i = omega arith

write_even : (f n : ℕ) → n % 2 ≡ 0 → digit (write f n) 0 ≡ nought
unfolding write
write_even zero n h = refl
write_even (suc f) zero h = refl
write_even (suc f) (suc n) h = even_low (suc n) h

twice : (m k : ℕ) → m ≡ 2 * k → m % 2 ≡ 0
twice m k e = omega arith

write_apart : (f n j : ℕ) → (digit (write f n) j ≡ nought) ⊎ (digit (write f n) (suc j) ≡ nought)
unfolding write
write_apart zero n j = inl refl
write_apart (suc f) zero j = inl refl
write_apart (suc f) (suc n) (suc j) = write_apart f (rest (suc n)) j
write_apart (suc f) (suc n) zero = go (suc n % 4) refl
  where
    go : (r : ℕ) → suc n % 4 ≡ r → (lowest r ≡ nought) ⊎ (digit (write f (rest (suc n))) 0 ≡ nought)
    go zero e = inl refl
    go (suc zero) e = inr (write_even f (rest (suc n)) (twice (rest (suc n)) (suc n / 4) (omega arith)))
    go (suc (suc zero)) e = inl refl
    go (suc (suc (suc r))) e =
        let three : suc n % 4 ≡ 3 = omega arith in
        inr (write_even f (rest (suc n)) (twice (rest (suc n)) (suc n / 4 + 1) (omega arith)))

pub exists : (n : ℕ) → Writing n (digits n)
unfolding digits
exists n = record { value = write_value n n (omega arith); apart = write_apart n n }
