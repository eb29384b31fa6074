-- Numbers written in the digits -1, 0 and 1.
use Rattle.std.specs.Prelude.{◌≡◌, ℕ, zero, suc, ◌+◌, ◌*◌, ◌/◌, ◌%◌, ◌≤◌, ◌⊎◌, List, [], ◌∷◌}

pub data Digit : Type 0 where
  minus : Digit
  nought : Digit
  plus : Digit

-- A number's digits, the lowest first: the one at the place j counts 2 ^ j times. Past the last all are 0.
abbrev pub digit : List Digit → ℕ → Digit
digit [] j = nought
digit (d ∷ q) zero = d
digit (d ∷ q) (suc j) = digit q j

-- What the digits 1 add up to, and what the digits -1 take off again.
abbrev pub up : List Digit → ℕ
up [] = 0
up (minus ∷ q) = 2 * up q
up (nought ∷ q) = 2 * up q
up (plus ∷ q) = 1 + 2 * up q

abbrev pub down : List Digit → ℕ
down [] = 0
down (minus ∷ q) = 1 + 2 * down q
down (nought ∷ q) = 2 * down q
down (plus ∷ q) = 2 * down q

-- How many digits are not 0.
abbrev pub nonzero : List Digit → ℕ
nonzero [] = 0
nonzero (minus ∷ q) = 1 + nonzero q
nonzero (nought ∷ q) = nonzero q
nonzero (plus ∷ q) = 1 + nonzero q

-- q writes n, and no two neighbouring digits are both other than 0.
pub record Writing (n : ℕ) (q : List Digit) : Type 0 where
  pub value : up q ≡ n + down q
  pub apart : (j : ℕ) → (digit q j ≡ nought) ⊎ (digit q (suc j) ≡ nought)

-- The lowest digit of n, by what n leaves by 4: an odd n takes the digit that makes the next one 0.
abbrev pub lowest : ℕ → Digit
lowest zero = nought
lowest (suc zero) = plus
lowest (suc (suc zero)) = nought
lowest (suc (suc (suc r))) = minus

-- What is left of n once its lowest digit is taken off, halved.
abbrev pub rest : ℕ → ℕ
rest n = n / 2 + n % 4 / 3

-- What is left of n above its j lowest digits.
abbrev pub after : ℕ → ℕ → ℕ
after zero n = n
after (suc j) n = after j (rest n)

-- The digits of n, at most f of them; n has no more than n.
unfoldable pub write : ℕ → ℕ → List Digit
write zero n = []
write (suc f) zero = []
write (suc f) (suc n) = lowest (suc n % 4) ∷ write f (rest (suc n))

unfoldable pub digits : ℕ → List Digit
digits n = write n n

-- D n, the digit count: how many digits of n are not 0.
unfoldable pub D : ℕ → ℕ
D n = nonzero (digits n)

-- Every number has exactly one such writing, D counts its digits, and no list of digits of that value, with neighbours or not, has fewer.
pub record DigitLaws : Type 0 where
  pub exists : (n : ℕ) → Writing n (digits n)
  pub unique : (n : ℕ) (p q : List Digit) → Writing n p → Writing n q → (j : ℕ) → digit p j ≡ digit q j
  pub counts : (n : ℕ) (q : List Digit) → Writing n q → nonzero q ≡ D n
  pub fewest : (n : ℕ) (q : List Digit) → up q ≡ n + down q → D n ≤ nonzero q
