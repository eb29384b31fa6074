-- No list of signed digits has fewer digits other than 0 than the writing without neighbours.
use Rattle.std.proofs.Common.{◌≡◌, ℕ, ◌+◌, ◌*◌, ◌≤◌, List, [], ◌∷◌, refl, ap, arith}
use Rattle.rules.specs.Digits.{Digit, minus, nought, plus, up, down, nonzero, D, DigitLaws}
use Rattle.rules.proofs.Cost.{Cost, cost_zero, cost_add, cost_one, cost_double}
use Rattle.rules.proofs.DigitCount.{D_none}
use Rattle.rules.proofs.Writings.{exists, unique, counts}

pluses : List Digit → ℕ
pluses [] = 0
pluses (minus ∷ q) = pluses q
pluses (nought ∷ q) = pluses q
pluses (plus ∷ q) = 1 + pluses q

minuses : List Digit → ℕ
minuses [] = 0
minuses (minus ∷ q) = 1 + minuses q
minuses (nought ∷ q) = minuses q
minuses (plus ∷ q) = minuses q

both : (q : List Digit) → pluses q + minuses q ≡ nonzero q
unfolding pluses minuses
both [] = refl
both (minus ∷ q) = omega (arith, both q)
both (nought ∷ q) = both q
both (plus ∷ q) = omega (arith, both q)

cost_up : (q : List Digit) → Cost (pluses q) (up q)
unfolding pluses
cost_up [] = cost_zero 0 0 refl
cost_up (minus ∷ q) = cost_double (pluses q) (up q) (cost_up q)
cost_up (nought ∷ q) = cost_double (pluses q) (up q) (cost_up q)
cost_up (plus ∷ q) = cost_add 1 (pluses q) 1 (2 * up q) cost_one (cost_double (pluses q) (up q) (cost_up q))

cost_down : (q : List Digit) → Cost (minuses q) (down q)
unfolding minuses
cost_down [] = cost_zero 0 0 refl
cost_down (minus ∷ q) = cost_add 1 (minuses q) 1 (2 * down q) cost_one (cost_double (minuses q) (down q) (cost_down q))
cost_down (nought ∷ q) = cost_double (minuses q) (down q) (cost_down q)
cost_down (plus ∷ q) = cost_double (minuses q) (down q) (cost_down q)

fewest : (n : ℕ) (q : List Digit) → up q ≡ n + down q → D n ≤ nonzero q
fewest n q e =
    let p : down q + n ≡ up q + 0 = omega arith in
    omega (arith, (cost_down q).down n, (cost_up q).up 0, ap D p, both q, D_none)

pub digit_laws : DigitLaws
digit_laws = record { exists = exists; unique = unique; counts = counts; fewest = fewest }
