-- Sums over the addresses, and which of them lie in a block.
use Rattle.std.proofs.Common.{◌≡◌, ℕ, zero, suc, ◌+◌, ◌<◌, ◌≤◌, true, false, refl, ap, ◌∙◌, add-suc, arith}
use Rattle.std.proofs.lemmas.Bool.Decides.{nat_tests}
use Rattle.rules.specs.Prefixes.{within, tally}

-- ---- sums

pub tally_ext : (f g : ℕ → ℕ) (n : ℕ) → ((a : ℕ) → a < n → f a ≡ g a) → tally f n ≡ tally g n
tally_ext f g zero h = refl
tally_ext f g (suc n) h = omega (arith, tally_ext f g n (λ a l. h a (omega arith)), h n (omega arith))

pub tally_split : (f : ℕ → ℕ) (m n : ℕ) → tally f (m + n) ≡ tally f m + tally (λ a. f (m + a)) n
tally_split f m zero = let e : m + 0 ≡ m = omega arith in omega (arith, ap (tally f) e)
tally_split f m (suc n) = ap (tally f) (add-suc m n) ∙ omega (arith, tally_split f m n)

pub tally_both : (f g : ℕ → ℕ) (n : ℕ) → ((a : ℕ) → f a + g a ≡ 1) → tally f n + tally g n ≡ n
tally_both f g zero h = refl
tally_both f g (suc n) h = omega (arith, tally_both f g n h, h n)

-- ---- numbers in a row

pub within_in : (s n a : ℕ) → s ≤ a → a < s + n → within s n a ≡ true
within_in s n a h k = grind (arith, nat_tests)

pub within_below : (s n a : ℕ) → a < s → within s n a ≡ false
within_below s n a h = grind (arith, nat_tests)

pub within_above : (s n a : ℕ) → s + n ≤ a → within s n a ≡ false
within_above s n a h = grind (arith, nat_tests)

pub within_move : (o s n a : ℕ) → within (o + s) n (o + a) ≡ within s n a
within_move o s n a = grind (arith, nat_tests)
