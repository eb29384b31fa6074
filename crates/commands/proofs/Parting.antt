-- Lists of bytes parted at a byte that the front does not have.
use Rattle.std.proofs.Common.{◌≡◌, ℕ, zero, suc, ◌^◌, ◌<◌, List, [], ◌∷◌, ◌++◌, decimal, refl, ap₂, suc-le-suc, arith}
use Rattle.std.specs.Str.Parse.{AllDigits, digits_value}
use Rattle.std.proofs.lemmas.Str.Parse.{IsNumeralModel, numerals_by_value, tells_digits, not_in_digits}
use Rattle.std.proofs.lemmas.Fmt.{digits_decimal}
use Rattle.commands.specs.Lines.{Without}

own : IsNumeralModel (AllDigits 10) (digits_value 10)
own = numerals_by_value (AllDigits 10) tells_digits

-- digits have no byte below 48
pub decimal_without : (byte n : ℕ) → byte < 48 → n < 2 ^ 32 → Without byte (decimal n)
decimal_without byte n low small = not_in_digits own (decimal n) byte (digits_decimal own n (omega arith)) (λ i. omega arith)

pub behind : (byte x : ℕ) (xs : List ℕ) → Without byte (x ∷ xs) → Without byte xs
behind byte x xs h k l e = h (suc k) (suc-le-suc l) e

pub without_more : (byte x : ℕ) (xs : List ℕ) → (x ≡ byte → ⊥) → Without byte xs → Without byte (x ∷ xs)
without_more byte x xs apart h zero l e = apart e
without_more byte x xs apart h (suc k) l e = h k (omega arith) e

pub without_append : (byte : ℕ) (xs ys : List ℕ) → Without byte xs → Without byte ys → Without byte (xs ++ ys)
without_append byte [] ys h k = k
without_append byte (x ∷ xs) ys h k =
    without_more byte x (xs ++ ys) (λ e. h 0 (omega arith) e) (without_append byte xs ys (behind byte x xs h) k)

-- the fronts and the backs are the same
pub same_parts : (byte : ℕ) (a b x y : List ℕ) → Without byte a → Without byte x → a ++ byte ∷ b ≡ x ++ byte ∷ y → (a ≡ x) × (b ≡ y)
same_parts byte [] b [] y h k e = (refl, cc)
same_parts byte [] b (q ∷ x) y h k e = let s : q ≡ byte = cc in absurd (k 0 (omega arith) s)
same_parts byte (q ∷ a) b [] y h k e = let s : q ≡ byte = cc in absurd (h 0 (omega arith) s)
same_parts byte (q ∷ a) b (s ∷ x) y h k e =
    let t : a ++ byte ∷ b ≡ x ++ byte ∷ y = cc in
    let o : q ≡ s = cc in
    let r = same_parts byte a b x y (behind byte q a h) (behind byte s x k) t in
    (ap₂ (λ (n : ℕ) (ns : List ℕ). n ∷ ns) o r.0, r.1)

-- a list with the byte in it is not without it
pub not_without : (byte : ℕ) (a b : List ℕ) → Without byte (a ++ byte ∷ b) → ⊥
not_without byte [] b h = h 0 (omega arith) refl
not_without byte (q ∷ a) b h = not_without byte a b (behind byte q (a ++ byte ∷ b) h)
