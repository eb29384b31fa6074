-- A number in four bytes, the most significant first.
use Rattle.std.proofs.Common.{◌≡◌, ℕ, ◌+◌, ◌*◌, ◌/◌, ◌%◌, ◌^◌, ◌<◌, sym, ap, ◌∙◌, arith}

split : (n : ℕ) → n ≡ 256 * (n / 256) + n % 256
split n = omega arith

joined : (n p q r a b c d : ℕ) → n ≡ 256 * p + d → p ≡ 256 * q + c → q ≡ 256 * r + b → r ≡ a → a * 2 ^ 24 + b * 2 ^ 16 + c * 2 ^ 8 + d ≡ n
joined n p q r a b c d e f g h = omega arith

-- its bytes put together are the number
pub put_together : (n : ℕ) → n < 2 ^ 32 → n / 2 ^ 24 % 256 * 2 ^ 24 + n / 2 ^ 16 % 256 * 2 ^ 16 + n / 2 ^ 8 % 256 * 2 ^ 8 + n % 256 ≡ n
put_together n h =
    let two : n / 2 ^ 16 ≡ n / 2 ^ 8 / 256 = omega arith in
    let three : n / 2 ^ 24 ≡ n / 2 ^ 16 / 256 = omega arith in
    let small : n / 2 ^ 24 ≡ n / 2 ^ 24 % 256 = omega arith in
    joined n (n / 2 ^ 8) (n / 2 ^ 16) (n / 2 ^ 24) _ _ _ _ (split n)
    (split (n / 2 ^ 8) ∙ ap (λ (x : ℕ). 256 * x + n / 2 ^ 8 % 256) (sym two))
    (split (n / 2 ^ 16) ∙ ap (λ (x : ℕ). 256 * x + n / 2 ^ 16 % 256) (sym three))
    small

-- and a number put together from bytes has those bytes
module _ (a b c d : ℕ) (ha : a < 256) (hb : b < 256) (hc : c < 256) (hd : d < 256) where
  pub first_byte : a ≡ (a * 2 ^ 24 + b * 2 ^ 16 + c * 2 ^ 8 + d) / 2 ^ 24 % 256
  first_byte =
      let q : (a * 2 ^ 24 + b * 2 ^ 16 + c * 2 ^ 8 + d) / 2 ^ 24 ≡ a = omega arith in
      let m : a ≡ a % 256 = omega arith in
      m ∙ ap (λ (x : ℕ). x % 256) (sym q)

  pub second_byte : b ≡ (a * 2 ^ 24 + b * 2 ^ 16 + c * 2 ^ 8 + d) / 2 ^ 16 % 256
  second_byte =
      let q : (a * 2 ^ 24 + b * 2 ^ 16 + c * 2 ^ 8 + d) / 2 ^ 16 ≡ a * 256 + b = omega arith in
      let m : b ≡ (a * 256 + b) % 256 = omega arith in
      m ∙ ap (λ (x : ℕ). x % 256) (sym q)

  pub third_byte : c ≡ (a * 2 ^ 24 + b * 2 ^ 16 + c * 2 ^ 8 + d) / 2 ^ 8 % 256
  third_byte =
      let q : (a * 2 ^ 24 + b * 2 ^ 16 + c * 2 ^ 8 + d) / 2 ^ 8 ≡ a * 65536 + b * 256 + c = omega arith in
      let m : c ≡ (a * 65536 + b * 256 + c) % 256 = omega arith in
      m ∙ ap (λ (x : ℕ). x % 256) (sym q)

  pub fourth_byte : d ≡ (a * 2 ^ 24 + b * 2 ^ 16 + c * 2 ^ 8 + d) % 256
  fourth_byte = omega arith
