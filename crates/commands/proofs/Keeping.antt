-- The first 64 bytes of a line, as it grows.
use Rattle.std.proofs.Common.{◌≡◌, ℕ, ◌+◌, ◌<◌, ◌≤◌, min, Bool, true, false, ltb, List, [], ◌∷◌, ◌++◌, length, take, set, sym, ap, ◌∙◌, arith}
use Rattle.std.proofs.lemmas.List.{length-take, length-take-le, length_push, take_all, take-append-le, take_more_set}
use Rattle.std.proofs.lemmas.Bool.Decides.{nat_tests}

-- as many bytes are kept as the line has, up to 64
kept : (p bytes : List ℕ) (len : ℕ) → length bytes ≡ 64 → len ≤ 64 → take len bytes ≡ take 64 p → len ≡ min 64 (length p)
kept p bytes len long within e = sym (length-take-le len bytes (omega arith)) ∙ ap length e ∙ length-take 64 p

-- one byte more, while there is room
pub room : (p bytes : List ℕ) (len byte : ℕ) (more : Bool) → length bytes ≡ 64 → len < 64 → take len bytes ≡ take 64 p → more ≡ ltb 64 (length p)
    → (take (len + 1) (set bytes len byte) ≡ take 64 (p ++ byte ∷ [])) × (more ≡ ltb 64 (length (p ++ byte ∷ [])))
room p bytes len byte more long lt e beyond =
    let k = kept p bytes len long (omega arith) e in
    let n : length p ≡ len = grind arith in
    let q : take 64 p ≡ p = take_all 64 p (omega arith) in
    let l = length_push p byte in (
      take_more_set bytes len byte (omega arith) ∙ ap (λ (xs : List ℕ). xs ++ byte ∷ []) (e ∙ q) ∙ sym (take_all 64 (p ++ byte ∷ []) (omega arith)),
      grind (arith, nat_tests),
    )

-- one byte more, past the 64
pub past : (p bytes : List ℕ) (len byte : ℕ) → length bytes ≡ 64 → len ≤ 64 → 64 ≤ len → take len bytes ≡ take 64 p
    → (take len bytes ≡ take 64 (p ++ byte ∷ [])) × (true ≡ ltb 64 (length (p ++ byte ∷ [])))
past p bytes len byte long within full e =
    let k = kept p bytes len long within e in
    let n : 64 ≤ length p = grind arith in
    let l = length_push p byte in
    (e ∙ sym (take-append-le 64 p (byte ∷ []) n), grind (arith, nat_tests))

-- a line of at most 64 bytes is kept whole
pub whole : (p bytes : List ℕ) (len : ℕ) (more : Bool) → take len bytes ≡ take 64 p → more ≡ ltb 64 (length p) → more ≡ false → (take len bytes ≡ p) × (length p ≤ 64)
whole p bytes len more e beyond is =
    let n : length p ≤ 64 = grind (arith, nat_tests) in
    (e ∙ take_all 64 p n, n)
