-- The layout of a rule, taken apart.
use Rattle.std.proofs.Common.{◌≡◌, ℕ, ◌+◌, ◌-◌, ◌*◌, ◌/◌, ◌%◌, ◌^◌, ◌<◌, ◌≤◌, true, ◌&&◌, eqb, ltb, leb, List, [], ◌∷◌, refl, ap, ◌∙◌, mul-le-mul_right, add-mul, one-mul, lt_of_mul-lt-mul_right, arith, pow-add}
use native.Mathlib.Nat.{mul-mod_left}
use Rattle.std.specs.List.{AllByRecursion}
use Rattle.std.proofs.lemmas.Nat.{div-add-mod'}
use Rattle.std.proofs.lemmas.Bool.{leb-true, ltb-true, eqb-true, le-leb, lt-ltb, eq-eqb, and_parts, and_from}
use Rattle.rules.specs.declared.rule.Rule.{Rule}
use Rattle.rules.specs.Prefixes.{fits, all_fit}

pub record Shape (W : ℕ) (r : Rule) : Type 0 where
  pub short : r.length ≤ W
  pub aligned : (m : ℕ) × (r.start ≡ m * 2 ^ (W - r.length))
  pub low : r.start < 2 ^ W

pub shape : (W : ℕ) (r : Rule) → fits W r ≡ true → Shape W r
shape W r h =
    let a = and_parts (leb r.length W) (ltb r.start (2 ^ W) && eqb (r.start % 2 ^ (W - r.length)) 0) h in
    let b = and_parts (ltb r.start (2 ^ W)) (eqb (r.start % 2 ^ (W - r.length)) 0) a.1 in
    let z = eqb-true (r.start % 2 ^ (W - r.length)) 0 b.1 in
    record {
      short = leb-true r.length W a.0;
      aligned = (r.start / 2 ^ (W - r.length), omega (arith, z, div-add-mod' r.start (2 ^ (W - r.length))));
      low = ltb-true r.start (2 ^ W) b.0;
    }

-- its addresses end where those of the width do, or before
pub shape_end : (W : ℕ) (r : Rule) → Shape W r → r.start + 2 ^ (W - r.length) ≤ 2 ^ W
shape_end W r s =
    let P : ℕ = 2 ^ (W - r.length) in
    let V : ℕ = 2 ^ r.length in
    let m : ℕ = s.aligned.0 in
    let w : W ≡ r.length + (W - r.length) = omega (arith, s.short) in
    let all : 2 ^ W ≡ V * P = ap (λ (i : ℕ). 2 ^ i) w ∙ pow-add 2 r.length (W - r.length) in
    let low : m * P < V * P = omega (arith, s.low, s.aligned.1) in
    let l : m < V = lt_of_mul-lt-mul_right P low in
    let n : (m + 1) * P ≤ V * P = mul-le-mul_right P (omega arith) in
    omega (arith, s.aligned.1, add-mul m 1 P, one-mul P)

pub shape_fits : (W : ℕ) (r : Rule) → Shape W r → fits W r ≡ true
shape_fits W r s =
    let z : r.start % 2 ^ (W - r.length) ≡ 0
    = ap (λ (x : ℕ). x % 2 ^ (W - r.length)) s.aligned.1 ∙ mul-mod_left s.aligned.0 (2 ^ (W - r.length)) in
    and_from (leb r.length W) (ltb r.start (2 ^ W) && eqb (r.start % 2 ^ (W - r.length)) 0) (le-leb r.length W s.short)
    (and_from (ltb r.start (2 ^ W)) (eqb (r.start % 2 ^ (W - r.length)) 0) (lt-ltb r.start (2 ^ W) s.low)
    (eq-eqb (r.start % 2 ^ (W - r.length)) 0 z))

pub shapes : (W : ℕ) (rs : List Rule) → all_fit W rs ≡ true → AllByRecursion (Shape W) rs
shapes W [] h = tt
shapes W (r ∷ rs) h = let a = and_parts (fits W r) (all_fit W rs) h in (shape W r a.0, shapes W rs a.1)

pub shapes_fit : (W : ℕ) (rs : List Rule) → AllByRecursion (Shape W) rs → all_fit W rs ≡ true
shapes_fit W [] h = refl
shapes_fit W (r ∷ rs) (s, h) = and_from (fits W r) (all_fit W rs) (shape_fits W r s) (shapes_fit W rs h)
