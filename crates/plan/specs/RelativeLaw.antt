-- The relative measure is lawful.
use Rattle.std.specs.Prelude.{◌≡◌, ℕ, zero, suc, ◌-◌, ◌*◌, ◌/◌, ◌^◌, ◌<◌, ◌≤◌, refl}
use Rattle.std.proofs.Common.{sym, subst, arith, div-le_self, div-mul-le_self, le-div_iff_mul-le}
use Rattle.std.proofs.Math.Decide.{dec_le}
use Rattle.std.proofs.lemmas.Bool.Decides.{nat_tests}
use Rattle.plan.specs.Measures.{Lawful}
use Rattle.plan.specs.Relative.{thousandths, excess, relative}
use Rattle.plan.specs.Ranged.{small, ranged_lawful}

-- ---- the rounding: a larger part has no smaller figure, and no figure is above 2 ^ 40

thousandths_more : (a b whole : ℕ) → a ≤ b → thousandths a whole ≤ thousandths b whole
thousandths_more a b zero h = omega arith
thousandths_more a b (suc w) h =
    (le-div_iff_mul-le {k = suc w} {x = 1000 * a / suc w} {y = 1000 * b} (omega arith)).1 (omega (arith, div-mul-le_self (1000 * a) (suc w)))

thousandths_most : (a whole : ℕ) → a ≤ 2 ^ 24 → thousandths a whole ≤ 2 ^ 40
thousandths_most a zero h = omega arith
thousandths_most a (suc w) h = omega (arith, div-le_self (1000 * a) (suc w))

-- ---- above, below and at the target

above : (W c d : ℕ) → c < d → excess W c d ≡ thousandths (d - c) c
above W c d h = grind (arith, nat_tests)

below : (W c d : ℕ) → d < c → excess W c d ≡ thousandths (c - d) (2 ^ W - c)
below W c d h = grind (arith, nat_tests)

at : (W c d : ℕ) → c ≡ d → excess W c d ≡ 0
at W c d h = grind (arith, nat_tests)

-- ---- the law

lighter : (W c x y : ℕ) → x ≤ y → y ≤ c → excess W c y ≤ excess W c x
lighter W c x y h k = go (dec_le c y)
  where
    go : Dec (c ≤ y) → excess W c y ≤ excess W c x
    go (yes p) = omega (arith, at W c y (omega arith))
    go (no p) =
        let a = below W c y (omega arith) in
        let b = below W c x (omega arith) in
        let t = thousandths_more (c - y) (c - x) (2 ^ W - c) (omega arith) in
        subst (λ (v : ℕ). v ≤ excess W c x) (sym a) (subst (λ (v : ℕ). thousandths (c - y) (2 ^ W - c) ≤ v) (sym b) t)

heavier : (W c x y : ℕ) → c ≤ y → y ≤ x → excess W c y ≤ excess W c x
heavier W c x y h k = go (dec_le y c)
  where
    go : Dec (y ≤ c) → excess W c y ≤ excess W c x
    go (yes p) = omega (arith, at W c y (omega arith))
    go (no p) =
        let a = above W c y (omega arith) in
        let b = above W c x (omega arith) in
        let t = thousandths_more (y - c) (x - c) c (omega arith) in
        subst (λ (v : ℕ). v ≤ excess W c x) (sym a) (subst (λ (v : ℕ). thousandths (y - c) c ≤ v) (sym b) t)

most : (W c d : ℕ) → c ≤ 2 ^ 24 → d ≤ 2 ^ 24 → excess W c d ≤ 2 ^ 40
most W c d h k = go (dec_le c d) (dec_le d c)
  where
    go : Dec (c ≤ d) → Dec (d ≤ c) → excess W c d ≤ 2 ^ 40
    go (yes p) (yes q) = omega (arith, at W c d (omega arith))
    go (yes p) (no q) = subst (λ (v : ℕ). v ≤ 2 ^ 40) (sym (above W c d (omega arith))) (thousandths_most (d - c) c (omega arith))
    go (no p) q = subst (λ (v : ℕ). v ≤ 2 ^ 40) (sym (below W c d (omega arith))) (thousandths_most (c - d) (2 ^ W - c) (omega arith))

pub relative_lawful : Lawful relative
unfolding relative
relative_lawful = ranged_lawful excess (record {
  bounded = λ W c d i. most W c d (small W c i.most i.target) (small W d i.most i.weight);
  exact = λ W c. at W c c refl;
  lighter = lighter;
  heavier = heavier;
})
