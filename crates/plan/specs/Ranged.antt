-- A formula makes a lawful measure where it is lawful in range.
use Rattle.std.specs.Prelude.{◌≡◌, ℕ, ◌^◌, ◌≤◌, Bool, true, false, cond, refl}
use Rattle.std.proofs.Common.{sym, ap, subst, arith, pow_mono}
use Rattle.std.proofs.lemmas.Bool.Decides.{nat_tests}
use Rattle.plan.specs.Measures.{Misses, Lawful, in_range, ranged}

-- what being in range says
pub record Inside (W c d : ℕ) : Type 0 where
  pub some : 1 ≤ W
  pub most : W ≤ 24
  pub target : c ≤ 2 ^ W
  pub weight : d ≤ 2 ^ W

pub inside : (W c d : ℕ) → in_range W c d ≡ true → Inside W c d
inside W c d e = record { some = grind (arith, nat_tests); most = grind (arith, nat_tests); target = grind (arith, nat_tests); weight = grind (arith, nat_tests) }

pub inside_range : (W c d : ℕ) → Inside W c d → in_range W c d ≡ true
inside_range W c d i = grind (arith, nat_tests, i.some, i.most, i.target, i.weight)

-- no number in range passes 2 ^ 24
pub small : (W c : ℕ) → W ≤ 24 → c ≤ 2 ^ W → c ≤ 2 ^ 24
small W c h k = omega (arith, pow_mono h)

-- what is owed of a formula
pub record Formula (f : Misses) : Type 0 where
  pub bounded : (W c d : ℕ) → Inside W c d → f W c d ≤ 2 ^ 40
  pub exact : (W c : ℕ) → f W c c ≡ 0
  pub lighter : (W c x y : ℕ) → x ≤ y → y ≤ c → f W c y ≤ f W c x
  pub heavier : (W c x y : ℕ) → c ≤ y → y ≤ x → f W c y ≤ f W c x

module _ (f : Misses) (law : Formula f) where
  within : (W c d : ℕ) → in_range W c d ≡ true → ranged f W c d ≡ f W c d
  within W c d e = ap (λ (b : Bool). cond b (f W c d) (2 ^ 40)) e

  without : (W c d : ℕ) → in_range W c d ≡ false → ranged f W c d ≡ 2 ^ 40
  without W c d e = ap (λ (b : Bool). cond b (f W c d) (2 ^ 40)) e

  closer : (W c x y : ℕ) → in_range W c x ≡ true → y ≤ 2 ^ W → in_range W c y ≡ true
  closer W c x y e h =
      let i = inside W c x e in
      inside_range W c y (record { some = i.some; most = i.most; target = i.target; weight = h })

  both : (W c x y : ℕ) → in_range W c x ≡ true → in_range W c y ≡ true → f W c y ≤ f W c x → ranged f W c y ≤ ranged f W c x
  both W c x y a b h =
      subst (λ (v : ℕ). v ≤ ranged f W c x) (sym (within W c y b)) (subst (λ (v : ℕ). f W c y ≤ v) (sym (within W c x a)) h)

  at_most : (W c d : ℕ) (b : Bool) → in_range W c d ≡ b → ranged f W c d ≤ 2 ^ 40
  at_most W c d true e = subst (λ (v : ℕ). v ≤ 2 ^ 40) (sym (within W c d e)) (law.bounded W c d (inside W c d e))
  at_most W c d false e = subst (λ (v : ℕ). v ≤ 2 ^ 40) (sym (without W c d e)) (omega arith)

  pub ranged_lawful : Lawful (ranged f)
  ranged_lawful = record {
    bounded = λ W c d. at_most W c d (in_range W c d) refl;
    outside = without;
    exact = λ W c e. subst (λ (v : ℕ). v ≡ 0) (sym (within W c c e)) (law.exact W c);
    lighter = λ W c x y e h k. both W c x y e (closer W c x y e (omega (arith, (inside W c x e).target))) (law.lighter W c x y h k);
    heavier = λ W c x y e h k. both W c x y e (closer W c x y e (omega (arith, (inside W c x e).weight))) (law.heavier W c x y h k);
  }
