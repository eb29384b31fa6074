-- The least number that passes a test.
use Rattle.std.proofs.Common.{◌≡◌, ℕ, zero, suc, ◌+◌, ◌<◌, ◌≤◌, Bool, true, false, leb, sym, refl, ap, ◌∙◌, subst, arith}
use native.Mathlib.Decide.{dec_le}
use Rattle.std.proofs.lemmas.Bool.Decides.{nat_tests}
use Rattle.plan.specs.Nearest.{least}

pub leb_from_le : (a b : ℕ) → a ≤ b → leb a b ≡ true
leb_from_le a b h = grind (arith, nat_tests)

pub le_from_leb : (a b : ℕ) → leb a b ≡ true → a ≤ b
le_from_leb a b h = grind (arith, nat_tests)

pub leb_from_gt : (a b : ℕ) → b < a → leb a b ≡ false
leb_from_gt a b h = grind (arith, nat_tests)

-- r is the least from k on
pub record LeastFrom (p : ℕ → Bool) (k r : ℕ) : Type 0 where
  pub from : k ≤ r
  pub holds : p r ≡ true
  pub first : (j : ℕ) → k ≤ j → p j ≡ true → r ≤ j

pub least_is : (p : ℕ → Bool) (k f : ℕ) → p (k + f) ≡ true → LeastFrom p k (least p k f)
unfolding least
least_is p k zero h =
    let e : k + 0 ≡ k = omega arith in
    record { from = omega arith; holds = subst (λ (x : ℕ). p x ≡ true) e h; first = λ j l t. l }
least_is p k (suc f) h = go (p k) refl (λ q. least_is p (suc k) f q)
  where
    e : k + suc f ≡ suc k + f
    e = omega arith

    go : (b : Bool) → p k ≡ b → (p (suc k + f) ≡ true → LeastFrom p (suc k) (least p (suc k) f))
        → LeastFrom p k (elim b [ true ↦ k | false ↦ least p (suc k) f ])
    go true q ih = record { from = omega arith; holds = q; first = λ j l t. l }
    go false q ih =
        let i = ih (subst (λ (x : ℕ). p x ≡ true) e h) in
        record { from = omega (arith, i.from); holds = i.holds; first = λ j l t. later i j l t (dec_le j k) }
      where
        later : LeastFrom p (suc k) (least p (suc k) f) → (j : ℕ) → k ≤ j → p j ≡ true → Dec (j ≤ k) → least p (suc k) f ≤ j
        later i j l t (no m) = i.first j (omega arith) t
        later i j l t (yes m) =
            let z : k ≡ j = omega arith in
            let w : false ≡ true = sym q ∙ ap p z ∙ t in
            absurd (grind (arith, nat_tests))

-- r is where all before it fail, and it passes or is the last
pub least_at : (p : ℕ → Bool) (k f r : ℕ) → k ≤ r → r ≤ k + f → ((j : ℕ) → k ≤ j → j < r → p j ≡ false) → (r < k + f → p r ≡ true) → least p k f ≡ r
unfolding least
least_at p k zero r a b c d = omega arith
least_at p k (suc f) r a b c d = go (dec_le r k) (p k) refl (least_at p (suc k) f r)
  where
    go : Dec (r ≤ k) → (v : Bool) → p k ≡ v
        → (suc k ≤ r → r ≤ suc k + f → ((j : ℕ) → suc k ≤ j → j < r → p j ≡ false) → (r < suc k + f → p r ≡ true) → least p (suc k) f ≡ r)
        → elim v [ true ↦ k | false ↦ least p (suc k) f ] ≡ r
    go (yes q) true e ih = omega arith
    go (yes q) false e ih =
        let s : r ≡ k = omega arith in
        let w : true ≡ false = sym (d (omega arith)) ∙ ap p s ∙ e in
        absurd (grind (arith, nat_tests))
    go (no q) true e ih =
        let w : false ≡ true = sym (c k (omega arith) (omega arith)) ∙ e in
        absurd (grind (arith, nat_tests))
    go (no q) false e ih = ih (omega arith) (omega arith) (λ j l m. c j (omega arith) m) (λ l. d (omega arith))

least_ge : (p : ℕ → Bool) (k f : ℕ) → k ≤ least p k f
unfolding least
least_ge p k zero = omega arith
least_ge p k (suc f) = go (p k) (least_ge p (suc k) f)
  where
    go : (v : Bool) → suc k ≤ least p (suc k) f → k ≤ elim v [ true ↦ k | false ↦ least p (suc k) f ]
    go true h = omega arith
    go false h = omega arith

-- a test that passes more often has no larger least
pub least_mono : (p q : ℕ → Bool) → ((j : ℕ) → p j ≡ true → q j ≡ true) → (k f : ℕ) → least q k f ≤ least p k f
unfolding least
least_mono p q h k zero = omega arith
least_mono p q h k (suc f) = go (p k) (q k) (h k) (least_mono p q h (suc k) f)
  where
    go : (a b : Bool) → (a ≡ true → b ≡ true) → least q (suc k) f ≤ least p (suc k) f
        → elim b [ true ↦ k | false ↦ least q (suc k) f ] ≤ elim a [ true ↦ k | false ↦ least p (suc k) f ]
    go true true i l = omega arith
    go true false i l = absurd (let w : false ≡ true = i refl in grind (arith, nat_tests))
    go false true i l = omega (arith, least_ge p (suc k) f)
    go false false i l = l
