-- What is known once no ground fits.
use Rattle.std.proofs.Common.{◌≡◌, ℕ, ◌^◌, ◌<◌, ◌≤◌, Bool, true, false, cond, eqb, ltb, List, Some, None, Option, refl, arith}
use Rattle.std.proofs.lemmas.Bool.Decides.{nat_tests}
use Rattle.rules.specs.declared.refusal.Refusal.{Refusal}
use Rattle.rules.specs.Grounds.{bad_width, limit_grounds}
use Rattle.rules.specs.Refusals.{first}
use Rattle.plan.specs.Grounds.{plan_grounds}
use Rattle.plan.specs.Plans.{services, Targets}
use Rattle.plan.proofs.ByTags.{none_above}

-- a ground that does not fit leaves it to those behind it
pub past : (b : Bool) (why : Refusal) (o : Option Refusal) → None ≡ cond b (Some why) o → (b ≡ false) × (None ≡ o)
past true why o e = let z : ◌≡◌ {A = ℕ} 0 1 = cc in absurd (omega arith)
past false why o e = (refl, e)

-- a width, a target and a rule limit
pub record Limited (W c n : ℕ) : Type 0 where
  pub some : 1 ≤ W
  pub most : W ≤ 24
  pub target : c ≤ 2 ^ W
  pub limit : 0 < n

pub limited : (W c n : ℕ) → None ≡ first (limit_grounds W c n) → Limited W c n
limited W c n e =
    let p = past _ _ _ e in
    let q = past _ _ _ p.1 in
    let r = past _ _ _ q.1 in
    let a : bad_width W ≡ false = p.0 in
    let b : ltb (2 ^ W) c ≡ false = q.0 in
    let d : eqb n 0 ≡ false = r.0 in
    record { some = grind (arith, nat_tests); most = grind (arith, nat_tests); target = grind (arith, nat_tests); limit = grind (arith, nat_tests) }

-- a width, a capacity and targets
pub record Admitted (W R : ℕ) (ts : List (Option ℕ)) : Type 0 where
  pub some : 1 ≤ W
  pub most : W ≤ 24
  pub targets : Targets W ts
  pub room : services ts ≤ R

pub admitted : (W R : ℕ) (ts : List (Option ℕ)) → None ≡ first (plan_grounds W R ts) → Admitted W R ts
admitted W R ts e =
    let p = past _ _ _ e in
    let q = past _ _ _ p.1 in
    let r = past _ _ _ q.1 in
    let a : bad_width W ≡ false = p.0 in
    let d : ltb R (services ts) ≡ false = r.0 in
    record { some = grind (arith, nat_tests); most = grind (arith, nat_tests); targets = none_above (2 ^ W) ts q.0; room = grind (arith, nat_tests) }
