-- What the parts of the planner found, put together.
use Rattle.std.proofs.Common.{◌≡◌, ℕ, ◌^◌, ◌≤◌, List, Option, sym, ap, ◌∙◌, subst, arith}
use Rattle.plan.specs.declared.reach.Reach.{Reach}
use Rattle.plan.specs.ByTag.{Each}
use Rattle.plan.specs.Measures.{Misses, Lawful}
use Rattle.plan.specs.Nearest.{Least}
use Rattle.plan.specs.Plans.{Plan, needs, worst_miss, weights_for, plan_weights, rule_total}
use Rattle.plan.specs.Reached.{Noted, noted_needs, noted_weights}
use Rattle.plan.specs.Rivals.{Best}
use Rattle.plan.proofs.Noting.{noted_all, noted_given}
use Rattle.plan.proofs.Optimal.{needs_services, worst_is, rules_needs, plan_is, plan_best}
use Rattle.plan.proofs.Passing.{Admitted}

pub record Finished (miss : Misses) (W R : ℕ) (ts ds : List (Option ℕ)) (E T : ℕ) : Type 0 where
  pub worst : E ≡ worst_miss miss W R ts
  pub weights : ds ≡ plan_weights miss W R ts
  pub rules : T ≡ rule_total W ds
  pub words : Plan miss W R ts ds E T
  pub best : Best miss W R ts ds E T

module _ (miss : Misses) (lawful : Lawful miss) (W R : ℕ) (ts : List (Option ℕ)) (a : Admitted W R ts)
    (rs : List (Option Reach)) (s : Each (Noted miss W) ts rs) where
  noted : (e : ℕ) → noted_needs rs e ≡ needs miss W e ts
  noted e = noted_all miss lawful W a.some a.most e ts rs a.targets s

  -- one rule for each service does at 2 ^ 40
  pub enough : noted_needs rs (2 ^ 40) ≤ R
  enough = omega (arith, noted (2 ^ 40), needs_services miss lawful W a.some a.most ts a.targets, a.room)

  module _ (E : ℕ) (i : Least (λ e. noted_needs rs e ≤ R) E) where
    level : Least (λ e. needs miss W e ts ≤ R) E
    level = record { holds = omega (arith, noted E, i.holds); first = λ k h. i.first k (omega (arith, noted k)) }

    worst : E ≡ worst_miss miss W R ts
    worst =
        let j = worst_is miss lawful W a.some a.most R ts a.targets a.room in
        omega (arith, level.first (worst_miss miss W R ts) j.holds, j.first E level.holds)

    pub finished : (T : ℕ) (ds : List (Option ℕ)) → T ≡ noted_needs rs E → ds ≡ noted_weights miss E rs → Finished miss W R ts ds E T
    unfolding plan_weights
    finished T ds p q =
        let t : needs miss W E ts ≡ T = sym (p ∙ noted E) in
        let d : weights_for miss W E ts ≡ ds = sym (q ∙ noted_given miss lawful W a.some a.most E ts rs a.targets s) in
        record {
          worst = worst;
          weights = sym d ∙ ap (λ (e : ℕ). weights_for miss W e ts) worst;
          rules = sym t ∙ sym (rules_needs miss lawful W a.some a.most E ts a.targets) ∙ ap (rule_total W) d;
          words = subst (λ (n : ℕ). Plan miss W R ts ds E n) t
              (subst (λ (x : List (Option ℕ)). Plan miss W R ts x E (needs miss W E ts)) d
              (plan_is miss lawful W a.some a.most R ts a.targets E level));
          best = subst (λ (n : ℕ). Best miss W R ts ds E n) t
              (subst (λ (x : List (Option ℕ)). Best miss W R ts x E (needs miss W E ts)) d
              (plan_best miss lawful W a.some a.most R ts a.targets E level));
        }
