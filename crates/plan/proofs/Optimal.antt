-- The plan is what its words say, and no rival is better: under any lawful measure.
use Rattle.std.proofs.Common.{◌≡◌, ℕ, ◌+◌, ◌^◌, ◌≤◌, leb, List, [], ◌∷◌, length, Some, None, Option, refl, ap, ◌∙◌, ap₂, arith}
use Rattle.std.proofs.lemmas.List.{length-reverse}
use Rattle.rules.specs.declared.rule.Rule.{Rule}
use Rattle.rules.specs.declared.server.Server.TheVariants.{One}
use Rattle.rules.specs.Prefixes.{weight}
use Rattle.rules.specs.Shortest.{L}
use Rattle.rules.specs.Tables.{table, ShortestTable}
use Rattle.rules.proofs.Blocks.{block_le, block_answered}
use Rattle.rules.proofs.Bound.{least_rules}
use Rattle.rules.proofs.Tables.{table_laws}
use Rattle.plan.specs.ByTag.{total, by_tag, Every, Each}
use Rattle.plan.specs.Measures.{Misses, Lawful}
use Rattle.plan.specs.Nearest.{Least, Reaches, nearest, need}
use Rattle.plan.specs.Plans.{services, Targets, needs, worst_miss, weights_for, rule_total, largest_miss, Given, Plan}
use Rattle.plan.specs.Rivals.{Whole, rival_miss, tables, Best}
use Rattle.plan.proofs.LeastNumbers.{least_is, leb_from_le, le_from_leb}
use Rattle.plan.proofs.NeedLaws.{need_miss, need_is, need_first, need_nearest, need_exact, given_is, need_one}

module _ (miss : Misses) (lawful : Lawful miss) (W : ℕ) (low : 1 ≤ W) (high : W ≤ 24) where
  -- ---- the worst miss

  pub needs_services : (ts : List (Option ℕ)) → Targets W ts → needs miss W (2 ^ 40) ts ≡ services ts
  unfolding needs
  needs_services [] h = refl
  needs_services (None ∷ ts) h = needs_services ts h
  needs_services (Some c ∷ ts) (h, k) = omega (arith, need_one miss lawful W low high c h, needs_services ts k)

  pub worst_is : (R : ℕ) (ts : List (Option ℕ)) → Targets W ts → services ts ≤ R → Least (λ e. needs miss W e ts ≤ R) (worst_miss miss W R ts)
  unfolding worst_miss
  worst_is R ts h k =
      let i = least_is (λ e. leb (needs miss W e ts) R) 0 (2 ^ 40) (leb_from_le (needs miss W (2 ^ 40) ts) R (omega (arith, needs_services ts h))) in
      record {
        holds = le_from_leb (needs miss W (worst_miss miss W R ts) ts) R i.holds;
        first = λ e l. i.first e (omega arith) (leb_from_le (needs miss W e ts) R l);
      }

  -- ---- the weights for some miss e

  every_need : (e : ℕ) (ts : List (Option ℕ)) → Targets W ts → Every (λ c. Least (Reaches miss W c e) (need miss W c e)) ts
  every_need e [] h = tt
  every_need e (None ∷ ts) h = every_need e ts h
  every_need e (Some c ∷ ts) (h, k) = (need_is miss lawful W low high c e h, every_need e ts k)

  each_given : (e : ℕ) (ts : List (Option ℕ)) → Targets W ts → Each (Given miss W e) ts (weights_for miss W e ts)
  unfolding weights_for
  each_given e [] h = tt
  each_given e (None ∷ ts) h = (tt, each_given e ts h)
  each_given e (Some c ∷ ts) (h, k) = (given_is miss lawful W low high c e h, each_given e ts k)

  pub rules_needs : (e : ℕ) (ts : List (Option ℕ)) → Targets W ts → rule_total W (weights_for miss W e ts) ≡ needs miss W e ts
  unfolding needs weights_for
  rules_needs e [] h = refl
  rules_needs e (None ∷ ts) h = rules_needs e ts h
  rules_needs e (Some c ∷ ts) (h, k) = omega (arith, need_exact miss lawful W low high c e h, rules_needs e ts k)

  largest_le : (e : ℕ) (ts : List (Option ℕ)) → Targets W ts → largest_miss miss W ts (weights_for miss W e ts) ≤ e
  unfolding weights_for
  largest_le e [] h = omega arith
  largest_le e (None ∷ ts) h = largest_le e ts h
  largest_le e (Some c ∷ ts) (h, k) = omega (arith, need_miss miss lawful W low high c e h, largest_le e ts k)

  -- what they really miss by needs no more
  needs_le : (e f : ℕ) (ts : List (Option ℕ)) → Targets W ts → largest_miss miss W ts (weights_for miss W e ts) ≤ f
      → needs miss W f ts ≤ needs miss W e ts
  unfolding needs weights_for
  needs_le e f [] h l = omega arith
  needs_le e f (None ∷ ts) h l = needs_le e f ts h l
  needs_le e f (Some c ∷ ts) (h, k) l =
      let i = need_nearest miss lawful W low high c e h in
      let a = need_first miss lawful W low high c f (nearest miss W c (need miss W c e)) h i.weight (omega arith) in
      omega (arith, a, need_exact miss lawful W low high c e h, needs_le e f ts k (omega arith))

  -- ---- rivals

  weight_le : (rs : List Rule) → weight W rs ≤ 2 ^ W
  weight_le rs = omega (arith, block_answered W rs (Some One), block_le W rs (Some One) 0 (2 ^ W))

  whole_long : (rs : List Rule) → Whole W rs → L W (weight W rs) ≤ length rs
  whole_long rs w = least_rules W (weight W rs) rs (record { fit = w.fit; covers = w.covers; exact = refl })

  -- a rival has at least as many rules as are needed for its miss
  rival_needs : (f : ℕ) (ts : List (Option ℕ)) (rs : List (Option (List Rule))) → Targets W ts → Each (λ c r. Whole W r) ts rs
      → rival_miss miss W ts rs ≤ f → needs miss W f ts ≤ total length rs
  unfolding needs
  rival_needs f [] [] h s l = omega arith
  rival_needs f [] (r ∷ rs) h s l = absurd s
  rival_needs f (t ∷ ts) [] h s l = absurd s
  rival_needs f (None ∷ ts) (None ∷ rs) h (z, s) l = rival_needs f ts rs h s l
  rival_needs f (None ∷ ts) (Some r ∷ rs) h (z, s) l = absurd z
  rival_needs f (Some c ∷ ts) (None ∷ rs) h (z, s) l = absurd z
  rival_needs f (Some c ∷ ts) (Some r ∷ rs) (h, k) (w, s) l =
      let a = need_first miss lawful W low high c f (weight W r) h (weight_le r) (omega arith) in
      omega (arith, a, whole_long r w, rival_needs f ts rs k s (omega arith))

  -- ---- the plan's own tables

  own_table : (c e : ℕ) → c ≤ 2 ^ W → ShortestTable W (nearest miss W c (need miss W c e)) (table W (nearest miss W c (need miss W c e)))
  own_table c e h = table_laws W (nearest miss W c (need miss W c e)) (need_nearest miss lawful W low high c e h).weight

  own_whole : (e : ℕ) (ts : List (Option ℕ)) → Targets W ts → Each (λ c r. Whole W r) ts (tables W (weights_for miss W e ts))
  unfolding weights_for
  own_whole e [] h = tt
  own_whole e (None ∷ ts) h = (tt, own_whole e ts h)
  own_whole e (Some c ∷ ts) (h, k) =
      let t = own_table c e h in
      (record { fit = t.splits.fit; covers = t.splits.covers }, own_whole e ts k)

  own_weights : (e : ℕ) (ts : List (Option ℕ)) → Targets W ts → by_tag (weight W) (tables W (weights_for miss W e ts)) ≡ weights_for miss W e ts
  unfolding weights_for
  own_weights e [] h = refl
  own_weights e (None ∷ ts) h = ap (λ (x : List (Option ℕ)). None ∷ x) (own_weights e ts h)
  own_weights e (Some c ∷ ts) (h, k) =
      ap₂ (λ (d : ℕ) (x : List (Option ℕ)). Some d ∷ x) (own_table c e h).splits.exact (own_weights e ts k)

  own_rules : (e : ℕ) (ts : List (Option ℕ)) → Targets W ts → total length (tables W (weights_for miss W e ts)) ≡ rule_total W (weights_for miss W e ts)
  unfolding weights_for
  own_rules e [] h = refl
  own_rules e (None ∷ ts) h = own_rules e ts h
  own_rules e (Some c ∷ ts) (h, k) =
      ap₂ (λ (a b : ℕ). a + b) (length-reverse (table W (nearest miss W c (need miss W c e))) ∙ (own_table c e h).long) (own_rules e ts k)

  -- ---- the plan

  -- an E that is the least brings both, whoever found it
  module _ (R : ℕ) (ts : List (Option ℕ)) (h : Targets W ts) (E : ℕ) (i : Least (λ e. needs miss W e ts ≤ R) E) where
    exact : largest_miss miss W ts (weights_for miss W E ts) ≡ E
    exact =
        let g : ℕ = largest_miss miss W ts (weights_for miss W E ts) in
        let l = largest_le E ts h in
        omega (arith, l, i.first g (omega (arith, i.holds, needs_le E g ts h (omega arith))))

    pub plan_is : Plan miss W R ts (weights_for miss W E ts) E (needs miss W E ts)
    plan_is = record {
      need_is = λ e. every_need e ts h;
      least_worst = i;
      given = each_given E ts h;
      largest = exact;
      counted = rules_needs E ts h;
      room = i.holds;
    }

    pub plan_best : Best miss W R ts (weights_for miss W E ts) E (needs miss W E ts)
    plan_best =
        let m = own_rules E ts h ∙ rules_needs E ts h in
        record {
          own = record { lists = own_whole E ts h; room = omega (arith, m, i.holds) };
          own_miss = ap (largest_miss miss W ts) (own_weights E ts h) ∙ exact;
          own_rules = m;
          least_miss = λ rs v. i.first (rival_miss miss W ts rs) (omega (arith, v.room, rival_needs (rival_miss miss W ts rs) ts rs h v.lists (omega arith)));
          then_fewest = λ rs v e. rival_needs E ts rs h v.lists (omega (arith, e));
        }
