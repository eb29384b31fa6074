-- The rules of all tables one after the other: what one step takes, and how many there are.
use Rattle.std.proofs.Common.{◌≡◌, ℕ, suc, ◌+◌, ◌-◌, ◌*◌, ◌^◌, ◌<◌, ◌≤◌, false, List, [], ◌∷◌, ◌++◌, map, length, Some, None, Option, slice_index_or, sym, refl, ap, ◌∙◌, subst, arith}
use Rattle.std.specs.List.{flat_map}
use Rattle.std.proofs.lemmas.Iterator.{YieldsList}
use Rattle.std.proofs.lemmas.Iterator.Consumers.{YieldsList-from_shown}
use Rattle.std.proofs.lemmas.List.{length-append, length-map}
use Rattle.rules.specs.declared.rule.Rule.{Rule}
use Rattle.rules.specs.Tables.{table}
use Rattle.rules.proofs.Fewness.{L_most}
use Rattle.rules.proofs.Tables.{table_laws}
use Rattle.plan.specs.Plans.{beyond}
use Rattle.model.specs.Keyed.{from, tags, table_of}
use Rattle.switch.specs.declared.tables.TaggedRule.{TaggedRule}
use Rattle.switch.specs.declared.tables.TaggedRules.{TaggedRules}
use Rattle.switch.specs.declared.tables.Tables.{Tables}
use Rattle.switch.specs.Tabled.{tagged, tagged_of, tagged_rules, left_in}
use Rattle.switch.specs.Walked.{rules_left, Gives}
use Rattle.switch.proofs.Keying.{fit_at}

-- ---- one step

-- the last table is through
pub none_left : (s : TaggedRules) → left_in s.table ≡ [] → s.tag ≡ 63 → rules_left s ≡ []
unfolding rules_left from
none_left s e g =
    ap (λ (rs : List Rule). map (tagged s.tables.width.bits s.tag) rs ++ flat_map (tagged_of s.tables.width.bits s.tables.weights.now) (from (63 - s.tag) (s.tag + 1))) e
    ∙ ap (λ (n : ℕ). flat_map (tagged_of s.tables.width.bits s.tables.weights.now) (from (63 - n) (n + 1))) g

-- a table is through, and the next one is begun
pub next_table : (s t : TaggedRules) → left_in s.table ≡ [] → s.tag < 63 → t.tables ≡ s.tables → t.tag ≡ s.tag + 1
    → left_in t.table ≡ table_of s.tables.width.bits (slice_index_or s.tables.weights.now (s.tag + 1) None) → rules_left s ≡ rules_left t
unfolding rules_left tagged_of from
next_table s t e k u g h =
    let W = s.tables.width.bits in
    let f = tagged_of W s.tables.weights.now in
    let n : 63 - s.tag ≡ suc (63 - (s.tag + 1)) = omega arith in
    let m : suc (s.tag + 1) ≡ s.tag + 1 + 1 = omega arith in
    ap (λ (rs : List Rule). map (tagged W s.tag) rs ++ flat_map f (from (63 - s.tag) (s.tag + 1))) e
    ∙ ap (λ (j : ℕ). flat_map f (from j (s.tag + 1))) n
    ∙ ap (λ (j : ℕ). f (s.tag + 1) ++ flat_map f (from (63 - (s.tag + 1)) j)) m
    ∙ ap (λ (rs : List Rule). map (tagged W (s.tag + 1)) rs ++ flat_map f (from (63 - (s.tag + 1)) (s.tag + 1 + 1))) (sym h)
    ∙ ap (λ (j : ℕ). map (tagged W j) (left_in t.table) ++ flat_map f (from (63 - j) (j + 1))) (sym g)
    ∙ ap (λ (a : Tables). map (tagged a.width.bits t.tag) (left_in t.table) ++ flat_map (tagged_of a.width.bits a.weights.now) (from (63 - t.tag) (t.tag + 1))) (sym u)

-- ---- all steps

pub all_given : (s : TaggedRules) (all : List TaggedRule) → rules_left s ≡ all → YieldsList Gives (λ (r : TaggedRule). r) s all
all_given s all e =
    subst (YieldsList Gives (λ (r : TaggedRule). r) s) e (YieldsList-from_shown Gives (λ (r : TaggedRule). r) rules_left (λ s t g. ap length g.0) (λ s r t g. g) s)

-- no table has more than 13 rules
module _ (W : ℕ) (ds : List (Option ℕ)) (w : W ≤ 24) (h : beyond (2 ^ W) ds ≡ false) where
  few_of : (t : ℕ) (o : Option ℕ) → slice_index_or ds t None ≡ o → length (map (tagged W t) (table_of W o)) ≤ 13
  few_of t None e = omega arith
  few_of t (Some d) e =
      let k = fit_at W ds t d h e in
      omega (arith, length-map (table W d) (tagged W t), (table_laws W d k).long, L_most W d w k)

  few_over : (ts : List ℕ) → length (flat_map (tagged_of W ds) ts) ≤ 13 * length ts
  unfolding tagged_of
  few_over [] = omega arith
  few_over (t ∷ ts) = omega (arith, length-append (tagged_of W ds t) (flat_map (tagged_of W ds) ts), few_of t (slice_index_or ds t None) refl, few_over ts)

  pub few_rules : length (tagged_rules W ds) ≤ 832
  unfolding tagged_rules tags from
  few_rules = few_over tags
