-- How many key rules there are, and how many steps.
use Rattle.std.proofs.Common.{◌≡◌, ℕ, zero, suc, ◌+◌, ◌*◌, ◌^◌, ◌≤◌, Bool, not, List, ◌∷◌, map, length, get_or, drop, Some, None, filter, Option, sym, refl, ap, ◌∙◌, arith}
use Rattle.std.specs.List.{flat_map}
use Rattle.std.proofs.lemmas.List.{length-append, length-map, at_drop_more}
use Rattle.std.proofs.lemmas.List.Filters.{length-filter_both}
use Rattle.rules.specs.Shortest.{L}
use Rattle.rules.specs.Tables.{table}
use Rattle.rules.proofs.Fewness.{L_most}
use Rattle.rules.proofs.Tables.{table_laws}
use Rattle.memory.specs.declared.key.KeyRule.{KeyRule}
use Rattle.plan.specs.ByTag.{total}
use Rattle.plan.specs.Plans.{rule_total}
use Rattle.plan.proofs.ByTags.{total_all}
use Rattle.model.specs.declared.write.Write.TheVariants.{Put}
use Rattle.model.specs.Keyed.{keyed, from, tags, table_of, rules_of, key_rules}
use Rattle.model.specs.Changes.{lack_prefix, lack_rule, removed, put, remove, steps}
use Rattle.model.proofs.Keys.{InRange, steps_are}

module _ (W : ℕ) (ds : List (Option ℕ)) (h : InRange W ds) where
  -- one tag more
  with_tag : (t : ℕ) (o : Option ℕ) → ((d : ℕ) → o ≡ Some d → d ≤ 2 ^ W) → (others : List (Option ℕ))
      → length (map (keyed W t) (table_of W o)) + total (L W) others ≡ total (L W) (o ∷ others)
  with_tag t None k others = omega arith
  with_tag t (Some d) k others = ap (λ (n : ℕ). n + total (L W) others) (length-map (table W d) (keyed W t) ∙ (table_laws W d (k d refl)).long)

  from_tag : (n s : ℕ) → s + n ≡ length ds → length (flat_map (rules_of W ds) (from n s)) ≡ total (L W) (drop s ds)
  unfolding from rules_of
  from_tag zero s e = sym (total_all (L W) ds s (omega arith))
  from_tag (suc n) s e =
      let one : suc s ≡ s + 1 = omega arith in
      length-append (rules_of W ds s) (flat_map (rules_of W ds) (from n (suc s)))
      ∙ ap (λ (m : ℕ). length (rules_of W ds s) + m) (from_tag n (suc s) (omega arith) ∙ ap (λ (i : ℕ). total (L W) (drop i ds)) one)
      ∙ with_tag s (get_or ds s None) (h s) (drop (s + 1) ds) ∙ sym (at_drop_more (total (L W)) ds s None (omega arith))

  -- There are as many key rules as the shortest tables of the weights have.
  pub key_count : length ds ≡ 64 → length (key_rules W ds) ≡ rule_total W ds
  unfolding key_rules tags
  key_count e = from_tag 64 0 (omega arith)

  table_few : W ≤ 24 → (t : ℕ) (o : Option ℕ) → ((d : ℕ) → o ≡ Some d → d ≤ 2 ^ W) → length (map (keyed W t) (table_of W o)) ≤ 13
  table_few w t None k = omega arith
  table_few w t (Some d) k = omega (arith, length-map (table W d) (keyed W t), (table_laws W d (k d refl)).long, L_most W d w (k d refl))

  tags_few : W ≤ 24 → (n s : ℕ) → length (flat_map (rules_of W ds) (from n s)) ≤ n * 13
  unfolding from rules_of
  tags_few w zero s = omega arith
  tags_few w (suc n) s = omega (arith, length-append (rules_of W ds s) (flat_map (rules_of W ds) (from n (suc s))), table_few w s (get_or ds s None) (h s), tags_few w n (suc s))

  keys_few : W ≤ 24 → length (key_rules W ds) ≤ 832
  unfolding key_rules tags
  keys_few w = omega (arith, tags_few w 64 0)

kept_few : (p : KeyRule → Bool) (rs : List KeyRule) → length (filter p rs) ≤ length rs
kept_few p rs = omega (arith, length-filter_both p (λ r. not (p r)) (λ r. refl) rs)

-- No change takes more than 1664 steps: 64 tables of at most 13 rules, removed and put.
pub steps_few : (W : ℕ) (A B : List (Option ℕ)) → InRange W A → InRange W B → W ≤ 24 → length (steps W A B) ≤ 1664
steps_few W A B a b w =
    let gone : List KeyRule = removed (key_rules W A) (key_rules W B) in
    let new : List KeyRule = put (key_rules W A) (key_rules W B) in
    omega (
      arith,
      ap length (steps_are W A B a b),
      length-append (map remove gone) (map Put new),
      length-map gone remove,
      length-map new Put,
      kept_few (lack_prefix (key_rules W B)) (key_rules W A),
      kept_few (lack_rule (key_rules W A)) (key_rules W B),
      keys_few W A a w,
      keys_few W B b w,
    )
