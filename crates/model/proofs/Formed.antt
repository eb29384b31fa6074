-- Every write of a change keeps the layout of its prefix.
use Rattle.std.proofs.Common.{◌≡◌, ℕ, zero, suc, ◌+◌, ◌-◌, ◌*◌, ◌%◌, ◌^◌, ◌<◌, ◌≤◌, true, List, map, get_or, None, Option, sym, ap, ◌∙◌, subst, ap₂, mul_assoc, arith, pow_pos, pow_mono, pow-add}
use lib.Arith.{digits_lt, digits_mod}
use Rattle.std.specs.List.{flat_map, AllByRecursion}
use Rattle.std.proofs.lemmas.Bool.{and_from, le-leb, lt-ltb, eq-eqb}
use Rattle.std.proofs.ByRecursion.{All-append, All-map, All-weaker, all_kept_by}
use Rattle.rules.specs.declared.rule.Rule.{Rule}
use Rattle.rules.proofs.Shapes.{Shape}
use Rattle.memory.specs.declared.key.KeyRule.{KeyRule}
use Rattle.memory.specs.Keys.{formed}
use Rattle.model.specs.declared.write.Write.{Write}
use Rattle.model.specs.declared.write.Write.TheVariants.{Remove, Put}
use Rattle.model.specs.Keyed.{key, keyed, from, tags, table_of, rules_of, key_rules}
use Rattle.model.specs.Changes.{lack_prefix, lack_rule, removed, put, remove, steps}
use Rattle.model.proofs.Keys.{InRange, all_shapes, steps_are}

-- The prefix of a write keeps its layout.
abbrev pub Formed : Write → Type 0
Formed (Remove p) = formed p.value p.length ≡ true
Formed (Put r) = formed r.prefix.value r.prefix.length ≡ true

keyed_formed : (W t : ℕ) (r : Rule) → W ≤ 24 → t < 64 → Shape W r → formed (key W t r.start) (32 - W + r.length) ≡ true
keyed_formed W t r w k f =
    and_from _ _ (le-leb (32 - W + r.length) 32 (omega (arith, f.short)))
    (and_from _ _ (lt-ltb (key W t r.start) (2 ^ 32) (omega (arith, digits_lt k f.low, pow_mono w))) (eq-eqb (key W t r.start % 2 ^ (32 - (32 - W + r.length))) 0 multiple))
  where
    m : ℕ
    m = f.aligned.0

    j : ℕ
    j = W - r.length

    multiple : key W t r.start % 2 ^ (32 - (32 - W + r.length)) ≡ 0
    multiple =
        let e : 32 - (32 - W + r.length) ≡ j = omega (arith, f.short) in
        let s : W ≡ r.length + j = omega (arith, f.short) in
        let q : t * 2 ^ W ≡ t * 2 ^ r.length * 2 ^ j
        = ap (λ (x : ℕ). t * x) (ap (λ (x : ℕ). 2 ^ x) s ∙ pow-add 2 r.length j) ∙ sym (mul_assoc t (2 ^ r.length) (2 ^ j)) in
        let v : key W t r.start ≡ (t * 2 ^ r.length + m) * 2 ^ j + 0 = omega (arith, q, f.aligned.1) in
        ap₂ (λ (x y : ℕ). x % 2 ^ y) v e ∙ digits_mod (t * 2 ^ r.length + m) (pow_pos j)

all_tags : (P : KeyRule → Type 0) (f : ℕ → List KeyRule) (n s : ℕ) → ((t : ℕ) → t < s + n → AllByRecursion P (f t)) → AllByRecursion P (flat_map f (from n s))
unfolding from
all_tags P f zero s h = tt
all_tags P f (suc n) s h = All-append P (f s) (flat_map f (from n (suc s))) (h s (omega arith)) (all_tags P f n (suc s) (λ t k. h t (omega arith)))

keys_formed : (W : ℕ) (ds : List (Option ℕ)) → InRange W ds → W ≤ 24 → AllByRecursion (λ r. Formed (Put r)) (key_rules W ds)
unfolding key_rules tags rules_of
keys_formed W ds h w =
    all_tags (λ r. Formed (Put r)) (rules_of W ds) 64 0
    (λ t k. All-map (λ r. Formed (Put r)) (keyed W t) (table_of W (get_or ds t None))
    (All-weaker (Shape W) (λ r. Formed (Put (keyed W t r))) (λ r s. keyed_formed W t r w (omega arith) s) (table_of W (get_or ds t None)) (all_shapes W ds h t)))

-- Each step's prefix keeps its layout.
pub writes_formed : (W : ℕ) (A B : List (Option ℕ)) → InRange W A → InRange W B → W ≤ 24 → AllByRecursion (λ w. Formed w) (steps W A B)
writes_formed W A B a b w =
    let gone : List KeyRule = removed (key_rules W A) (key_rules W B) in
    let new : List KeyRule = put (key_rules W A) (key_rules W B) in
    subst (λ (ws : List Write). AllByRecursion (λ w. Formed w) ws) (sym (steps_are W A B a b))
    (All-append (λ w. Formed w) (map remove gone) (map Put new)
    (All-map (λ w. Formed w) remove gone (all_kept_by (lack_prefix (key_rules W B)) (λ r. Formed (Put r)) (key_rules W A) (keys_formed W A a w)))
    (All-map (λ w. Formed w) Put new (all_kept_by (lack_rule (key_rules W A)) (λ r. Formed (Put r)) (key_rules W B) (keys_formed W B b w))))
