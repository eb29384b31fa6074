-- The writes of a change, rule by rule: which they are, and how many.
use Rattle.std.proofs.Common.{◌≡◌, ℕ, zero, suc, ◌^◌, ◌≤◌, Bool, true, false, cond, List, [], ◌∷◌, ◌++◌, map, filter, length, Some, None, Option, slice_index_or, sym, refl, ap, ◌∙◌, subst, ap₂}
use Rattle.std.specs.List.{filter_map, flat_map, slice_get, cons_option}
use Rattle.std.specs.Option.{option_map}
use Rattle.std.proofs.lemmas.List.{map-append}
use Rattle.std.proofs.lemmas.List.Elements.{filter_map-append}
use Rattle.rules.specs.declared.rule.Rule.{Rule}
use Rattle.memory.specs.declared.key.KeyRule.{KeyRule}
use Rattle.plan.specs.Plans.{beyond}
use Rattle.model.specs.declared.write.Write.{Write}
use Rattle.model.specs.declared.write.Write.TheVariants.{Put}
use Rattle.model.specs.Changes.{lack_prefix, lack_rule, remove, removals, puts, steps, write_at}
use Rattle.model.specs.Keyed.{keyed, table_of, tags, rules_of}
use Rattle.model.proofs.Changing.{InRange, steps_few}
use Rattle.switch.specs.declared.tables.TaggedRule.{TaggedRule}
use Rattle.switch.specs.Steps.{removal, placement}
use Rattle.switch.specs.Tabled.{tagged, tagged_of, tagged_rules}
use Rattle.switch.proofs.Keying.{fit_at}

pub map_joined : {X Y : Type 0} (f : X → Y) (g : ℕ → List X) (ts : List ℕ) → map f (flat_map g ts) ≡ flat_map (λ t. map f (g t)) ts
map_joined f g [] = refl
map_joined f g (t ∷ ts) = map-append f (g t) (flat_map g ts) ∙ ap (λ ys. map f (g t) ++ ys) (map_joined f g ts)

-- ---- the writes of some rules, where `lacks` says by tag of which a write is

one_written : (b : Bool) (w : KeyRule → Write) (r : KeyRule) (ws : List Write) (ks : List KeyRule) → ws ≡ map w ks → cons_option (cond b (Some (w r)) None) ws ≡ map w (cond b (r ∷ ks) ks)
one_written true w r ws ks e = ap (λ (xs : List Write). w r ∷ xs) e
one_written false w r ws ks e = e

module _ (W : ℕ) (walked : List (Option ℕ)) (w : KeyRule → Write) (lacks : ℕ → KeyRule → Bool) where
  abbrev written : TaggedRule → Option Write
  written x = cond (lacks x.tag x.key_rule) (Some (w x.key_rule)) None

  written_in : (t : ℕ) (rs : List Rule) → filter_map written (map (tagged W t) rs) ≡ map w (filter (lacks t) (map (keyed W t) rs))
  written_in t [] = refl
  written_in t (r ∷ rs) =
      one_written (lacks t (keyed W t r)) w (keyed W t r) (filter_map written (map (tagged W t) rs)) (filter (lacks t) (map (keyed W t) rs)) (written_in t rs)

  written_over : (ts : List ℕ) → filter_map written (flat_map (tagged_of W walked) ts) ≡ map w (flat_map (λ t. filter (lacks t) (rules_of W walked t)) ts)
  unfolding tagged_of rules_of
  written_over [] = refl
  written_over (t ∷ ts) =
      filter_map-append written (tagged_of W walked t) (flat_map (tagged_of W walked) ts)
      ∙ ap₂ (λ (xs ys : List Write). xs ++ ys) (written_in t (table_of W (slice_index_or walked t None))) (written_over ts)
      ∙ sym (map-append w (filter (lacks t) (rules_of W walked t)) (flat_map (λ t. filter (lacks t) (rules_of W walked t)) ts))

-- ---- the steps

module _ (W : ℕ) (standing coming : List (Option ℕ)) where
  pub steps_written : (V : ℕ) → W ≡ V
      → filter_map (removal V coming) (tagged_rules W standing) ++ filter_map (placement W standing) (tagged_rules V coming) ≡ steps W standing coming
  unfolding tagged_rules steps removals puts
  steps_written V e =
      subst (λ (V : ℕ). filter_map (removal V coming) (tagged_rules W standing) ++ filter_map (placement W standing) (tagged_rules V coming) ≡ steps W standing coming) e
      (ap₂ (λ (xs ys : List Write). xs ++ ys)
      (written_over W standing remove (λ t r. lack_prefix (rules_of W coming t) r) tags)
      (written_over W coming Put (λ t r. lack_rule (rules_of W standing t) r) tags))

pub nth_is : (ws : List Write) (n : ℕ) → slice_get ws n ≡ write_at ws n
nth_is [] n = refl
nth_is (w ∷ ws) zero = refl
nth_is (w ∷ ws) (suc n) = nth_is ws n

pub as_it_is : {X : Type 0} (o : Option X) → option_map (λ (x : X). x) o ≡ o
as_it_is None = refl
as_it_is (Some x) = refl

-- ---- how many writes there are

pub range : (W : ℕ) (ds : List (Option ℕ)) → beyond (2 ^ W) ds ≡ false → InRange W ds
range W ds k t d e = fit_at W ds t d k e

pub few_steps : (W : ℕ) (standing coming : List (Option ℕ)) → W ≤ 24 → beyond (2 ^ W) standing ≡ false → beyond (2 ^ W) coming ≡ false
    → length (steps W standing coming) ≤ 1664
few_steps W standing coming h s c = steps_few W standing coming (range W standing s) (range W coming c) h
