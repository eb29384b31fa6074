-- The key rules of all services: prefixes of different tags never meet.
use Rattle.std.proofs.Common.{◌≡◌, ℕ, zero, suc, ◌+◌, ◌-◌, ◌/◌, ◌^◌, ◌<◌, ◌≤◌, Bool, false, cond, not, ◌⊎◌, List, [], ◌∷◌, ◌++◌, map, get_or, replicate, is_some, Some, None, filter, Option, sym, refl, ap, ◌∙◌, ap₂, inl, inr, arith}
use lib.Arith.{digits_div}
use Rattle.std.specs.List.{flat_map, AllByRecursion}
use Rattle.std.specs.Option.{option_or}
use Rattle.std.proofs.lemmas.Bool.{cases_eq}
use Rattle.std.proofs.lemmas.List.Elements.{filter-append}
use Rattle.std.proofs.ByRecursion.{All-weaker, All-map}
use Rattle.rules.specs.declared.rule.Rule.{Rule}
use Rattle.rules.specs.declared.server.Server.{Server}
use Rattle.rules.specs.Tables.{table, Rising}
use Rattle.rules.proofs.Shapes.{Shape, shapes}
use Rattle.rules.proofs.Tables.{table_laws}
use Rattle.memory.specs.declared.key.KeyRule.{KeyRule}
use Rattle.memory.specs.Holding.{at, same_prefix, same_server, listed}
use Rattle.memory.specs.Prefixes.{off_unless}
use Rattle.model.specs.declared.write.Write.TheVariants.{Put}
use Rattle.model.specs.Keyed.{key, keyed, from, tags, table_of, rules_of, key_rules}
use Rattle.model.specs.Changes.{lack_prefix, lack_rule, removed, put, remove, removals, puts, steps}
use Rattle.model.proofs.Sets.{at_same, listed_none, listed_append, Apart, apart_append}
use Rattle.model.proofs.Moves.{moves}

-- ---- rules that belong to one tag

-- The value of each rule begins with the tag.
abbrev Own : ℕ → ℕ → List KeyRule → Type 0
Own W t rs = AllByRecursion (λ r. r.prefix.value / 2 ^ W ≡ t) rs

kept_same : (p q : KeyRule → Bool) (xs : List KeyRule) → AllByRecursion (λ x. p x ≡ q x) xs → filter p xs ≡ filter q xs
kept_same p q [] h = refl
kept_same p q (x ∷ xs) h = ap₂ (λ (b : Bool) (zs : List KeyRule). cond b (x ∷ zs) zs) h.0 (kept_same p q xs h.1)

module _ (W : ℕ) (f : ℕ → List KeyRule) (own : (t : ℕ) → Own W t (f t)) where
  -- the rules of another tag have nothing at a prefix
  other_tag : (t v l : ℕ) → (v / 2 ^ W ≡ t → ⊥) → listed (f t) v l ≡ None
  other_tag t v l other =
      listed_none (f t) v l (All-weaker (λ r. r.prefix.value / 2 ^ W ≡ t) (λ r. same_prefix r.prefix v l ≡ false)
      (λ r e. off_unless (same_prefix r.prefix v l) (λ s. other (at_same r.prefix v l (λ x y. x / 2 ^ W ≡ t) s e))) (f t) (own t))

  -- nor do all tags from s on, at a prefix of a tag before s
  tags_behind : (n s v l : ℕ) → v / 2 ^ W < s → listed (flat_map f (from n s)) v l ≡ None
  unfolding from
  tags_behind zero s v l h = refl
  tags_behind (suc n) s v l h =
      listed_append (f s) (flat_map f (from n (suc s))) v l ∙ ap (λ (o : Option Server). option_or o (listed (flat_map f (from n (suc s))) v l)) (other_tag s v l (λ e. omega arith))
      ∙ tags_behind n (suc s) v l (omega arith)

  -- at a prefix of a tag, all tags have what that tag has
  at_tag : (n s v l : ℕ) → s ≤ v / 2 ^ W → v / 2 ^ W < s + n → listed (flat_map f (from n s)) v l ≡ listed (f (v / 2 ^ W)) v l
  unfolding from
  at_tag zero s v l h k = absurd (omega arith)
  at_tag (suc n) s v l h k = listed_append (f s) (flat_map f (from n (suc s))) v l ∙ go (cases_eq (v / 2 ^ W) s) (λ g. at_tag n (suc s) v l g (omega arith))
    where
      or_none : (o : Option Server) → option_or o None ≡ o
      or_none None = refl
      or_none (Some x) = refl

      go : (v / 2 ^ W ≡ s) ⊎ (v / 2 ^ W ≡ s → ⊥) → (suc s ≤ v / 2 ^ W → listed (flat_map f (from n (suc s))) v l ≡ listed (f (v / 2 ^ W)) v l)
          → option_or (listed (f s) v l) (listed (flat_map f (from n (suc s))) v l) ≡ listed (f (v / 2 ^ W)) v l
      go (inl q) ih =
          ap (option_or (listed (f s) v l)) (tags_behind n (suc s) v l (omega arith)) ∙ or_none (listed (f s) v l) ∙ ap (λ (t : ℕ). listed (f t) v l) (sym q)
      go (inr q) ih = ap (λ (o : Option Server). option_or o (listed (flat_map f (from n (suc s))) v l)) (other_tag s v l q) ∙ ih (omega arith)

  apart_tags : ((t : ℕ) → Apart (f t)) → (n s : ℕ) → Apart (flat_map f (from n s))
  unfolding from
  apart_tags a zero s = tt
  apart_tags a (suc n) s =
      apart_append (f s) (flat_map f (from n (suc s))) (a s) (apart_tags a n (suc s))
      (All-weaker (λ r. r.prefix.value / 2 ^ W ≡ s) (λ r. at (listed (flat_map f (from n (suc s)))) r.prefix ≡ None)
      (λ r e. tags_behind n (suc s) r.prefix.value r.prefix.length (omega arith)) (f s) (own s))

  -- a filter by tag is a filter of the whole
  kept_tags : (p : ℕ → KeyRule → Bool) (q : KeyRule → Bool) (n s : ℕ) → ((t : ℕ) → s ≤ t → t < s + n → AllByRecursion (λ r. p t r ≡ q r) (f t))
      → flat_map (λ t. filter (p t) (f t)) (from n s) ≡ filter q (flat_map f (from n s))
  unfolding from
  kept_tags p q zero s h = refl
  kept_tags p q (suc n) s h =
      ap₂ ◌++◌ (kept_same (p s) q (f s) (h s (omega arith) (omega arith))) (kept_tags p q n (suc s) (λ t i j. h t (omega arith) (omega arith)))
      ∙ sym (filter-append q (f s) (flat_map f (from n (suc s))))

-- ---- the rules of tables

-- No weight is above the number of addresses.
abbrev pub InRange : ℕ → List (Option ℕ) → Type 0
InRange W ds = (t d : ℕ) → get_or ds t None ≡ Some d → d ≤ 2 ^ W

-- The rules of a service's table keep their layout.
pub all_shapes : (W : ℕ) (ds : List (Option ℕ)) → InRange W ds → (t : ℕ) → AllByRecursion (Shape W) (table_of W (get_or ds t None))
all_shapes W ds h t = go (get_or ds t None) (h t)
  where
    go : (o : Option ℕ) → ((d : ℕ) → o ≡ Some d → d ≤ 2 ^ W) → AllByRecursion (Shape W) (table_of W o)
    go None k = tt
    go (Some d) k = shapes W (table W d) (table_laws W d (k d refl)).fit

module _ (W : ℕ) where
  own_rules : (ds : List (Option ℕ)) → InRange W ds → (t : ℕ) → Own W t (rules_of W ds t)
  unfolding rules_of
  own_rules ds h t =
      All-map (λ r. r.prefix.value / 2 ^ W ≡ t) (keyed W t) (table_of W (get_or ds t None))
      (All-weaker (Shape W) (λ r. key W t r.start / 2 ^ W ≡ t) (λ r s. digits_div t s.low) (table_of W (get_or ds t None)) (all_shapes W ds h t))

  -- rules that grow longer are apart
  apart_rising : (t : ℕ) (rs : List Rule) → Rising rs → Apart (map (keyed W t) rs)
  apart_rising t [] h = tt
  apart_rising t (r ∷ rs) h = (
    listed_none (map (keyed W t) rs) (key W t r.start) (32 - W + r.length)
        (All-map (λ q. same_prefix q.prefix (key W t r.start) (32 - W + r.length) ≡ false) (keyed W t) rs
        (All-weaker (λ q. r.length < q.length) (λ q. same_prefix (keyed W t q).prefix (key W t r.start) (32 - W + r.length) ≡ false)
        (λ q k. off_unless _ (λ s.
        let e : 32 - W + q.length ≡ 32 - W + r.length = at_same (keyed W t q).prefix (key W t r.start) (32 - W + r.length) (λ x y. 32 - W + q.length ≡ y) s refl in
        omega arith)) rs h.0)),
    apart_rising t rs h.1,
  )

  apart_rules : (ds : List (Option ℕ)) → InRange W ds → (t : ℕ) → Apart (rules_of W ds t)
  unfolding rules_of
  apart_rules ds h t = go (get_or ds t None) (h t)
    where
      go : (o : Option ℕ) → ((d : ℕ) → o ≡ Some d → d ≤ 2 ^ W) → Apart (map (keyed W t) (table_of W o))
      go None k = tt
      go (Some d) k = apart_rising t (table W d) (table_laws W d (k d refl)).rising

  -- No two key rules have one prefix.
  pub apart_all : (ds : List (Option ℕ)) → InRange W ds → Apart (key_rules W ds)
  unfolding key_rules tags
  apart_all ds h = apart_tags W (rules_of W ds) (own_rules ds h) (apart_rules ds h) 64 0

  -- At a prefix that begins with a tag, all services together have what the service of that tag has.
  pub keys_at : (ds : List (Option ℕ)) → InRange W ds → (t v l : ℕ) → v / 2 ^ W ≡ t → t < 64 → listed (key_rules W ds) v l ≡ listed (rules_of W ds t) v l
  unfolding key_rules tags
  keys_at ds h t v l e k =
      at_tag W (rules_of W ds) (own_rules ds h) 64 0 v l (omega arith) (omega arith) ∙ ap (λ (u : ℕ). listed (rules_of W ds u) v l) e

  -- ---- the steps by tables are the moves of the whole

  module _ (A B : List (Option ℕ)) (a : InRange W A) (b : InRange W B) where
    removals_are : removals W A B ≡ removed (key_rules W A) (key_rules W B)
    unfolding removals key_rules tags
    removals_are =
        kept_tags W (rules_of W A) (own_rules A a) (λ t. lack_prefix (rules_of W B t)) (lack_prefix (key_rules W B)) 64 0
        (λ t i j. All-weaker (λ r. r.prefix.value / 2 ^ W ≡ t) (λ r. lack_prefix (rules_of W B t) r ≡ lack_prefix (key_rules W B) r)
        (λ r e. ap (λ (o : Option Server). not (is_some o)) (sym (keys_at B b t r.prefix.value r.prefix.length e j))) (rules_of W A t) (own_rules A a t))

    puts_are : puts W A B ≡ put (key_rules W A) (key_rules W B)
    unfolding puts key_rules tags
    puts_are =
        kept_tags W (rules_of W B) (own_rules B b) (λ t. lack_rule (rules_of W A t)) (lack_rule (key_rules W A)) 64 0
        (λ t i j. All-weaker (λ r. r.prefix.value / 2 ^ W ≡ t) (λ r. lack_rule (rules_of W A t) r ≡ lack_rule (key_rules W A) r)
        (λ r e. ap (λ (o : Option Server). not (same_server o r.server)) (sym (keys_at A a t r.prefix.value r.prefix.length e j))) (rules_of W B t) (own_rules B b t))

    -- The steps, taken table by table, are the moves between all key rules.
    pub steps_are : steps W A B ≡ moves (key_rules W A) (key_rules W B)
    unfolding steps
    steps_are = ap₂ (λ (x y : List KeyRule). map remove x ++ map Put y) removals_are puts_are

-- Without a service there are no key rules.
pub no_rules : (W : ℕ) → key_rules W (replicate 64 None) ≡ []
unfolding key_rules tags from rules_of
no_rules W = refl
