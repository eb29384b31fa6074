-- Looks: what decides them, and that a service with a table answers every address.
use Rattle.std.proofs.Common.{◌≡◌, ℕ, zero, suc, ◌+◌, ◌-◌, ◌%◌, ◌^◌, ◌<◌, ◌≤◌, true, leb, List, ◌∷◌, map, get_or, is_some, Some, None, Option, sym, refl, ap, ◌∙◌, subst, arith, pow_pos}
use native.Mathlib.Decide.{dec_le}
use lib.Arith.{digits_div, digits_mod}
use Rattle.std.specs.Option.{option_or}
use Rattle.std.proofs.lemmas.Bool.{cond_both, cond-true, and_from, eq-eqb}
use Rattle.rules.specs.declared.rule.Rule.{Rule}
use Rattle.rules.specs.declared.server.Server.{Server}
use Rattle.rules.specs.declared.server.Server.TheVariants.{One, Two}
use Rattle.rules.specs.Digits.{D}
use Rattle.rules.specs.Tables.{all_to, table}
use Rattle.memory.specs.Keys.{cut}
use Rattle.memory.specs.Holding.{Held, listed}
use Rattle.memory.specs.Looks.{down_from, longest}
use Rattle.memory.specs.DownFrom.{down_cong}
use Rattle.model.specs.Keyed.{key, keyed, table_of, rules_of, contents}
use Rattle.model.proofs.Sets.{some_later}
use Rattle.model.proofs.Keys.{InRange, keys_at}

-- Readers that hold the same answer alike.
pub same_looks : (h g : Held) → ((v l : ℕ) → h v l ≡ g v l) → (x : ℕ) → longest h x ≡ longest g x
same_looks h g e x = down_cong 32 (λ l. h (cut x l) l) (λ l. g (cut x l) l) (λ l k. e (cut x l) l)

-- what answers at some length answers from any length above it
down_some : (f : ℕ → Option Server) (l n : ℕ) → l ≤ n → is_some (f l) ≡ true → is_some (down_from n f) ≡ true
unfolding down_from
down_some f l zero k e = let z : l ≡ 0 = omega arith in subst (λ (m : ℕ). is_some (f m) ≡ true) z e
down_some f l (suc n) k e = go (dec_le l n) (λ j. down_some f l n j e)
  where
    here : (o p : Option Server) → is_some o ≡ true → is_some (option_or o p) ≡ true
    here None p h = cc
    here (Some s) p h = refl

    go : Dec (l ≤ n) → (l ≤ n → is_some (down_from n f) ≡ true) → is_some (option_or (f (suc n)) (down_from n f)) ≡ true
    go (yes j) ih = some_later (f (suc n)) (down_from n f) (ih j)
    go (no j) ih = let z : l ≡ suc n = omega arith in here (f (suc n)) (down_from n f) (subst (λ (m : ℕ). is_some (f m) ≡ true) z e)

-- Where the rule for all addresses of a tag is held, each of them is answered.
pub look_served : (h : Held) (W t a : ℕ) → W ≤ 24 → a < 2 ^ W → is_some (h (key W t 0) (32 - W)) ≡ true → is_some (longest h (key W t a)) ≡ true
look_served h W t a k low e =
    down_some (λ l. h (cut (key W t a) l) l) (32 - W) 32 (omega arith) (subst (λ (v : ℕ). is_some (h v (32 - W)) ≡ true) (sym there) e)
  where
    there : cut (key W t a) (32 - W) ≡ key W t 0
    there =
        let w : 32 - (32 - W) ≡ W = omega arith in
        let m : key W t a % 2 ^ (32 - (32 - W)) ≡ a = ap (λ (j : ℕ). key W t a % 2 ^ j) w ∙ digits_mod t low in
        omega (arith, m)

-- every table has a rule for all addresses
table_whole : (W t d : ℕ) → is_some (listed (map (keyed W t) (table W d)) (key W t 0) (32 - W)) ≡ true
unfolding table
table_whole W t d = cond_both (leb (D d) (D (2 ^ W - d))) _ _ (λ (rs : List Rule). is_some (listed (map (keyed W t) rs) (key W t 0) (32 - W)) ≡ true) (λ _. first Two _) (λ _. first One _)
  where
    first : (s : Server) (rs : List Rule) → is_some (listed (map (keyed W t) (all_to s ∷ rs)) (key W t 0) (32 - W)) ≡ true
    first s rs = ap is_some (cond-true _ (Some s) (listed (map (keyed W t) rs) (key W t 0) (32 - W)) (and_from _ _ (eq-eqb (key W t 0) (key W t 0) refl) (eq-eqb (32 - W + 0) (32 - W) (omega arith))))

-- The key rules of a service that has a weight have the rule for all its addresses.
pub whole_held : (W : ℕ) (ds : List (Option ℕ)) → InRange W ds → (t : ℕ) → t < 64 → is_some (get_or ds t None) ≡ true → is_some (contents W ds (key W t 0) (32 - W)) ≡ true
unfolding rules_of
whole_held W ds h t k e = ap is_some (keys_at W ds h t (key W t 0) (32 - W) (digits_div t (pow_pos W)) k) ∙ go (get_or ds t None) e
  where
    go : (o : Option ℕ) → is_some o ≡ true → is_some (listed (map (keyed W t) (table_of W o)) (key W t 0) (32 - W)) ≡ true
    go None f = cc
    go (Some d) f = table_whole W t d
