-- A service whose table is held: the longest match of a key of the service is the rule that the table has for the address.
use Rattle.std.proofs.Common.{◌≡◌, ℕ, zero, suc, ◌+◌, ◌-◌, ◌*◌, ◌/◌, ◌%◌, ◌^◌, ◌<◌, ◌≤◌, true, eqb, ltb, leb, List, [], ◌∷◌, map, Some, None, Option, sym, refl, ap, ◌∙◌, subst, mod-lt, mul_assoc, arith, pow_pos, pow-add}
use native.Mathlib.Nat.{mod-le, mul-add-mod_self_right}
use lib.Arith.{digits_div, digits_mod}
use Rattle.std.specs.List.{ContainsAt, AllByRecursion}
use Rattle.std.proofs.ByRecursion.{all-has, All-weaker}
use Rattle.std.proofs.lemmas.Bool.{and_parts, and_from, eqb-true, eq-eqb, leb-true, ltb-true, cond-true, cond-false}
use Rattle.rules.specs.declared.rule.Rule.{Rule}
use Rattle.rules.specs.declared.server.Server.{Server}
use Rattle.rules.specs.Prefixes.{all_fit, matches, Longest}
use Rattle.rules.specs.Tables.{table, Rising, side}
use Rattle.rules.proofs.Shapes.{Shape, shapes}
use Rattle.rules.proofs.Tables.{table_laws}
use Rattle.rules.proofs.Tallies.{within_in}
use Rattle.memory.specs.Keys.{cut}
use Rattle.memory.specs.Holding.{Held, same_prefix, listed}
use Rattle.memory.specs.Looks.{longest}
use Rattle.memory.specs.DownFrom.{down_skip, down_hit}
use Rattle.memory.specs.Prefixes.{off_unless}
use Rattle.model.specs.Keyed.{key, keyed}

-- The first n of the W bits of an address, the others 0.
abbrev first_bits : ℕ → ℕ → ℕ → ℕ
first_bits W n a = a - a % 2 ^ (W - n)

-- ---- rules and the first bits of an address

-- a rule that matches an address starts at the first bits of the address
start_is : (W a : ℕ) (r : Rule) → Shape W r → matches W r a ≡ true → r.start ≡ first_bits W r.length a
start_is W a r s h =
    let b = and_parts (leb r.start a) (ltb a (r.start + 2 ^ (W - r.length))) h in
    let low = leb-true r.start a b.0 in
    let high = ltb-true a (r.start + 2 ^ (W - r.length)) b.1 in
    let e : a ≡ s.aligned.0 * 2 ^ (W - r.length) + (a - r.start) = omega (arith, s.aligned.1) in
    let m : a % 2 ^ (W - r.length) ≡ a - r.start = ap (λ x. x % 2 ^ (W - r.length)) e ∙ digits_mod s.aligned.0 (omega arith) in
    omega arith

-- and a rule that starts there matches it
start_matches : (W a : ℕ) (r : Rule) → r.start ≡ first_bits W r.length a → matches W r a ≡ true
start_matches W a r e =
    let m = mod-lt a (pow_pos (W - r.length)) in
    let l = mod-le a (2 ^ (W - r.length)) in
    within_in r.start (2 ^ (W - r.length)) a (omega arith) (omega arith)

-- ---- keys

module _ (W t : ℕ) where
  -- the first bits of a key, those of the tag among them, are the tag and the first bits of the address
  cut_key : (a n : ℕ) → W ≤ 32 → n ≤ W → cut (key W t a) (32 - W + n) ≡ key W t (first_bits W n a)
  cut_key a n w h =
      let e : 32 - (32 - W + n) ≡ W - n = omega arith in
      let s : W ≡ n + (W - n) = omega arith in
      let q : t * 2 ^ W ≡ t * 2 ^ n * 2 ^ (W - n)
      = ap (λ x. t * 2 ^ x) s ∙ ap (λ x. t * x) (pow-add 2 n (W - n)) ∙ sym (mul_assoc t (2 ^ n) (2 ^ (W - n))) in
      let m : (t * 2 ^ W + a) % 2 ^ (W - n) ≡ a % 2 ^ (W - n)
      = ap (λ x. (x + a) % 2 ^ (W - n)) q ∙ mul-add-mod_self_right (t * 2 ^ n) (2 ^ (W - n)) a in
      ap (λ j. key W t a - key W t a % 2 ^ j) e ∙ omega (arith, m, mod-le a (2 ^ (W - n)))

  -- so they keep the tag
  cut_tag : (a n : ℕ) → W ≤ 32 → n ≤ W → a < 2 ^ W → cut (key W t a) (32 - W + n) / 2 ^ W ≡ t
  cut_tag a n w h low = ap (λ x. x / 2 ^ W) (cut_key a n w h) ∙ digits_div t (omega arith)

  -- ---- what a list of rules has at a prefix

  -- nothing where no rule has the prefix
  none_at : (v l : ℕ) (rs : List Rule) → AllByRecursion (λ q. key W t q.start ≡ v → 32 - W + q.length ≡ l → ⊥) rs → listed (map (keyed W t) rs) v l ≡ None
  none_at v l [] h = refl
  none_at v l (q ∷ rs) h =
      cond-false (same_prefix (keyed W t q).prefix v l) _ _ (off_unless _ (λ e.
      let p = and_parts (eqb (key W t q.start) v) (eqb (32 - W + q.length) l) e in
      h.0 (eqb-true _ _ p.0) (eqb-true _ _ p.1)))
      ∙ none_at v l rs h.1

  -- where lengths rise, a rule's own server at its prefix
  rule_at : (r : Rule) (rs : List Rule) → Rising rs → ContainsAt rs r → listed (map (keyed W t) rs) (key W t r.start) (32 - W + r.length) ≡ Some r.server
  rule_at r [] up (k, h, e) = absurd (omega arith)
  rule_at r (q ∷ rs) up (zero, h, e) =
      let it : q ≡ r = e q in
      cond-true (same_prefix (keyed W t q).prefix (key W t r.start) (32 - W + r.length)) _ _
      (and_from _ _ (eq-eqb _ _ (ap (λ x. key W t x.start) it)) (eq-eqb _ _ (ap (λ x. 32 - W + x.length) it)))
      ∙ ap (λ x. Some x.server) it
  rule_at r (q ∷ rs) up (suc k, h, e) =
      let later : ContainsAt rs r = (k, omega arith, e) in
      let longer = all-has (λ x. q.length < x.length) rs r up.0 later in
      cond-false (same_prefix (keyed W t q).prefix (key W t r.start) (32 - W + r.length)) _ _ (off_unless _ (λ f.
      let p = and_parts (eqb (key W t q.start) (key W t r.start)) (eqb (32 - W + q.length) (32 - W + r.length)) f in
      omega (arith, eqb-true _ _ p.1)))
      ∙ rule_at r rs up.1 later

  -- nothing at a prefix of a key that is longer than every rule that matches the address
  none_longer : (a n m : ℕ) (rs : List Rule) → W ≤ 32 → n ≤ W → m < n → AllByRecursion (λ q. matches W q a ≡ true → q.length ≤ m) rs
      → listed (map (keyed W t) rs) (cut (key W t a) (32 - W + n)) (32 - W + n) ≡ None
  none_longer a n m rs w h less all =
      none_at (cut (key W t a) (32 - W + n)) (32 - W + n) rs
      (All-weaker (λ q. matches W q a ≡ true → q.length ≤ m) (λ q. key W t q.start ≡ cut (key W t a) (32 - W + n) → 32 - W + q.length ≡ 32 - W + n → ⊥)
      (λ q short v l.
      let s : q.length ≡ n = omega arith in
      let c = cut_key a n w h in
      let e : q.start ≡ first_bits W n a = omega arith in
      let f : q.start ≡ first_bits W q.length a = e ∙ ap (λ x. first_bits W x a) (sym s) in
      omega (arith, short (start_matches W a q f)))
      rs all)

  -- the longest match in a list of rules that fit and whose lengths rise is the longest match of the key, where the list is held
  longest_held : (a : ℕ) (r : Rule) (rs : List Rule) (held : Held) → W ≤ 32 → a < 2 ^ W → all_fit W rs ≡ true → Rising rs → Longest W rs a r
      → ((v l : ℕ) → v / 2 ^ W ≡ t → held v l ≡ listed (map (keyed W t) rs) v l)
      → longest held (key W t a) ≡ Some r.server
  longest_held a r rs held w low fit up match same =
      down_skip 32 (32 - W + r.length) at_length (omega (arith, shape.short)) above ∙ down_hit (32 - W + r.length) at_length r.server here
    where
      at_length : ℕ → Option Server
      at_length l = held (cut (key W t a) l) l

      shape : Shape W r
      shape = all-has (Shape W) rs r (shapes W rs fit) match.listed

      above : (l : ℕ) → 32 - W + r.length < l → l ≤ 32 → at_length l ≡ None
      above l more most =
          let n : ℕ = l - (32 - W) in
          let all : 32 - W + n ≡ l = omega arith in
          let most_n : n ≤ W = omega arith in
          subst (λ x. at_length x ≡ None) all
          (same _ _ (cut_tag a n w most_n low) ∙ none_longer a n r.length rs w most_n (omega arith) match.longest)

      here : at_length (32 - W + r.length) ≡ Some r.server
      here =
          let cut_is : cut (key W t a) (32 - W + r.length) ≡ key W t r.start
          = cut_key a r.length w shape.short ∙ ap (key W t) (sym (start_is W a r shape match.hit)) in
          same _ _ (cut_tag a r.length w shape.short low)
          ∙ ap (λ v. listed (map (keyed W t) rs) v (32 - W + r.length)) cut_is
          ∙ rule_at r rs up match.listed

-- A service whose table is held sends each of its addresses to the server that the weight says: server 1 exactly below the weight.
pub served : (W t d a : ℕ) → W ≤ 24 → t < 64 → d ≤ 2 ^ W → a < 2 ^ W → (held : Held)
    → ((v l : ℕ) → v / 2 ^ W ≡ t → held v l ≡ listed (map (keyed W t) (table W d)) v l)
    → longest held (key W t a) ≡ Some (side d a)
served W t d a w k h low held same =
    let laws = table_laws W d h in
    let (r, match, sent) = laws.sends a low in
    longest_held W t a r (table W d) held (omega arith) low laws.fit laws.rising match same ∙ ap Some sent
