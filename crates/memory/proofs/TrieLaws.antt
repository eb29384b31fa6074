-- Laws of a whole trie.
use Rattle.std.proofs.Common.{◌≡◌, ℕ, zero, suc, ◌+◌, ◌-◌, ◌*◌, ◌%◌, ◌^◌, ◌<◌, ◌≤◌, Bool, true, false, cond, not, ◌||◌, eqb, ltb, leb, is_some, Some, None, Option, Box, sym, refl, ap, ◌∙◌, subst, add-mul, mul-add, arith}
use native.Mathlib.Nat.{mod-le}
use Rattle.std.proofs.lemmas.Bool.{and_parts, eqb-true, ne_eqb, leb-true, leb-false, le-leb, lt-leb, ltb-true, false≢true, both_ways, cond-true}
use Rattle.std.proofs.lemmas.Bool.Decides.{nat_tests}
use Rattle.std.specs.Option.{option_or}
use Rattle.std.specs.declared.alloc.Global.{Global}
use Rattle.rules.specs.declared.server.Server.{Server}
use Rattle.memory.specs.declared.key.Prefix.{Prefix}
use Rattle.memory.specs.declared.trie.Trie.{Trie, Trie', None', Some'}
use Rattle.memory.specs.declared.trie.Node.{Node'}
use Rattle.memory.specs.Keys.{cut, formed}
use Rattle.memory.specs.Holding.{at, same_prefix, Counted}
use Rattle.memory.specs.Looks.{longest, down_from}
use Rattle.memory.specs.Writes.{written}
use Rattle.memory.specs.Tries.{half, at_bits, in_trie, look_in, Within, is_node, nodes, rules, neat, spares}
use Rattle.memory.specs.DownFrom.{down_cong, down_none, down_shift}
use Rattle.memory.specs.Covering.{formed_parts, cut_formed}
use Rattle.memory.proofs.Counting.{counted_none}
use Rattle.memory.proofs.Halves.{rest_mod}
use Rattle.memory.proofs.Levels.{behind_bit}

-- a neat tree has a rule below each node
some_rule : (t : Trie) (h : ℕ) → neat t h ≡ true → is_node t ≡ true → 1 ≤ rules t
some_rule (Trie' None') h e n = absurd (false≢true n)
some_rule (Trie' (Some' p (Node' (Some x) l r))) h e n = omega arith
some_rule (Trie' (Some' p (Node' None l r))) h e n =
    let a = and_parts (is_node l || is_node r) _ e in
    let b = and_parts (ltb 0 h || not (is_node l || is_node r)) _ a.1 in
    let both = and_parts (neat l (h - 1)) (neat r (h - 1)) b.1 in
    by (some_rule l (h - 1) both.0) (some_rule r (h - 1) both.1) (is_node l) (is_node r) refl refl a.0
  where
    by : (is_node l ≡ true → 1 ≤ rules l) → (is_node r ≡ true → 1 ≤ rules r) → (x y : Bool) → is_node l ≡ x → is_node r ≡ y → (x || y) ≡ true → 1 ≤ 0 + (rules l + rules r)
    by f g true y ex ey o = omega (arith, f ex)
    by f g false true ex ey o = omega (arith, g ey)
    by f g false false ex ey o = absurd (false≢true o)

leafy : (t : Trie) → is_node t ≡ false → (nodes t ≡ 0) × (rules t ≡ 0)
leafy (Trie' None') e = (refl, refl)
leafy (Trie' (Some' p (Node' s l r))) e = absurd (false≢true (sym e))

-- and so at most h + 1 nodes for each rule
pub few_nodes : (t : Trie) (h : ℕ) → neat t h ≡ true → nodes t ≤ (h + 1) * rules t
few_nodes (Trie' None') h e = omega arith
few_nodes (Trie' (Some' p (Node' s l r))) h e =
    let a = and_parts (is_some s || (is_node l || is_node r)) _ e in
    let b = and_parts (ltb 0 h || not (is_node l || is_node r)) _ a.1 in
    let both = and_parts (neat l (h - 1)) (neat r (h - 1)) b.1 in
    by s (ltb 0 h) refl (is_node l || is_node r) refl b.0 a.0 (few_nodes l (h - 1) both.0) (few_nodes r (h - 1) both.1) both.0 both.1
  where
    leaves : (x y : Bool) → is_node l ≡ x → is_node r ≡ y → (x || y) ≡ false → (nodes l + nodes r ≡ 0) × (rules l + rules r ≡ 0)
    leaves true y ex ey o = absurd (false≢true (sym o))
    leaves false true ex ey o = absurd (false≢true (sym o))
    leaves false false ex ey o =
        let a = leafy l ex in
        let b = leafy r ey in
        (omega (arith, a.0, b.0), omega (arith, a.1, b.1))

    some : (x y : Bool) → is_node l ≡ x → is_node r ≡ y → (x || y) ≡ true → neat l (h - 1) ≡ true → neat r (h - 1) ≡ true → 1 ≤ rules l + rules r
    some true y ex ey o f g = let k = some_rule l (h - 1) f ex in omega arith
    some false true ex ey o f g = let k = some_rule r (h - 1) g ey in omega arith
    some false false ex ey o f g = absurd (false≢true o)

    by : (s : Option Server) (z : Bool) → ltb 0 h ≡ z → (i : Bool) → (is_node l || is_node r) ≡ i → (z || not i) ≡ true → (is_some s || i) ≡ true
        → nodes l ≤ ((h - 1) + 1) * rules l → nodes r ≤ ((h - 1) + 1) * rules r → neat l (h - 1) ≡ true → neat r (h - 1) ≡ true
        → 1 + (nodes l + nodes r) ≤ (h + 1) * (cond (is_some s) 1 0 + (rules l + rules r))
    by None z ez false ei d busy f g nl nr = absurd (false≢true busy)
    by (Some x) z ez false ei d busy f g nl nr =
        let n = leaves (is_node l) (is_node r) refl refl ei in
        let k = mul-add (h + 1) 1 (rules l + rules r) in
        omega (arith, k, n.0)
    by s false ez true ei d busy f g nl nr = absurd (false≢true d)
    by s true ez true ei d busy f g nl nr =
        let pos = ltb-true 0 h ez in
        let m = rules l + rules r in
        let e₁ : (h - 1) + 1 ≡ h = omega (arith, pos) in
        let f' : nodes l ≤ h * rules l = subst (λ y. nodes l ≤ y * rules l) e₁ f in
        let g' : nodes r ≤ h * rules r = subst (λ y. nodes r ≤ y * rules r) e₁ g in
        let k = some (is_node l) (is_node r) refl refl ei nl nr in
        let d₁ = mul-add h (rules l) (rules r) in
        let d₂ = add-mul h 1 (cond (is_some s) 1 0 + (rules l + rules r)) in
        let d₃ = mul-add h (cond (is_some s) 1 0) (rules l + rules r) in
        omega (arith, f', g', k, d₁, d₂, d₃)

-- the longest prefix is the first on the way up
look_by : (s : Option Server) (p : Box (Unit {0}) Global) (l r : Trie) (h v : ℕ) (b : Bool) → leb (half h) v ≡ b → 0 < h
    → look_in r (h - 1) (v - half h) ≡ down_from (h - 1) (λ n. at_bits r (h - 1) n (v - half h))
    → look_in l (h - 1) v ≡ down_from (h - 1) (λ n. at_bits l (h - 1) n v)
    → option_or (cond b (look_in r (h - 1) (v - half h)) (look_in l (h - 1) v)) s ≡ option_or (down_from (h - 1) (λ n. at_bits (Trie' (Some' p (Node' s l r))) h (suc n) v)) s
look_by s p l r h v true e pos f g =
    ap (λ o. option_or o s) (f ∙ sym (down_cong (h - 1) (λ n. at_bits (Trie' (Some' p (Node' s l r))) h (suc n) v) (λ n. at_bits r (h - 1) n (v - half h))
    (λ n a. let one : suc n - 1 ≡ n = omega arith in behind_bit s p l r h (suc n) v true (omega arith) (sym e) ∙ ap (λ m. at_bits r (h - 1) m (v - half h)) one)))
look_by s p l r h v false e pos f g =
    ap (λ o. option_or o s) (g ∙ sym (down_cong (h - 1) (λ n. at_bits (Trie' (Some' p (Node' s l r))) h (suc n) v) (λ n. at_bits l (h - 1) n v)
    (λ n a. let one : suc n - 1 ≡ n = omega arith in behind_bit s p l r h (suc n) v false (omega arith) (sym e) ∙ ap (λ m. at_bits l (h - 1) m v) one)))

pub look_down : (t : Trie) (h v : ℕ) → look_in t h v ≡ down_from h (λ n. at_bits t h n v)
unfolding down_from
look_down (Trie' None') h v = sym (down_none h (λ _. None) (λ _ _. refl))
look_down (Trie' (Some' p (Node' s l r))) h v = by h (look_down r (h - 1) (v - half h)) (look_down l (h - 1) v)
  where
    by : (h : ℕ) → look_in r (h - 1) (v - half h) ≡ down_from (h - 1) (λ n. at_bits r (h - 1) n (v - half h)) → look_in l (h - 1) v ≡ down_from (h - 1) (λ n. at_bits l (h - 1) n v)
        → look_in (Trie' (Some' p (Node' s l r))) h v ≡ down_from h (λ n. at_bits (Trie' (Some' p (Node' s l r))) h n v)
    by zero f g = refl
    by (suc h) f g =
        let one : suc h - 1 ≡ h = omega arith in
        cond_off (eqb (suc h) 0) (ne_eqb (suc h) 0 (λ e. omega arith))
        ∙ look_by s p l r (suc h) v (leb (half (suc h)) v) refl (omega arith) f g
        ∙ ap (λ m. option_or (down_from m (λ n. at_bits (Trie' (Some' p (Node' s l r))) (suc h) (suc n) v)) s) one
        ∙ sym (down_shift h (λ n. at_bits (Trie' (Some' p (Node' s l r))) (suc h) n v))
      where
        cond_off : (z : Bool) → z ≡ false
            → option_or (cond z None (cond (leb (half (suc h)) v) (look_in r (suc h - 1) (v - half (suc h))) (look_in l (suc h - 1) v))) s ≡ option_or (cond (leb (half (suc h)) v) (look_in r (suc h - 1) (v - half (suc h))) (look_in l (suc h - 1) v)) s
        cond_off true e = absurd (false≢true (sym e))
        cond_off false e = refl

-- the bits behind a prefix do not count
pub cut_trie : (t : Trie) (h n v : ℕ) → n ≤ h → at_bits t h n (v - v % 2 ^ (h - n)) ≡ at_bits t h n v
cut_trie (Trie' None') h n v le = refl
cut_trie (Trie' (Some' p (Node' s l r))) h n v le = by (cut_trie r (h - 1) (n - 1) (v - half h)) (cut_trie l (h - 1) (n - 1) v) (eqb n 0) refl (leb (half h) v) refl
  where
    by : (n - 1 ≤ h - 1 → at_bits r (h - 1) (n - 1) ((v - half h) - (v - half h) % 2 ^ ((h - 1) - (n - 1))) ≡ at_bits r (h - 1) (n - 1) (v - half h))
        → (n - 1 ≤ h - 1 → at_bits l (h - 1) (n - 1) (v - v % 2 ^ ((h - 1) - (n - 1))) ≡ at_bits l (h - 1) (n - 1) v)
        → (z : Bool) → eqb n 0 ≡ z → (b : Bool) → leb (half h) v ≡ b
        → at_bits (Trie' (Some' p (Node' s l r))) h n (v - v % 2 ^ (h - n)) ≡ at_bits (Trie' (Some' p (Node' s l r))) h n v
    by f g true ez b eb = cond-true (eqb n 0) s _ ez ∙ sym (cond-true (eqb n 0) s _ ez)
    by f g false ez true eb =
        let pos : 0 < n = grind (arith, nat_tests) in
        let high : half h ≤ v = leb-true (half h) v eb in
        let j : (h - 1) - (n - 1) ≡ h - n = omega arith in
        let same = rest_mod h n v pos le high in
        let low = mod-le (v - half h) (2 ^ (h - n)) in
        let above : half h ≤ v - v % 2 ^ (h - n) = omega (arith, same, low) in
        let rest : (v - v % 2 ^ (h - n)) - half h ≡ (v - half h) - (v - half h) % 2 ^ (h - n) = omega (arith, same, low) in
        behind_bit s p l r h n (v - v % 2 ^ (h - n)) true pos (sym (le-leb (half h) (v - v % 2 ^ (h - n)) above))
        ∙ ap (at_bits r (h - 1) (n - 1)) rest
        ∙ ap (λ i. at_bits r (h - 1) (n - 1) ((v - half h) - (v - half h) % 2 ^ i)) (sym j)
        ∙ f (omega arith) ∙ sym (behind_bit s p l r h n v true pos (sym eb))
    by f g false ez false eb =
        let pos : 0 < n = grind (arith, nat_tests) in
        let low : v < half h = leb-false (half h) v eb in
        let j : (h - 1) - (n - 1) ≡ h - n = omega arith in
        behind_bit s p l r h n (v - v % 2 ^ (h - n)) false pos (sym (lt-leb (half h) (v - v % 2 ^ (h - n)) (omega arith)))
        ∙ ap (λ i. at_bits l (h - 1) (n - 1) (v - v % 2 ^ i)) (sym j)
        ∙ g (omega arith) ∙ sym (behind_bit s p l r h n v false pos (sym eb))

pub trie_longest : (t : Trie) (key : ℕ) → key < 2 ^ 32 → look_in t 32 key ≡ longest (in_trie t) key
trie_longest t key small =
    look_down t 32 key
    ∙ down_cong 32 (λ l. at_bits t 32 l key) (λ l. in_trie t (cut key l) l)
    (λ l le. sym (cond-true (formed (cut key l) l) (at_bits t 32 l (cut key l)) None (cut_formed key l small le) ∙ cut_trie t 32 l key le))

-- a change of the trie is a change of what is held
pub trie_written : (t t' : Trie) (p : Prefix) (o : Option Server) → formed p.value p.length ≡ true
    → ((k w : ℕ) → Within 32 k w → at_bits t' 32 k w ≡ cond (same_prefix p w k) o (at_bits t 32 k w))
    → (w k : ℕ) → in_trie t' w k ≡ written (in_trie t) p o w k
trie_written t t' p o f e w k = by (formed w k) refl
  where
    off : (b : Bool) → same_prefix p w k ≡ b → formed w k ≡ false → None ≡ cond b o None
    off true hit unlike =
        let a = and_parts (eqb p.value w) (eqb p.length k) hit in
        absurd (both_ways _ unlike (sym (ap (λ x. formed x p.length) (eqb-true p.value w a.0) ∙ ap (formed w) (eqb-true p.length k a.1)) ∙ f))
    off false hit unlike = refl

    by : (b : Bool) → formed w k ≡ b → cond b (at_bits t' 32 k w) None ≡ cond (same_prefix p w k) o (cond b (at_bits t 32 k w) None)
    by true ok = e k w (formed_parts w k ok)
    by false unlike = off (same_prefix p w k) refl unlike

pub trie_at : (t : Trie) (p : Prefix) (o : Option Server) → formed p.value p.length ≡ true → o ≡ at_bits t 32 p.length p.value → at (in_trie t) p ≡ o
trie_at t p o f e = cond-true (formed p.value p.length) (at_bits t 32 p.length p.value) None f ∙ sym e

pub trie_none : (t : Trie) → is_node t ≡ false → (v l : ℕ) → in_trie t v l ≡ None
trie_none (Trie' None') e v l = by (formed v l)
  where
    by : (b : Bool) → ◌≡◌ {A = Option Server} (cond b None None) None
    by true = refl
    by false = refl
trie_none (Trie' (Some' p (Node' s a b))) e v l = absurd (false≢true (sym e))

-- an empty trie
pub empty_neat : (t : Trie) (h : ℕ) → is_node t ≡ false → neat t h ≡ true
empty_neat (Trie' None') h e = refl
empty_neat (Trie' (Some' p (Node' s a b))) h e = absurd (false≢true (sym e))

pub empty_nodes : (t : Trie) → is_node t ≡ false → nodes t ≡ 0
empty_nodes (Trie' None') e = refl
empty_nodes (Trie' (Some' p (Node' s a b))) e = absurd (false≢true (sym e))

pub empty_rules : (t : Trie) → is_node t ≡ false → rules t ≡ 0
empty_rules (Trie' None') e = refl
empty_rules (Trie' (Some' p (Node' s a b))) e = absurd (false≢true (sym e))

pub empty_counted : (t : Trie) → is_node t ≡ false → ∥ Counted (in_trie t) 0 ∥₁
empty_counted t e = ∣ counted_none (in_trie t) (trie_none t e) ∣₁

-- what holds of branches whose trie is empty
pub ruleset empties = (empty_neat, empty_nodes, empty_rules, empty_counted, trie_none)

-- there are nodes for a put
pub nodes_left : (t c : Trie) (n v l : ℕ) → neat t 32 ≡ true → nodes t + spares c ≡ 8481 → rules t ≡ n → n ≤ 256 → formed v l ≡ true → l < spares c
nodes_left t c n v l tidy all are few f = omega (arith, few_nodes t 32 tidy, (formed_parts v l f).0)

-- an answer that is not none
pub some_of : (o : Option Server) → is_some o ≡ true → (s : Server) × (o ≡ Some s)
some_of None e = absurd (false≢true e)
some_of (Some s) e = (s, refl)
