-- One level of a tree: what is held below it, and what then is held.
use Rattle.std.proofs.Common.{◌≡◌, ℕ, ◌+◌, ◌-◌, ◌<◌, ◌≤◌, Bool, true, false, cond, not, ◌&&◌, ◌||◌, eqb, ltb, leb, is_some, Some, None, Option, Box, sym, refl, ap, ◌∙◌, subst, arith}
use Rattle.std.proofs.lemmas.Bool.{and_parts, and_from, and_left, and_right, or_left, or_right, eqb-true, eqb-false, eq-eqb, ne_eqb, leb-true, leb-false, lt-ltb, cond-true, cond-false}
use Rattle.std.proofs.lemmas.Bool.Decides.{nat_tests}
use Rattle.std.proofs.lemmas.Option.{none-some, same_Some}
use Rattle.std.specs.Box.{with_value}
use Rattle.std.specs.declared.alloc.Global.{Global}
use Rattle.rules.specs.declared.server.Server.{Server}
use Rattle.memory.specs.declared.trie.Trie.{Trie, Trie', None', Some', out-Trie, roll-Trie}
use Rattle.memory.specs.declared.trie.Node.{Node, Node', out-Node, roll-Node}
use Rattle.memory.specs.Tries.{child, with_child, half, at_bits, Within, is_node, nodes, rules, neat, ready, spares, Split, Opened, Inserted, Pruned, Erased}
use Rattle.memory.proofs.Halves.{within_one, within_zero, within_none}

abbrev pub node : Option Server → Box (Unit {0}) Global → Trie → Trie → Trie
node s p l r = Trie' (Some' p (Node' s l r))

-- the same question one bit further
shift_one : (a v w n k : ℕ) → a ≤ v → a ≤ w → 0 < n → 0 < k → (eqb (v - a) (w - a) && eqb (n - 1) (k - 1)) ≡ (eqb v w && eqb n k)
shift_one a v w n k p q r s = grind (arith, nat_tests)

shift_zero : (v w n k : ℕ) → 0 < n → 0 < k → (eqb v w && eqb (n - 1) (k - 1)) ≡ (eqb v w && eqb n k)
shift_zero v w n k r s = grind (arith, nat_tests)

-- what is held behind the first bit
pub behind_bit : (s : Option Server) (p : Box (Unit {0}) Global) (l r : Trie) (h n v : ℕ) (bit : Bool) → 0 < n → bit ≡ leb (half h) v → at_bits (node s p l r) h n v ≡ at_bits (cond bit r l) (h - 1) (n - 1) (cond bit (v - half h) v)
behind_bit s p l r h n v true pos is =
    cond-false (eqb n 0) s _ (ne_eqb n 0 (λ e. omega arith)) ∙ cond-true (leb (half h) v) (at_bits r (h - 1) (n - 1) (v - half h)) (at_bits l (h - 1) (n - 1) v) (sym is)
behind_bit s p l r h n v false pos is =
    cond-false (eqb n 0) s _ (ne_eqb n 0 (λ e. omega arith)) ∙ cond-false (leb (half h) v) (at_bits r (h - 1) (n - 1) (v - half h)) (at_bits l (h - 1) (n - 1) v) (sym is)

module _ (s o : Option Server) (p : Box (Unit {0}) Global) (l r : Trie) (h n v : ℕ) where
  -- a change below the first bit
  level_below : (t : Trie) (bit : Bool) → 0 < n → bit ≡ leb (half h) v
      → ((k w : ℕ) → Within (h - 1) k w → at_bits t (h - 1) k w ≡ cond (eqb (cond bit (v - half h) v) w && eqb (n - 1) k) o (at_bits (cond bit r l) (h - 1) k w))
      → (k w : ℕ) → Within h k w → at_bits (node s p (cond bit l t) (cond bit t r)) h k w ≡ cond (eqb v w && eqb n k) o (at_bits (node s p l r) h k w)
  level_below t bit pos is ih k w in_h = by bit is ih (eqb k 0) (leb (half h) w) refl refl
    where
      by : (bit : Bool) → bit ≡ leb (half h) v
          → ((k w : ℕ) → Within (h - 1) k w → at_bits t (h - 1) k w ≡ cond (eqb (cond bit (v - half h) v) w && eqb (n - 1) k) o (at_bits (cond bit r l) (h - 1) k w))
          → (z b : Bool) → eqb k 0 ≡ z → leb (half h) w ≡ b
          → cond z s (cond b (at_bits (cond bit t r) (h - 1) (k - 1) (w - half h)) (at_bits (cond bit l t) (h - 1) (k - 1) w))
          ≡ cond (eqb v w && eqb n k) o (cond z s (cond b (at_bits r (h - 1) (k - 1) (w - half h)) (at_bits l (h - 1) (k - 1) w)))
      by bit is ih true b ez eb = sym (cond-false (eqb v w && eqb n k) o s (and_right (eqb v w) (eqb n k) (ne_eqb n k (λ e. omega (arith, eqb-true k 0 ez)))))
      by true is ih false false ez eb = sym (cond-false (eqb v w && eqb n k) o (at_bits l (h - 1) (k - 1) w) (and_left (eqb v w) (eqb n k) (ne_eqb v w (λ e. omega (arith, leb-false (half h) w eb, leb-true (half h) v (sym is))))))
      by false is ih false true ez eb = sym (cond-false (eqb v w && eqb n k) o (at_bits r (h - 1) (k - 1) (w - half h)) (and_left (eqb v w) (eqb n k) (ne_eqb v w (λ e. omega (arith, leb-true (half h) w eb, leb-false (half h) v (sym is))))))
      by true is ih false true ez eb =
          let high : half h ≤ w = leb-true (half h) w eb in
          let more : 0 < k = omega (arith, eqb-false k 0 ez) in
          ih (k - 1) (w - half h) (within_one h k w in_h more high)
          ∙ ap (λ t. cond t o (at_bits r (h - 1) (k - 1) (w - half h))) (shift_one (half h) v w n k (leb-true (half h) v (sym is)) high pos more)
      by false is ih false false ez eb =
          let under : w < half h = leb-false (half h) w eb in
          let more : 0 < k = omega (arith, eqb-false k 0 ez) in
          ih (k - 1) w (within_zero h k w in_h more under)
          ∙ ap (λ t. cond t o (at_bits l (h - 1) (k - 1) w)) (shift_zero v w n k pos more)

  -- a change at the end of a path
  level_here : n ≡ 0 → Within h n v
      → (k w : ℕ) → Within h k w → at_bits (node o p l r) h k w ≡ cond (eqb v w && eqb n k) o (at_bits (node s p l r) h k w)
  level_here none in_v k w in_h = by (eqb k 0) refl
    where
      by : (z : Bool) → eqb k 0 ≡ z
          → cond z o (cond (leb (half h) w) (at_bits r (h - 1) (k - 1) (w - half h)) (at_bits l (h - 1) (k - 1) w))
          ≡ cond (eqb v w && eqb n k) o (cond z s (cond (leb (half h) w) (at_bits r (h - 1) (k - 1) (w - half h)) (at_bits l (h - 1) (k - 1) w)))
      by true ez =
          let here : k ≡ 0 = eqb-true k 0 ez in
          let v0 = within_none h v (subst (λ m. Within h m v) none in_v) in
          let w0 = within_none h w (subst (λ m. Within h m w) here in_h) in
          sym (cond-true (eqb v w && eqb n k) o s (and_from (eqb v w) (eqb n k) (eq-eqb v w (v0 ∙ sym w0)) (eq-eqb n k (none ∙ sym here))))
      by false ez = sym (cond-false (eqb v w && eqb n k) o _ (and_right (eqb v w) (eqb n k) (ne_eqb n k (λ e. eqb-false k 0 ez (sym e ∙ none)))))

-- a fact of what is behind the first bit
pub behind : (P : ℕ → ℕ → ℕ → Type 0) {h h' n n' v v' : ℕ} → h' ≡ h → n' ≡ n → v' ≡ v → P h' n' v' → P h n v
behind P {h} {h'} {n} {n'} {v} {v'} eh en ev p = subst (λ y. P y n v) eh (subst (λ y. P h' y v) en (subst (P h' n') ev p))

-- one of two tries changes place with another
moved : (f : Trie → ℕ) (bit : Bool) (l r u : Trie) → (f (cond bit l u) + f (cond bit u r)) + f (cond bit r l) ≡ (f l + f r) + f u
moved f true l r u = omega arith
moved f false l r u = omega arith

both : (P : Trie → Type 0) (bit : Bool) (l r u : Trie) → P l → P r → (P (cond bit r l) → P u) → P (cond bit l u) × P (cond bit u r)
both P true l r u pl pr pu = (pl, pu pr)
both P false l r u pl pr pu = (pu pl, pr)

some_below : (bit : Bool) (l r u : Trie) → is_node u ≡ true → (is_node (cond bit l u) || is_node (cond bit u r)) ≡ true
some_below true l r u e = or_right (is_node l) (is_node u) e
some_below false l r u e = or_left (is_node u) (is_node r) e

-- how neat a node is
neat_from : (s : Option Server) (p : Box (Unit {0}) Global) (l r : Trie) (h : ℕ) → (is_some s || (is_node l || is_node r)) ≡ true → 0 < h → neat l (h - 1) ≡ true → neat r (h - 1) ≡ true → neat (node s p l r) h ≡ true
neat_from s p l r h b pos x y =
    and_from (is_some s || (is_node l || is_node r)) _ b (and_from (ltb 0 h || not (is_node l || is_node r)) _ (or_left (ltb 0 h) (not (is_node l || is_node r)) (lt-ltb 0 h pos)) (and_from (neat l (h - 1)) (neat r (h - 1)) x y))

ready_from : (s : Option Server) (p : Box (Unit {0}) Global) (l r : Trie) (h : ℕ) → 0 < h → neat l (h - 1) ≡ true → neat r (h - 1) ≡ true → ready (node s p l r) h ≡ true
ready_from s p l r h pos x y =
    and_from (ltb 0 h || not (is_node l || is_node r)) _ (or_left (ltb 0 h) (not (is_node l || is_node r)) (lt-ltb 0 h pos)) (and_from (neat l (h - 1)) (neat r (h - 1)) x y)

ready_parts : (s : Option Server) (p : Box (Unit {0}) Global) (l r : Trie) (h : ℕ) → ready (node s p l r) h ≡ true → (neat l (h - 1) ≡ true) × (neat r (h - 1) ≡ true)
ready_parts s p l r h e = and_parts (neat l (h - 1)) (neat r (h - 1)) (and_parts (ltb 0 h || not (is_node l || is_node r)) _ e).1

neat_ready : (s : Option Server) (p : Box (Unit {0}) Global) (l r : Trie) (h : ℕ) → neat (node s p l r) h ≡ true → ready (node s p l r) h ≡ true
neat_ready s p l r h e = (and_parts (is_some s || (is_node l || is_node r)) _ e).1

more : (s : Option Server) (k : ℕ) → 1 + k ≡ (cond (is_some s) 1 0 + k) + cond (is_some s) 0 1
more None k = omega arith
more (Some x) k = omega arith

less : (s : Option Server) (k : ℕ) → (0 + k) + cond (is_some s) 1 0 ≡ cond (is_some s) 1 0 + k
less None k = omega arith
less (Some x) k = omega arith

module _ {t g c c₁ : Trie} {s : Option Server} {p : Box (Unit {0}) Global} {l r : Trie} (h n v : ℕ) (x : Server)
    (first : Opened t g c c₁) (is : g ≡ node s p l r) (in_v : Within h n v) where
  here : n ≡ 0 → Inserted t (node (Some x) p l r) c c₁ h n v x
  here none =
      let sp = subst (λ u. Opened t u c c₁) is first in
      let at = sym (sp.held h n v) ∙ cond-true (eqb n 0) s (cond (leb (half h) v) (at_bits r (h - 1) (n - 1) (v - half h)) (at_bits l (h - 1) (n - 1) v)) (eq-eqb n 0 none) in
      record {
        held = λ k w in_h. level_here s (Some x) p l r h n v none in_v k w in_h ∙ ap (λ o. cond (eqb v w && eqb n k) (Some x) o) (sp.held h k w);
        nodes_kept = sp.nodes_kept;
        rules_are = more s (rules l + rules r) ∙ ap (λ m. m + cond (is_some s) 0 1) sp.rules_kept ∙ ap (λ o. rules t + cond (is_some o) 0 1) (sym at);
        node = refl;
        neat_kept = λ e. sp.ready_now h e;
      }

  pub inserted_here : (o : Option Server) → o ≡ Some x → n ≡ 0 → Inserted t (node o p l r) c c₁ h n v x
  inserted_here o e none = subst (λ y. Inserted t (node y p l r) c c₁ h n v x) (sym e) (here none)

  inserted_behind : {u u' c₂ : Trie} {bit : Bool} {h' n' v' : ℕ} → Split h n v bit h' n' v' → u ≡ cond bit r l → Inserted u u' c₁ c₂ h' n' v' x → Inserted t (node s p (cond bit l u') (cond bit u' r)) c c₂ h n v x
  inserted_behind {u} {u'} {c₂} {bit} {h'} {n'} {v'} way eu below =
      let sp = subst (λ y. Opened t y c c₁) is first in
      let ih = behind (λ y₁ y₂ y₃. Inserted (cond bit r l) u' c₁ c₂ y₁ y₂ y₃ x) way.height_is way.length_is way.value_is (subst (λ y. Inserted y u' c₁ c₂ h' n' v' x) eu below) in
      let at = sym (sp.held h n v) ∙ behind_bit s p l r h n v bit way.some way.bit_is in
      record {
        held = λ k w in_h. level_below s (Some x) p l r h n v u' bit way.some way.bit_is ih.held k w in_h ∙ ap (λ o. cond (eqb v w && eqb n k) (Some x) o) (sp.held h k w);
        nodes_kept = omega (arith, ih.nodes_kept, sp.nodes_kept, moved nodes bit l r u');
        rules_are = omega (arith, ih.rules_are, sp.rules_kept, moved rules bit l r u', ap {B = ℕ} (λ o. cond (is_some o) 0 1) at);
        node = refl;
        neat_kept = λ e.
            let parts = ready_parts s p l r h (sp.ready_now h e) in
            let sides = both (λ y. neat y (h - 1) ≡ true) bit l r u' parts.0 parts.1 ih.neat_kept in
            neat_from s p _ _ h (or_right (is_some s) _ (some_below bit l r u' ih.node)) (omega (arith, in_v.0, way.some)) sides.0 sides.1;
      }

-- the trie of a node in a box
abbrev pub boxed : Box Node Global → Trie
boxed b = Trie' (Some' (record { ptr = b.ptr; alloc = b.alloc; value = tt }) b.value)

pub rolled : (b : Box Node Global) → boxed b ≡ roll-Trie (record { 0 = Some b })
unfolding roll-Trie denote.Hole.Carrier.roll
rolled b = refl

pub shown : (g : Trie) (b : Box Node Global) → (out-Trie g).0 ≡ Some b → g ≡ boxed b
unfolding out-Trie denote.Hole.Carrier.out
shown (Trie' None') b e = absurd (none-some b e)
shown (Trie' (Some' p m)) b e = ap (λ x. Trie' (Some' (record { ptr = x.ptr; alloc = x.alloc; value = tt }) x.value)) (same_Some _ b e)

module _ {t c : Trie} {s : Option Server} {p : Box (Unit {0}) Global} {l r : Trie} (h n v : ℕ) (is : t ≡ node s p l r) (in_v : Within h n v) where
  gone : n ≡ 0 → Erased t (node None p l r) c c h n v ready
  gone none =
      let at = ap (λ u. at_bits u h n v) is ∙ cond-true (eqb n 0) s (cond (leb (half h) v) (at_bits r (h - 1) (n - 1) (v - half h)) (at_bits l (h - 1) (n - 1) v)) (eq-eqb n 0 none) in
      record {
        held = λ k w in_h. level_here s None p l r h n v none in_v k w in_h ∙ ap (λ u. cond (eqb v w && eqb n k) None (at_bits u h k w)) (sym is);
        nodes_kept = ap (λ u. nodes u + spares c) (sym is);
        rules_are = ap (λ o. (0 + (rules l + rules r)) + cond (is_some o) 1 0) at ∙ less s (rules l + rules r) ∙ ap rules (sym is);
        neat_kept = λ e. neat_ready s p l r h (ap (λ u. neat u h) (sym is) ∙ e);
      }

  pub erased_here : (o : Option Server) → o ≡ None → n ≡ 0 → Erased t (node o p l r) c c h n v ready
  erased_here o e none = subst (λ y. Erased t (node y p l r) c c h n v ready) (sym e) (gone none)

  erased_behind : {u u' c₂ : Trie} {bit : Bool} {h' n' v' : ℕ} → Split h n v bit h' n' v' → u ≡ cond bit r l → Erased u u' c c₂ h' n' v' neat → Erased t (node s p (cond bit l u') (cond bit u' r)) c c₂ h n v ready
  erased_behind {u} {u'} {c₂} {bit} {h'} {n'} {v'} way eu below =
      let ih = behind (λ y₁ y₂ y₃. Erased (cond bit r l) u' c c₂ y₁ y₂ y₃ neat) way.height_is way.length_is way.value_is (subst (λ y. Erased y u' c c₂ h' n' v' neat) eu below) in
      let at = ap (λ y. at_bits y h n v) is ∙ behind_bit s p l r h n v bit way.some way.bit_is in
      record {
        held = λ k w in_h. level_below s None p l r h n v u' bit way.some way.bit_is ih.held k w in_h ∙ ap (λ y. cond (eqb v w && eqb n k) None (at_bits y h k w)) (sym is);
        nodes_kept = omega (arith, ih.nodes_kept, ap nodes is, moved nodes bit l r u');
        rules_are = omega (arith, ih.rules_are, ap rules is, moved rules bit l r u', ap {B = ℕ} (λ o. cond (is_some o) 1 0) at);
        neat_kept = λ e.
            let parts = ready_parts s p l r h (neat_ready s p l r h (ap (λ y. neat y h) (sym is) ∙ e)) in
            let sides = both (λ y. neat y (h - 1) ≡ true) bit l r u' parts.0 parts.1 ih.neat_kept in
            ready_from s p _ _ h (omega (arith, in_v.0, way.some)) sides.0 sides.1;
      }

-- the same of a node in a box
module _ {t g c c₁ : Trie} (b : Box Node Global) (h n v : ℕ) (x : Server) (first : Opened t g c c₁) (is : (out-Trie g).0 ≡ Some b) (in_v : Within h n v) where
  pub inserted_end : (m : Node) → m ≡ b.value → n ≡ 0 → Inserted t (roll-Trie (record { 0 = Some (with_value b (roll-Node (record { server = Some x; zero = (out-Node m).zero; one = (out-Node m).one }))) })) c c₁ h n v x
  unfolding out-Node roll-Node denote.Hole.Carrier.out denote.Hole.Carrier.roll
  inserted_end (Node' s l r) em none =
      subst (λ y. Inserted t y c c₁ h n v x) (rolled (with_value b (Node' (Some x) l r)))
      (inserted_here h n v x first (shown g b is ∙ ap (λ y. boxed (with_value b y)) (sym em)) in_v (Some x) refl none)

  pub inserted_below : {u u' c₂ : Trie} {bit : Bool} {h' n' v' : ℕ} (m : Node) → m ≡ b.value → Split h n v bit h' n' v' → u ≡ child m bit → Inserted u u' c₁ c₂ h' n' v' x → Inserted t (roll-Trie (record { 0 = Some (with_value b (with_child m bit u')) })) c c₂ h n v x
  inserted_below {u} {u'} {c₂} {bit} (Node' s l r) em way eu below =
      subst (λ y. Inserted t y c c₂ h n v x) (rolled (with_value b (with_child (Node' s l r) bit u')))
      (inserted_behind h n v x first (shown g b is ∙ ap (λ y. boxed (with_value b y)) (sym em)) in_v way eu below)

module _ {t c : Trie} (b : Box Node Global) (h n v : ℕ) (is : (out-Trie t).0 ≡ Some b) (in_v : Within h n v) where
  pub erased_end : (m : Node) → m ≡ b.value → n ≡ 0 → Erased t (roll-Trie (record { 0 = Some (with_value b (roll-Node (record { server = None; zero = (out-Node m).zero; one = (out-Node m).one }))) })) c c h n v ready
  unfolding out-Node roll-Node denote.Hole.Carrier.out denote.Hole.Carrier.roll
  erased_end (Node' s l r) em none =
      subst (λ y. Erased t y c c h n v ready) (rolled (with_value b (Node' None l r)))
      (erased_here h n v (shown t b is ∙ ap (λ y. boxed (with_value b y)) (sym em)) in_v None refl none)

  pub erased_below : {u u' c₂ : Trie} {bit : Bool} {h' n' v' : ℕ} (m : Node) → m ≡ b.value → Split h n v bit h' n' v' → u ≡ child m bit → Erased u u' c c₂ h' n' v' neat → Erased t (roll-Trie (record { 0 = Some (with_value b (with_child m bit u')) })) c c₂ h n v ready
  erased_below {u} {u'} {c₂} {bit} (Node' s l r) em way eu below =
      subst (λ y. Erased t y c c₂ h n v ready) (rolled (with_value b (with_child (Node' s l r) bit u')))
      (erased_behind h n v (shown t b is ∙ ap (λ y. boxed (with_value b y)) (sym em)) in_v way eu below)

-- a cut, and then the idle node
pub tidy : {t t₁ u t₂ c c₁ c₂ : Trie} (h n v : ℕ) → Erased t t₁ c c₁ h n v ready → u ≡ t₁ → Pruned u t₂ c₁ c₂ → Erased t t₂ c c₂ h n v neat
tidy {t₂ = t₂} {c₁ = c₁} {c₂ = c₂} h n v done eu tidied =
    let td = subst (λ y. Pruned y t₂ c₁ c₂) eu tidied in
    record {
      held = λ k w in_h. td.held h k w ∙ done.held k w in_h;
      nodes_kept = omega (arith, td.nodes_kept, done.nodes_kept);
      rules_are = omega (arith, td.rules_kept, done.rules_are);
      neat_kept = λ e. td.neat_now h (done.neat_kept e);
    }
