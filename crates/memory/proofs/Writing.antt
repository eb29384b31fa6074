-- The ways out of a put and of a remove, over what is held and not over any one memory.
use Rattle.std.proofs.Common.{◌≡◌, ℕ, ◌+◌, ◌<◌, ◌≤◌, Bool, true, false, cond, not, ◌&&◌, eqb, leb, [], ◌∷◌, is_some, Some, None, Ok, Err, Option, Result, sym, refl, ap, ◌∙◌, arith}
use Rattle.std.proofs.lemmas.Bool.{and_parts, and_from, and_left, and_right, le-leb, lt-leb, eqb-true, both_ways}
use Rattle.rules.specs.declared.server.Server.{Server}
use Rattle.rules.specs.declared.refusal.Refusal.{Refusal}
use Rattle.rules.specs.declared.refusal.Refusal.TheVariants.{BrokenLayout, MemoryFull}
use Rattle.rules.specs.Refusals.{◌when◌, first, refusal}
use Rattle.memory.specs.declared.key.Prefix.{Prefix}
use Rattle.memory.specs.declared.key.KeyRule.{KeyRule}
use Rattle.memory.specs.Keys.{formed}
use Rattle.memory.specs.Holding.{Held, at, same_prefix}
use Rattle.memory.specs.Writes.{broken, written, Put, Removed}

abbrev Kept : (p : Prefix) → Type 0
Kept p = formed p.value p.length ≡ true

-- whether a put of this prefix finds the memory full
abbrev full : Held → ℕ → ℕ → Prefix → Bool
full h n most p = not (is_some (at h p)) && leb most n

-- both tests known
tried : {T : Type 0} (h : Held) (n most : ℕ) (p : Prefix) (r : Result T Refusal) (a b : Bool) → broken p ≡ a → full h n most p ≡ b
    → refusal r ≡ first ((BrokenLayout when a) ∷ (MemoryFull when b) ∷ []) → refusal r ≡ first ((BrokenLayout when broken p) ∷ (MemoryFull when full h n most p) ∷ [])
tried h n most p r a b ea eb e = e ∙ sym (ap (λ x. first ((BrokenLayout when x) ∷ (MemoryFull when full h n most p) ∷ [])) ea ∙ ap (λ x. first ((BrokenLayout when a) ∷ (MemoryFull when x) ∷ [])) eb)

module _ {T : Type 0} {h h' : Held} {n n' : ℕ} (most : ℕ) (rule : KeyRule) where
  pub put_full : Kept rule.prefix → at h rule.prefix ≡ None → most ≤ n → ((v l : ℕ) → h' v l ≡ h v l) → n' ≡ n → Put {T = T} h h' n n' most rule (Err MemoryFull)
  put_full f o over e m =
      record {
        refused = tried {T = T} h n most rule.prefix (Err MemoryFull) false true (ap not f) (and_from _ _ (ap (λ x. not (is_some x)) o) (le-leb most n over)) refl;
        holds = e;
        counts = omega arith;
      }

  pub put_new : (x : T) → Kept rule.prefix → at h rule.prefix ≡ None → n < most → ((v l : ℕ) → h' v l ≡ written h rule.prefix (Some rule.server) v l) → n' ≡ n + 1 → Put h h' n n' most rule (Ok x)
  put_new x f o fits e m =
      record {
        refused = tried {T = T} h n most rule.prefix (Ok x) false false (ap not f) (and_right _ (leb most n) (lt-leb most n fits)) refl;
        holds = e;
        counts = m ∙ ap (λ y. n + cond (not (is_some y)) 1 0) (sym o);
      }

  pub put_old : (x : T) → Kept rule.prefix → (t : Server) → at h rule.prefix ≡ Some t → ((v l : ℕ) → h' v l ≡ written h rule.prefix (Some rule.server) v l) → n' ≡ n → Put h h' n n' most rule (Ok x)
  put_old x f t o e m =
      record {
        refused = tried {T = T} h n most rule.prefix (Ok x) false false (ap not f) (and_left _ (leb most n) (ap (λ y. not (is_some y)) o)) refl;
        holds = e;
        counts = (let z : n' ≡ n + 0 = omega arith in z ∙ ap (λ y. n + cond (not (is_some y)) 1 0) (sym o));
      }

taken : {T : Type 0} (p : Prefix) (x : T) → Kept p → refusal {T = T} (Ok x) ≡ first ((BrokenLayout when broken p) ∷ [])
taken p x f = sym (ap (λ y. first ((BrokenLayout when not y) ∷ [])) f)

module _ {T : Type 0} {h h' : Held} {n n' : ℕ} (p : Prefix) where
  pub remove_there : (x : T) → Kept p → (t : Server) → at h p ≡ Some t → ((v l : ℕ) → h' v l ≡ written h p None v l) → n' + 1 ≡ n → Removed h h' n n' p (Ok x)
  remove_there x f t o e m = record { refused = taken p x f; holds = e; counts = ap (λ y. n' + cond (is_some y) 1 0) o ∙ m }

  pub remove_absent : (x : T) → Kept p → at h p ≡ None → ((v l : ℕ) → h' v l ≡ h v l) → n' ≡ n → Removed h h' n n' p (Ok x)
  remove_absent x f o e m =
      record {
        refused = taken p x f;
        holds = λ v l. e v l ∙ unwritten v l (eqb p.value v) (eqb p.length l) refl refl;
        counts = (let z : n' + 0 ≡ n = omega arith in ap (λ y. n' + cond (is_some y) 1 0) o ∙ z);
      }
    where
      unwritten : (v l : ℕ) (a b : Bool) → eqb p.value v ≡ a → eqb p.length l ≡ b → h v l ≡ cond (a && b) None (h v l)
      unwritten v l true true i j = sym (ap (λ x. h x p.length) (eqb-true p.value v i) ∙ ap (h v) (eqb-true p.length l j)) ∙ o
      unwritten v l true false i j = refl
      unwritten v l false b i j = refl

-- refused or not, after a remove nothing is held at its prefix, and all else is as it was
pub remove_after : {T : Type 0} {h h' : Held} {n n' : ℕ} (p : Prefix) (r : Result T Refusal) → Removed h h' n n' p r
    → ((v l : ℕ) → is_some (h v l) ≡ true → formed v l ≡ true) → (v l : ℕ) → h' v l ≡ written h p None v l
remove_after p (Ok x) done layout v l = done.holds v l
remove_after {h = h} p (Err why) done layout v l = done.holds v l ∙ by (same_prefix p v l) refl (formed p.value p.length) refl (h v l) refl
  where
    by : (b : Bool) → same_prefix p v l ≡ b → (f : Bool) → formed p.value p.length ≡ f → (o : Option Server) → h v l ≡ o → o ≡ cond b None o
    by false eb f ef o eo = refl
    by true eb f ef None eo = refl
    by true eb true ef (Some s) eo = absurd (let z : Some why ≡ None = done.refused ∙ ap (λ y. first ((BrokenLayout when not y) ∷ [])) ef in let c : ◌≡◌ {A = ℕ} 0 1 = cc in omega arith)
    by true eb false ef (Some s) eo =
        let t = and_parts (eqb p.value v) (eqb p.length l) eb in
        absurd (both_ways _ ef (ap (λ x. formed x p.length) (eqb-true p.value v t.0) ∙ ap (formed v) (eqb-true p.length l t.1) ∙ layout v l (ap is_some eo)))
