-- Laws of how many prefixes are held, and that n held prefixes and a count of n leave no other.
use Rattle.std.proofs.Common.{◌≡◌, ℕ, suc, ◌+◌, Bool, true, false, cond, not, ◌||◌, eqb, List, [], ◌∷◌, length, is_some, Some, None, Option, sym, refl, ap, ◌∙◌, subst, arith}
use Rattle.std.proofs.lemmas.Bool.{and_parts, and_from, or_left, or_right, eqb-true, eq-eqb, false≢true, both_ways, not-true, not_from_false}
use mathlib.Core.Logic.{∥∥₁_elim}
use mathlib.Core.HLevel.{⊥_prop}
use Rattle.rules.specs.declared.server.Server.{Server}
use Rattle.memory.specs.declared.key.Prefix.{Prefix}
use Rattle.memory.specs.Holding.{Held, at, same_prefix, among, apart, Counted}
use Rattle.memory.specs.Writes.{written}
use Rattle.memory.specs.Prefixes.{same_as, same_both, some_or}

abbrev prefix : ℕ → ℕ → Prefix
prefix v l = record { value = v; length = l }

among_at : (ps : List Prefix) (v l w k : ℕ) → same_prefix (prefix v l) w k ≡ true → among ps v l ≡ among ps w k
among_at ps v l w k e =
    let t = and_parts (eqb v w) (eqb l k) e in
    ap (λ x. among ps x l) (eqb-true v w t.0) ∙ ap (among ps w) (eqb-true l k t.1)

-- a list without one prefix
abbrev without : ℕ → ℕ → List Prefix → List Prefix
without v l [] = []
without v l (p ∷ ps) = cond (same_prefix p v l) ps (p ∷ without v l ps)

length_without : (v l : ℕ) (ps : List Prefix) → among ps v l ≡ true → suc (length (without v l ps)) ≡ length ps
length_without v l [] e = absurd (false≢true e)
length_without v l (p ∷ ps) e = by (length_without v l ps) (same_prefix p v l) e
  where
    by : (among ps v l ≡ true → suc (length (without v l ps)) ≡ length ps) → (b : Bool) → (b || among ps v l) ≡ true → suc (length (cond b ps (p ∷ without v l ps))) ≡ suc (length ps)
    by ih true h = refl
    by ih false h = ap suc (ih h)

among_without : (v l : ℕ) (ps : List Prefix) (w k : ℕ) → apart ps ≡ true → among (without v l ps) w k ≡ cond (same_prefix (prefix v l) w k) false (among ps w k)
among_without v l [] w k a = none (same_prefix (prefix v l) w k)
  where
    none : (b : Bool) → false ≡ cond b false false
    none true = refl
    none false = refl
among_without v l (p ∷ ps) w k a = by (among_without v l ps w k (and_parts _ _ a).1) (same_prefix p v l) refl
  where
    gone : (b c : Bool) → c ≡ b → (b ≡ true → among ps w k ≡ false) → among ps w k ≡ cond b false (c || among ps w k)
    gone true c e absent = absent refl
    gone false c e absent = ap (λ x. x || among ps w k) (sym e)

    kept : (b c m : Bool) → (b ≡ true → c ≡ true → ⊥) → (c || cond b false m) ≡ cond b false (c || m)
    kept true true m never = absurd (never refl refl)
    kept true false m never = refl
    kept false c m never = refl

    by : among (without v l ps) w k ≡ cond (same_prefix (prefix v l) w k) false (among ps w k) → (b : Bool) → same_prefix p v l ≡ b
        → among (cond b ps (p ∷ without v l ps)) w k ≡ cond (same_prefix (prefix v l) w k) false (same_prefix p w k || among ps w k)
    by ih true e =
        gone (same_prefix (prefix v l) w k) (same_prefix p w k) (same_as p (prefix v l) w k e)
        (λ hit. sym (among_at ps p.value p.length w k (same_as p (prefix v l) w k e ∙ hit)) ∙ not-true _ (and_parts _ _ a).0)
    by ih false e =
        ap (λ x. same_prefix p w k || x) ih
        ∙ kept (same_prefix (prefix v l) w k) (same_prefix p w k) (among ps w k) (λ s t. both_ways _ e (same_both p (prefix v l) w k t s))

cond_off : (b : Bool) {m : Bool} → m ≡ false → cond b false m ≡ false
cond_off true e = refl
cond_off false e = e

apart_without : (v l : ℕ) (ps : List Prefix) → apart ps ≡ true → apart (without v l ps) ≡ true
apart_without v l [] a = refl
apart_without v l (p ∷ ps) a = by (apart_without v l ps (and_parts _ _ a).1) (same_prefix p v l)
  where
    by : apart (without v l ps) ≡ true → (b : Bool) → apart (cond b ps (p ∷ without v l ps)) ≡ true
    by ih true = (and_parts _ _ a).1
    by ih false =
        and_from _ _
        (not_from_false _ (among_without v l ps p.value p.length (and_parts _ _ a).1
        ∙ cond_off (same_prefix (prefix v l) p.value p.length) (not-true _ (and_parts _ _ a).0)))
        ih

-- nothing is held
pub counted_none : (h : Held) → ((w k : ℕ) → h w k ≡ None) → Counted h 0
counted_none h e = record { prefixes = []; many = refl; once = refl; exact = λ w k. ap is_some (e w k) }

module _ {h h' : Held} {n : ℕ} (p : Prefix) (o : Option Server) (all : Counted h n) (now : (w k : ℕ) → h' w k ≡ written h p o w k) where
  -- one prefix more
  pub counted_new : (s : Server) → o ≡ Some s → at h p ≡ None → Counted h' (n + 1)
  counted_new s is fresh =
      record {
        prefixes = p ∷ all.prefixes;
        many = ap suc all.many ∙ (omega arith);
        once = and_from _ _ (not_from_false _ (sym (all.exact p.value p.length) ∙ ap is_some fresh)) all.once;
        exact = λ w k. ap is_some (now w k ∙ ap (λ x. cond (same_prefix p w k) x (h w k)) is) ∙ some_or (same_prefix p w k) s (h w k) (among all.prefixes w k) (all.exact w k);
      }

  -- the same prefixes
  pub counted_old : (s t : Server) → o ≡ Some s → at h p ≡ Some t → Counted h' n
  counted_old s t is there =
      record {
        prefixes = all.prefixes;
        many = all.many;
        once = all.once;
        exact = λ w k. ap is_some (now w k ∙ ap (λ x. cond (same_prefix p w k) x (h w k)) is) ∙ by w k (same_prefix p w k) refl;
      }
    where
      by : (w k : ℕ) (b : Bool) → same_prefix p w k ≡ b → is_some (cond b (Some s) (h w k)) ≡ among all.prefixes w k
      by w k true e = sym (sym (among_at all.prefixes p.value p.length w k e) ∙ sym (all.exact p.value p.length) ∙ ap is_some there)
      by w k false e = all.exact w k

  -- either, by what was held at the prefix
  pub counted_put : (s : Server) → o ≡ Some s → (x : Option Server) → at h p ≡ x → (m : ℕ) → m ≡ n + cond (is_some x) 0 1 → Counted h' m
  counted_put s is None e m many = subst (Counted h') (sym many) (counted_new s is e)
  counted_put s is (Some t) e m many = let same : n ≡ m = omega (arith, many) in subst (Counted h') same (counted_old s t is e)

  -- one prefix less
  pub counted_less : (t : Server) (m : ℕ) → o ≡ None → at h p ≡ Some t → m + 1 ≡ n → Counted h' m
  counted_less t m is there one =
      record {
        prefixes = without p.value p.length all.prefixes;
        many = (let f = length_without p.value p.length all.prefixes (sym (all.exact p.value p.length) ∙ ap is_some there) in omega (arith, f, all.many));
        once = apart_without p.value p.length all.prefixes all.once;
        exact = λ w k. ap is_some (now w k ∙ ap (λ x. cond (same_prefix p w k) x (h w k)) is) ∙ by w k (same_prefix p w k) ∙ sym (among_without p.value p.length all.prefixes w k all.once);
      }
    where
      by : (w k : ℕ) (b : Bool) → is_some (cond b None (h w k)) ≡ cond b false (among all.prefixes w k)
      by w k true = refl
      by w k false = all.exact w k

pub same_self : (p : Prefix) → same_prefix p p.value p.length ≡ true
same_self p = and_from _ _ (eq-eqb p.value p.value refl) (eq-eqb p.length p.length refl)

-- prefixes that are as many as the others, and among them, are all of them
pub none_other : (ps qs : List Prefix) → apart ps ≡ true → apart qs ≡ true → length ps ≡ length qs → ((w k : ℕ) → among ps w k ≡ true → among qs w k ≡ true) → (w k : ℕ) → among qs w k ≡ true → among ps w k ≡ true
none_other [] [] a b e sub w k h = h
none_other [] (q ∷ qs) a b e sub w k h = absurd (omega arith)
none_other (p ∷ ps) qs a b e sub w k h =
    let first : among qs p.value p.length ≡ true = sub p.value p.length (or_left _ _ (same_self p)) in
    let short = length_without p.value p.length qs first in
    by (none_other ps (without p.value p.length qs) (and_parts _ _ a).1 (apart_without p.value p.length qs b) (omega (arith, short))
    (λ x y i. among_without p.value p.length qs x y b ∙ left_in x y i (same_prefix p x y) refl) w k) (same_prefix p w k) refl
  where
    left_in : (x y : ℕ) → among ps x y ≡ true → (c : Bool) → same_prefix p x y ≡ c → cond c false (among qs x y) ≡ true
    left_in x y i true f = absurd (both_ways _ (not-true _ (and_parts _ _ a).0) (among_at ps p.value p.length x y f ∙ i))
    left_in x y i false f = sub x y (or_right (same_prefix p x y) (among ps x y) i)

    by : (among (without p.value p.length qs) w k ≡ true → among ps w k ≡ true) → (c : Bool) → same_prefix p w k ≡ c → (c || among ps w k) ≡ true
    by ih true f = refl
    by ih false f = ih (among_without p.value p.length qs w k b ∙ ap (λ c. cond c false (among qs w k)) f ∙ h)

-- n prefixes, all held and none twice, where n are held: no other is held
pub held_among : (h : Held) (n : ℕ) (ps : List Prefix) → ∥ Counted h n ∥₁ → apart ps ≡ true → length ps ≡ n → ((v l : ℕ) → among ps v l ≡ true → is_some (h v l) ≡ true) → (v l : ℕ) → is_some (h v l) ≡ true → among ps v l ≡ true
held_among h n ps all once many sub v l e = by (among ps v l) refl
  where
    by : (b : Bool) → among ps v l ≡ b → b ≡ true
    by true f = refl
    by false f =
        absurd (∥∥₁_elim all ⊥_prop (λ (a : Counted h n). both_ways (among ps v l) f
        (none_other ps a.prefixes once a.once (many ∙ sym a.many) (λ w k i. sym (a.exact w k) ∙ sub w k i) v l (sym (a.exact v l) ∙ e))))

-- two lists without repetition that name the same prefixes are as long as each other
pub same_length : (ps qs : List Prefix) → apart ps ≡ true → apart qs ≡ true → ((w k : ℕ) → among ps w k ≡ among qs w k) → length ps ≡ length qs
same_length [] [] a b e = refl
same_length [] (q ∷ qs) a b e = absurd (false≢true (e q.value q.length ∙ or_left _ _ (same_self q)))
same_length (p ∷ ps) qs a b e =
    let first : among qs p.value p.length ≡ true = sym (e p.value p.length) ∙ or_left _ _ (same_self p) in
    let short = length_without p.value p.length qs first in
    let rest : length ps ≡ length (without p.value p.length qs) = same_length ps (without p.value p.length qs) (and_parts (not (among ps p.value p.length)) (apart ps) a).1 (apart_without p.value p.length qs b) (λ w k. by w k (same_prefix p w k) refl ∙ sym (among_without p.value p.length qs w k b)) in
    omega (arith, short, rest)
  where
    by : (w k : ℕ) (c : Bool) → same_prefix p w k ≡ c → among ps w k ≡ cond c false (among qs w k)
    by w k true f = sym (among_at ps p.value p.length w k f) ∙ not-true _ (and_parts _ _ a).0
    by w k false f = ap (λ c. c || among ps w k) (sym f) ∙ e w k

-- the count of a set is one number
pub count_is : (h : Held) (n : ℕ) (ps : List Prefix) → ∥ Counted h n ∥₁ → apart ps ≡ true → ((v l : ℕ) → is_some (h v l) ≡ among ps v l) → (length ps ≡ n → ⊥) → ⊥
count_is h n ps all once exact other =
    ∥∥₁_elim all ⊥_prop (λ (a : Counted h n). other (same_length ps a.prefixes once a.once (λ w k. sym (exact w k) ∙ a.exact w k) ∙ a.many))
