-- Lists of key rules as sets: what stands at a prefix, and how many prefixes there are.
use Rattle.std.proofs.Common.{◌≡◌, ℕ, zero, suc, ◌<◌, ◌≤◌, Bool, true, false, cond, not, ◌||◌, eqb, List, [], ◌∷◌, ◌++◌, length, is_some, Some, None, filter, Option, sym, refl, ap, ◌∙◌, subst, arith}
use mathlib.Core.Logic.{∥∥₁_elim}
use mathlib.Core.HLevel.{⊥_prop}
use native.Mathlib.Decide.{dec_le}
use Rattle.std.specs.List.{AllByRecursion}
use Rattle.std.specs.Option.{option_or}
use Rattle.std.proofs.lemmas.Bool.{cond_both, cond-true, cond-false, and_parts, and_from, or_left, or_right, eqb-true, both_ways, false≢true, not-true, not_from_false}
use Rattle.std.proofs.lemmas.List.{nil_from_length}
use Rattle.rules.specs.declared.server.Server.{Server}
use Rattle.memory.specs.declared.key.Prefix.{Prefix}
use Rattle.memory.specs.declared.key.KeyRule.{KeyRule}
use Rattle.memory.specs.Holding.{Held, at, same_prefix, among, apart, Counted, prefixes_of, listed}
use Rattle.memory.specs.Writes.{written}
use Rattle.memory.specs.Prefixes.{listed_among}
use Rattle.memory.proofs.Counting.{counted_less, same_self}
use Rattle.memory.proofs.Exact.{length_prefixes}

-- An answer or else one that is some is some.
pub some_later : (o p : Option Server) → is_some p ≡ true → is_some (option_or o p) ≡ true
some_later None p h = h
some_later (Some s) p h = refl

-- what is some is some server
some_server : (o : Option Server) → is_some o ≡ true → (s : Server) × (o ≡ Some s)
some_server None h = cc
some_server (Some s) h = (s, refl)

-- What holds at a prefix holds at each value and length that are the same prefix.
pub at_same : (p : Prefix) (v l : ℕ) (P : ℕ → ℕ → Type 0) → same_prefix p v l ≡ true → P p.value p.length → P v l
at_same p v l P h x =
    let t = and_parts (eqb p.value v) (eqb p.length l) h in
    subst (λ (u : ℕ). P u l) (eqb-true p.value v t.0) (subst (λ (k : ℕ). P p.value k) (eqb-true p.length l t.1) x)

-- A list that never names a prefix has nothing there.
pub listed_none : (rs : List KeyRule) (v l : ℕ) → AllByRecursion (λ r. same_prefix r.prefix v l ≡ false) rs → listed rs v l ≡ None
listed_none [] v l h = refl
listed_none (r ∷ rs) v l h = cond-false _ _ _ h.0 ∙ listed_none rs v l h.1

-- ---- lists in a row

-- Two lists in a row have what the first has, or else what the second has.
pub listed_append : (xs ys : List KeyRule) (v l : ℕ) → listed (xs ++ ys) v l ≡ option_or (listed xs v l) (listed ys v l)
listed_append [] ys v l = refl
listed_append (x ∷ xs) ys v l = go (same_prefix x.prefix v l) (listed_append xs ys v l)
  where
    go : (b : Bool) → listed (xs ++ ys) v l ≡ option_or (listed xs v l) (listed ys v l)
        → cond b (Some x.server) (listed (xs ++ ys) v l) ≡ option_or (cond b (Some x.server) (listed xs v l)) (listed ys v l)
    go true e = refl
    go false e = e

-- Where two lists in a row have nothing, the first has nothing.
pub front_none : (xs ys : List KeyRule) (v l : ℕ) → listed (xs ++ ys) v l ≡ None → listed xs v l ≡ None
front_none xs ys v l h = go (listed xs v l) (sym (listed_append xs ys v l) ∙ h)
  where
    go : (o : Option Server) → option_or o (listed ys v l) ≡ None → o ≡ None
    go None e = refl
    go (Some s) e = cc

-- A rule behind rules that lack its prefix is found there.
pub listed_behind : (xs : List KeyRule) (y : KeyRule) (ys : List KeyRule) → at (listed xs) y.prefix ≡ None → at (listed (xs ++ (y ∷ ys))) y.prefix ≡ Some y.server
listed_behind xs y ys e =
    listed_append xs (y ∷ ys) y.prefix.value y.prefix.length
    ∙ ap (λ o. option_or o (at (listed (y ∷ ys)) y.prefix)) e ∙ cond-true _ _ _ (same_self y.prefix)

-- ---- no prefix twice

-- No two rules of a list have one prefix, by what stands behind each.
abbrev pub Apart : List KeyRule → Type 0
Apart [] = Unit {0}
Apart (r ∷ rs) = (at (listed rs) r.prefix ≡ None) × Apart rs

-- The same as a test.
pub apart_holds : (rs : List KeyRule) → Apart rs → apart (prefixes_of rs) ≡ true
apart_holds [] a = refl
apart_holds (r ∷ rs) a =
    and_from (not (among (prefixes_of rs) r.prefix.value r.prefix.length)) (apart (prefixes_of rs))
    (not_from_false _ (sym (listed_among rs r.prefix.value r.prefix.length) ∙ ap is_some a.0)) (apart_holds rs a.1)

-- Lists that are apart, and lack each other's prefixes, are apart in a row.
pub apart_append : (xs ys : List KeyRule) → Apart xs → Apart ys → AllByRecursion (λ r. at (listed ys) r.prefix ≡ None) xs → Apart (xs ++ ys)
apart_append [] ys a b h = b
apart_append (x ∷ xs) ys a b h = (
  listed_append xs ys x.prefix.value x.prefix.length ∙ ap (λ o. option_or o (at (listed ys) x.prefix)) a.0 ∙ h.0,
  apart_append xs ys a.1 b h.1,
)

-- The front of a list that is apart is apart.
pub apart_front : (xs ys : List KeyRule) → Apart (xs ++ ys) → Apart xs
apart_front [] ys a = tt
apart_front (x ∷ xs) ys a = (front_none xs ys x.prefix.value x.prefix.length a.0, apart_front xs ys a.1)

-- A rule in the middle of a list that is apart has its prefix for itself.
pub apart_middle : (xs : List KeyRule) (y : KeyRule) (ys : List KeyRule) → Apart (xs ++ (y ∷ ys)) → at (listed xs) y.prefix ≡ None
apart_middle [] y ys a = refl
apart_middle (x ∷ xs) y ys a = go (apart_middle xs y ys a.1) (same_prefix x.prefix y.prefix.value y.prefix.length) refl
  where
    go : at (listed xs) y.prefix ≡ None → (b : Bool) → same_prefix x.prefix y.prefix.value y.prefix.length ≡ b
        → cond b (Some x.server) (at (listed xs) y.prefix) ≡ None
    go ih true e =
        cc (at_same x.prefix y.prefix.value y.prefix.length (λ v l. listed (xs ++ (y ∷ ys)) v l ≡ None) e a.0, listed_behind xs y ys ih)
    go ih false e = ih

-- ---- filters

-- A server that passes a test, or none.
abbrev pub only : (Server → Bool) → Option Server → Option Server
only q None = None
only q (Some s) = cond (q s) (Some s) None

-- The rule for a prefix by its value and length.
abbrev pub rule : ℕ → ℕ → Server → KeyRule
rule v l s = record { prefix = record { value = v; length = l }; server = s }

-- A filtered list has at a prefix what the list has there, if that passes.
pub listed_kept : (p : KeyRule → Bool) (rs : List KeyRule) → Apart rs → (v l : ℕ) → listed (filter p rs) v l ≡ only (λ s. p (rule v l s)) (listed rs v l)
listed_kept p [] a v l = refl
listed_kept p (r ∷ rs) a v l = go (listed_kept p rs a.1 v l) (p r) refl (same_prefix r.prefix v l) refl
  where
    go : listed (filter p rs) v l ≡ only (λ s. p (rule v l s)) (listed rs v l) → (b : Bool) → p r ≡ b → (c : Bool) → same_prefix r.prefix v l ≡ c
        → listed (cond b (r ∷ filter p rs) (filter p rs)) v l ≡ only (λ s. p (rule v l s)) (cond c (Some r.server) (listed rs v l))
    go ih true e true f =
        cond-true _ _ _ f ∙ sym (cond-true _ _ _ (at_same r.prefix v l (λ x y. p (rule x y r.server) ≡ true) f e))
    go ih true e false f = cond-false _ _ _ f ∙ ih
    go ih false e true f =
        ih ∙ ap (only (λ s. p (rule v l s))) (at_same r.prefix v l (λ x y. listed rs x y ≡ None) f a.0)
        ∙ sym (cond-false _ _ _ (at_same r.prefix v l (λ x y. p (rule x y r.server) ≡ false) f e))
    go ih false e false f = ih

-- A filter finds nothing where the list has nothing.
pub kept_none : (p : KeyRule → Bool) (rs : List KeyRule) → Apart rs → (v l : ℕ) → listed rs v l ≡ None → listed (filter p rs) v l ≡ None
kept_none p rs a v l e = listed_kept p rs a v l ∙ ap (only (λ s. p (rule v l s))) e

-- A filter keeps a list apart.
pub apart_kept : (p : KeyRule → Bool) (rs : List KeyRule) → Apart rs → Apart (filter p rs)
apart_kept p [] a = tt
apart_kept p (r ∷ rs) a =
    cond_both (p r) (r ∷ filter p rs) (filter p rs) Apart
    (λ _. (kept_none p rs a.1 r.prefix.value r.prefix.length a.0, apart_kept p rs a.1)) (λ _. apart_kept p rs a.1)

-- ---- how many

-- a list that is apart has as many prefixes as it is long
counted_list : (rs : List KeyRule) → Apart rs → Counted (listed rs) (length rs)
counted_list rs a = record { prefixes = prefixes_of rs; many = length_prefixes rs; once = apart_holds rs a; exact = listed_among rs }

-- prefixes that are all held, none of them twice, are at most as many as are held
at_most : (ps : List Prefix) → apart ps ≡ true → (h : Held) (n : ℕ) → Counted h n → ((v l : ℕ) → among ps v l ≡ true → is_some (h v l) ≡ true) → length ps ≤ n
at_most [] a h n all sub = omega arith
at_most (p ∷ ps) a h zero all sub =
    let nil = nil_from_length all.prefixes all.many in
    absurd (false≢true (ap (λ qs. among qs p.value p.length) (sym nil) ∙ sym (all.exact p.value p.length) ∙ sub p.value p.length (or_left _ _ (same_self p))))
at_most (p ∷ ps) a h (suc n) all sub =
    let t = some_server (at h p) (sub p.value p.length (or_left _ _ (same_self p))) in
    let less : Counted (written h p None) n = counted_less p None all (λ w k. refl) t.0 n refl t.1 (omega arith) in
    omega (arith, at_most ps (and_parts (not (among ps p.value p.length)) (apart ps) a).1 (written h p None) n less (λ v l i. still v l i (same_prefix p v l) refl))
  where
    still : (v l : ℕ) → among ps v l ≡ true → (b : Bool) → same_prefix p v l ≡ b → is_some (cond b None (h v l)) ≡ true
    still v l i true e =
        absurd (both_ways _ (at_same p v l (λ x y. among ps x y ≡ false) e (not-true _ (and_parts (not (among ps p.value p.length)) (apart ps) a).0)) i)
    still v l i false e = sub v l (or_right (same_prefix p v l) (among ps v l) i)

module _ (rs : List KeyRule) (a : Apart rs) (h : Held) (n : ℕ) (all : ∥ Counted h n ∥₁) (sub : (v l : ℕ) → is_some (h v l) ≡ true → is_some (listed rs v l) ≡ true) where
  -- Where only prefixes of a list are held, at most as many are held as the list is long.
  pub within_list : n ≤ length rs
  within_list = go (dec_le n (length rs))
    where
      go : Dec (n ≤ length rs) → n ≤ length rs
      go (yes k) = k
      go (no k) =
          absurd (∥∥₁_elim all ⊥_prop (λ (c : Counted h n).
          k (omega (arith, c.many, at_most c.prefixes c.once (listed rs) (length rs) (counted_list rs a) (λ v l i. sub v l (c.exact v l ∙ i))))))

  -- Where one of them is not held, fewer are held.
  pub below_list : (p : Prefix) → at h p ≡ None → is_some (at (listed rs) p) ≡ true → n < length rs
  below_list p new there = go (dec_le (suc n) (length rs))
    where
      with_it : (c : Counted h n) (v l : ℕ) (b : Bool) → same_prefix p v l ≡ b → (b || among c.prefixes v l) ≡ true → is_some (listed rs v l) ≡ true
      with_it c v l true e i = at_same p v l (λ x y. is_some (listed rs x y) ≡ true) e there
      with_it c v l false e i = sub v l (c.exact v l ∙ i)

      once : (c : Counted h n) → apart (p ∷ c.prefixes) ≡ true
      once c = and_from _ _ (not_from_false _ (sym (c.exact p.value p.length) ∙ ap is_some new)) c.once

      go : Dec (suc n ≤ length rs) → n < length rs
      go (yes k) = omega arith
      go (no k) =
          absurd (∥∥₁_elim all ⊥_prop (λ (c : Counted h n).
          k (omega (arith, c.many, at_most (p ∷ c.prefixes) (once c) (listed rs) (length rs) (counted_list rs a) (λ v l i. with_it c v l (same_prefix p v l) refl i)))))
