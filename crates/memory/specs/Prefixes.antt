-- When two prefixes are the same, and tests over them.
use Rattle.std.specs.Prelude.{◌≡◌, ℕ, Bool, true, false, cond, ◌&&◌, ◌||◌, List, [], ◌∷◌, is_some, Some, None, Option, ◌==◌, ◌≢◌, refl}
use Rattle.std.proofs.Common.{sym, ap, ◌∙◌}
use Rattle.std.proofs.lemmas.Bool.{and_parts, and_from, eqb-true, eq-eqb, false≢true, both_ways}
use Rattle.rules.specs.declared.server.Server.{Server}
use Rattle.memory.specs.declared.key.Prefix.{Prefix}
use Rattle.memory.specs.declared.key.KeyRule.{KeyRule}
use Rattle.memory.specs.Holding.{same_prefix, among, prefixes_of, listed}

pub some_or : (b : Bool) (s : Server) (o : Option Server) (t : Bool) → is_some o ≡ t → is_some (cond b (Some s) o) ≡ (b || t)
some_or true s o t e = refl
some_or false s o t e = e

pub none_from : (o : Option Server) → is_some o ≡ false → o ≡ None
none_from None e = refl
none_from (Some s) e = absurd (false≢true (sym e))

-- two tests that are never both true may change places
pub turn : {X : Type 0} (a b : Bool) (p q o : X) → (a ≡ true → b ≢ true) → cond a p (cond b q o) ≡ cond b q (cond a p o)
turn true true p q o never = absurd (never refl refl)
turn true false p q o never = refl
turn false true p q o never = refl
turn false false p q o never = refl

pub off_unless : (b : Bool) → (b ≢ true) → b ≡ false
off_unless true h = absurd (h refl)
off_unless false h = refl

pub same_sym : (p q : Prefix) → same_prefix q p.value p.length ≡ false → same_prefix p q.value q.length ≡ false
same_sym p q e =
    off_unless _ (λ s.
    let t = and_parts (p.value == q.value) (p.length == q.length) s in
    both_ways _ e (and_from _ _ (eq-eqb _ _ (sym (eqb-true _ _ t.0))) (eq-eqb _ _ (sym (eqb-true _ _ t.1)))))

-- the same prefix is the same for every question
pub same_as : (p q : Prefix) (w k : ℕ) → same_prefix p q.value q.length ≡ true → same_prefix p w k ≡ same_prefix q w k
same_as p q w k e =
    let t = and_parts (p.value == q.value) (p.length == q.length) e in
    ap (λ x. (x == w) && p.length == k) (eqb-true p.value q.value t.0) ∙ ap (λ x. (q.value == w) && x == k) (eqb-true p.length q.length t.1)

pub same_both : (p q : Prefix) (w k : ℕ) → same_prefix p w k ≡ true → same_prefix q w k ≡ true → same_prefix p q.value q.length ≡ true
same_both p q w k e f =
    let s = and_parts (p.value == w) (p.length == k) e in
    let t = and_parts (q.value == w) (q.length == k) f in
    and_from _ _ (eq-eqb _ _ (eqb-true _ _ s.0 ∙ sym (eqb-true _ _ t.0))) (eq-eqb _ _ (eqb-true _ _ s.1 ∙ sym (eqb-true _ _ t.1)))

-- a list of rules has a server at just the prefixes that it names
pub listed_among : (rs : List KeyRule) (v l : ℕ) → is_some (listed rs v l) ≡ among (prefixes_of rs) v l
listed_among [] v l = refl
listed_among (r ∷ rs) v l = some_or (same_prefix r.prefix v l) r.server (listed rs v l) (among (prefixes_of rs) v l) (listed_among rs v l)
