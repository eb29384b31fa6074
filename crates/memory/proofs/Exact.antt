-- Held rules, and as many as are counted: then no other rule is held.
use Rattle.std.proofs.Common.{◌≡◌, ℕ, suc, Bool, true, false, cond, ◌&&◌, ◌||◌, eqb, List, [], ◌∷◌, length, is_some, Some, None, Option, MatchBool, sym, refl, ap, ◌∙◌}
use Rattle.std.proofs.lemmas.Bool.{and_parts, and_from, eqb-true, eq-eqb, false≢true, both_ways, not-true, or_left, or_right}
use Rattle.std.specs.List.{list_any, list_all}
use Rattle.rules.specs.declared.server.Server.{Server}
use Rattle.rules.specs.declared.server.Server.TheVariants.{One, Two}
use Rattle.rules.specs.Servers.{server_number}
use Rattle.memory.specs.declared.key.KeyRule.{KeyRule}
use Rattle.memory.specs.Holding.{Held, at, same_prefix, among, apart, Counted, prefixes_of, listed, Exactly, same_server, all_held}
use Rattle.memory.specs.Prefixes.{listed_among, none_from, off_unless}
use Rattle.memory.proofs.Counting.{held_among, count_is, same_self}

server_is : (t s : Server) → eqb (server_number t) (server_number s) ≡ true → t ≡ s
server_is One One e = refl
server_is One Two e = absurd (false≢true e)
server_is Two One e = absurd (false≢true e)
server_is Two Two e = refl

-- the server of an answer that passes the test
pub answer_is : (o : Option Server) (s : Server) → same_server o s ≡ true → o ≡ Some s
answer_is None s e = absurd (false≢true e)
answer_is (Some t) s e = ap Some (server_is t s e)

is_answer : (o : Option Server) (s : Server) → o ≡ Some s → same_server o s ≡ true
is_answer o s e = ap (λ x. same_server x s) e ∙ eq-eqb (server_number s) (server_number s) refl

-- the tests of a list of rules, as tests of each rule
pub among_any : (rs : List KeyRule) (v l : ℕ) → among (prefixes_of rs) v l ≡ list_any (λ r. same_prefix r.prefix v l) rs
among_any [] v l = refl
among_any (r ∷ rs) v l = ap (λ b. same_prefix r.prefix v l || b) (among_any rs v l)

pub held_all : (h : Held) (rs : List KeyRule) → all_held h rs ≡ list_all (λ r. same_server (at h r.prefix) r.server) rs
held_all h [] = refl
held_all h (r ∷ rs) = ap (λ b. same_server (at h r.prefix) r.server && b) (held_all h rs)

-- a list of rules names as many prefixes as it has rules
pub length_prefixes : (rs : List KeyRule) → length (prefixes_of rs) ≡ length rs
length_prefixes [] = refl
length_prefixes (r ∷ rs) = ap suc (length_prefixes rs)

-- what the list names, the reader has
named_held : (h : Held) (rs : List KeyRule) (v l : ℕ) → all_held h rs ≡ true → among (prefixes_of rs) v l ≡ true → h v l ≡ listed rs v l
named_held h [] v l a i = absurd (false≢true i)
named_held h (r ∷ rs) v l a i = by (named_held h rs v l (and_parts _ _ a).1) (same_prefix r.prefix v l) refl i
  where
    by : (among (prefixes_of rs) v l ≡ true → h v l ≡ listed rs v l) → (b : Bool) → same_prefix r.prefix v l ≡ b → (b || among (prefixes_of rs) v l) ≡ true
        → h v l ≡ cond b (Some r.server) (listed rs v l)
    by ih true e f =
        let t = and_parts (eqb r.prefix.value v) (eqb r.prefix.length l) e in
        sym (ap (λ x. h x r.prefix.length) (eqb-true r.prefix.value v t.0) ∙ ap (h v) (eqb-true r.prefix.length l t.1))
        ∙ answer_is (at h r.prefix) r.server (and_parts _ _ a).0
    by ih false e f = ih f

-- and the other way round
held_named : (h : Held) (rs : List KeyRule) → apart (prefixes_of rs) ≡ true → ((v l : ℕ) → among (prefixes_of rs) v l ≡ true → h v l ≡ listed rs v l) → all_held h rs ≡ true
held_named h [] a e = refl
held_named h (r ∷ rs) a e =
    and_from _ _
    (is_answer (at h r.prefix) r.server (e r.prefix.value r.prefix.length (or_left _ _ (same_self r.prefix)) ∙ ap (λ b. cond b (Some r.server) (listed rs r.prefix.value r.prefix.length)) (same_self r.prefix)))
    (held_named h rs (and_parts _ _ a).1 (λ v l i. e v l (or_right (same_prefix r.prefix v l) _ i) ∙ ap (λ b. cond b (Some r.server) (listed rs v l)) (off v l i)))
  where
    off : (v l : ℕ) → among (prefixes_of rs) v l ≡ true → same_prefix r.prefix v l ≡ false
    off v l i = off_unless _ (λ s.
        let t = and_parts (eqb r.prefix.value v) (eqb r.prefix.length l) s in
        both_ways _ (not-true _ (and_parts _ _ a).0) (ap (λ x. among (prefixes_of rs) x r.prefix.length) (eqb-true r.prefix.value v t.0) ∙ ap (among (prefixes_of rs) v) (eqb-true r.prefix.length l t.1) ∙ i))

module _ (h : Held) (n : ℕ) (rs : List KeyRule) (counted : ∥ Counted h n ∥₁) where
  pub exactly : n ≡ length rs → apart (prefixes_of rs) ≡ true → all_held h rs ≡ true → Exactly h rs
  exactly many once all = record { once = once; exact = λ v l. by v l (among (prefixes_of rs) v l) refl }
    where
      by : (v l : ℕ) (b : Bool) → among (prefixes_of rs) v l ≡ b → h v l ≡ listed rs v l
      by v l true e = named_held h rs v l all e
      by v l false e =
          none_from (h v l) (off_unless _ (λ s. both_ways _ e
          (held_among h n (prefixes_of rs) counted once (length_prefixes rs ∙ sym many) (λ w k i. ap is_some (named_held h rs w k all i) ∙ listed_among rs w k ∙ i) v l s)))
          ∙ sym (none_from (listed rs v l) (listed_among rs v l ∙ e))

  pub not_many : (n ≡ length rs → ⊥) → Exactly h rs → ⊥
  not_many other e = count_is h n (prefixes_of rs) counted e.once (λ v l. ap is_some (e.exact v l) ∙ listed_among rs v l) (λ same. other (sym same ∙ length_prefixes rs))

  pub not_held : all_held h rs ≡ false → Exactly h rs → ⊥
  not_held off e = both_ways _ off (held_named h rs e.once (λ v l _. e.exact v l))

  -- the last test of `holds_exactly`, behind the others
  pub when_held : n ≡ length rs → apart (prefixes_of rs) ≡ true → (b : Bool) → b ≡ all_held h rs → MatchBool b (Exactly h rs) (Exactly h rs → ⊥)
  when_held many once true e = exactly many once (sym e)
  when_held many once false e = not_held (sym e)
