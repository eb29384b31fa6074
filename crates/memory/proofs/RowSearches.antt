-- What the searches over the rows find.
use Rattle.std.proofs.Common.{◌≡◌, ℕ, zero, suc, ◌+◌, ◌<◌, ◌≤◌, Bool, true, false, cond, leb, ltb, List, [], ◌∷◌, length, get_or, drop, Some, None, Option, position, sym, refl, ap, ◌∙◌, arith}
use Rattle.std.proofs.lemmas.Bool.{and_parts, leb-true, le-leb, lt-leb, ltb-true, ltb-false, lt-ltb}
use Rattle.std.proofs.lemmas.List.{at_drop_more, at_drop_all}
use Rattle.std.proofs.lemmas.List.Recursion.{is_position_or_len}
use Rattle.std.proofs.lemmas.List.Sums.{position_or_len_is}
use Rattle.std.specs.List.{position_or_len}
use Rattle.std.specs.List.Sorted.{IsPartitionedBy, IsPartitionPoint}
use Rattle.memory.specs.declared.row.Row.{Row}
use Rattle.memory.specs.Rows.{row_prefixes, falling, in_rows, row_of, place_of, named, first_match, matches}
use Rattle.memory.specs.RowLaws.{row_unheld}

-- the row of a prefix
module _ (rs : List Row) (v l : ℕ) where
  place : row_of rs v l ≡ position_or_len (λ r. named r v l) rs
  place = is_position_or_len (λ xs. row_of xs v l) (λ r. named r v l) refl (λ x xs. let e : suc (row_of xs v l) ≡ 1 + row_of xs v l = omega arith in ap (cond (named x v l) 0) e) rs

  pub found : (i : ℕ) → Some i ≡ position (λ r. named r v l) rs → (i ≡ row_of rs v l) × (i < length rs)
  found i e = by (ltb (position_or_len (λ r. named r v l) rs) (length rs)) refl e
    where
      by : (b : Bool) → ltb (position_or_len (λ r. named r v l) rs) (length rs) ≡ b → Some i ≡ cond b (Some (position_or_len (λ r. named r v l) rs)) None → (i ≡ row_of rs v l) × (i < length rs)
      by true t e = let same : i ≡ position_or_len (λ r. named r v l) rs = cc in (same ∙ sym place, omega (arith, same, ltb-true _ _ t))
      by false t e = absurd (cc)

  pub missing : None ≡ position (λ r. named r v l) rs → in_rows rs v l ≡ None
  missing e = by (ltb (position_or_len (λ r. named r v l) rs) (length rs)) refl e
    where
      by : (b : Bool) → ltb (position_or_len (λ r. named r v l) rs) (length rs) ≡ b → ◌≡◌ {A = Option ℕ} None (cond b (Some (position_or_len (λ r. named r v l) rs)) None) → in_rows rs v l ≡ None
      by true t e = absurd (cc)
      by false t e = row_unheld rs v l (omega (arith, place, ltb-false _ _ t))

-- one row more of the loop that looks for the row that answers, at a list that is known to be another, as the slice of a `Vec`
pub match_at : {xs : List Row} (rules : List Row) (i : ℕ) (r : Row) (key : ℕ) → xs ≡ rules → i < length xs → r ≡ get_or xs i r → first_match (drop i rules) key ≡ cond (matches r key) (Some r.rule.server) (first_match (drop (i + 1) rules) key)
match_at rules i r key e h is =
    at_drop_more (λ rs. first_match rs key) rules i r (rw e at h) ∙ ap (λ x. cond (matches x key) (Some x.rule.server) (first_match (drop (i + 1) rules) key)) (sym (rw e at is))

pub match_none : (rules : List Row) (i key : ℕ) → length rules ≤ i → first_match (drop i rules) key ≡ None
match_none rules i key h = at_drop_all (λ rs. first_match rs key) rules i h

-- the longer prefixes stand ahead
none_longer : (m : ℕ) (rs : List Row) (j : ℕ) (d : Row) → falling m (row_prefixes rs) ≡ true → j < length rs → (get_or rs j d).rule.prefix.length ≤ m
none_longer m [] j d f h = absurd (omega arith)
none_longer m (r ∷ rs) zero d f h = leb-true r.rule.prefix.length m (and_parts _ _ f).0
none_longer m (r ∷ rs) (suc j) d f h =
    let t = and_parts (leb r.rule.prefix.length m) (falling r.rule.prefix.length (row_prefixes rs)) f in
    omega (arith, none_longer r.rule.prefix.length rs j d t.1 (omega arith), leb-true _ _ t.0)

no_longer_behind : (m : ℕ) (rs : List Row) (i j : ℕ) (d : Row) → falling m (row_prefixes rs) ≡ true → i ≤ j → j < length rs → (get_or rs j d).rule.prefix.length ≤ (get_or rs i d).rule.prefix.length
no_longer_behind m [] i j d f le h = absurd (omega arith)
no_longer_behind m (r ∷ rs) zero zero d f le h = omega arith
no_longer_behind m (r ∷ rs) zero (suc j) d f le h = none_longer r.rule.prefix.length rs j d (and_parts _ _ f).1 (omega arith)
no_longer_behind m (r ∷ rs) (suc i) zero d f le h = absurd (omega arith)
no_longer_behind m (r ∷ rs) (suc i) (suc j) d f le h = no_longer_behind r.rule.prefix.length rs i j d (and_parts _ _ f).1 (omega arith) (omega arith)

pub longer_first : (m n : ℕ) (rs : List Row) → falling m (row_prefixes rs) ≡ true → IsPartitionedBy (λ r. ltb n r.rule.prefix.length) rs
longer_first m n rs f i j d le h e = lt-ltb n _ (omega (arith, ltb-true n _ e, no_longer_behind m rs i j d f le h))

-- the place behind the longer prefixes
pub placed : (n : ℕ) (rs : List Row) (i : ℕ) → i ≤ length rs → IsPartitionPoint (λ r. ltb n r.rule.prefix.length ≡ true) (λ r. ltb n r.rule.prefix.length ≡ false) rs i → i ≡ place_of rs n
placed n [] i le p = omega arith
placed n (r ∷ rs) i le p =
    sym (is_position_or_len (λ xs. place_of xs n) (λ x. leb x.rule.prefix.length n) refl (λ x xs. let e : suc (place_of xs n) ≡ 1 + place_of xs n = omega arith in ap (cond (leb x.rule.prefix.length n) 0) e) (r ∷ rs)
    ∙ position_or_len_is (λ x. leb x.rule.prefix.length n) (r ∷ rs) i r le
    (λ k h. lt-leb _ _ (ltb-true n _ (p.0 k r (omega arith) h)))
    (λ h. le-leb _ _ (ltb-false n _ (p.1 i r (omega arith) h))))
