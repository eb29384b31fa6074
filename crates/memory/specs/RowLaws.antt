-- Laws of rules in rows.
use Rattle.std.specs.Prelude.{◌≡◌, ℕ, zero, suc, ◌^◌, ◌<◌, ◌≤◌, Bool, true, false, cond, not, ◌||◌, List, [], ◌∷◌, length, is_some, Some, None, Option, ◌==◌, ◌≢◌, nat_le, slice_index_or, slice_set, refl}
use Rattle.std.proofs.Common.{sym, ap, ◌∙◌, arith}
use Rattle.std.proofs.lemmas.Bool.{and_parts, and_from, and_right, or_parts, or_from, eqb-true, eq-eqb, ne_eqb, le-leb, leb-true, leb-false, false≢true, both_ways, not-true, not_from_false, cond-true, cond-false}
use Rattle.std.proofs.lemmas.Bool.Decides.{nat_tests}
use Rattle.std.specs.List.{insert, remove}
use Rattle.rules.specs.declared.server.Server.{Server}
use Rattle.memory.specs.declared.key.Prefix.{Prefix}
use Rattle.memory.specs.declared.row.Row.{Row}
use Rattle.memory.specs.Keys.{formed, Covers, cut}
use Rattle.memory.specs.Holding.{same_prefix, among, apart, Counted}
use Rattle.memory.specs.Looks.{down_from}
use Rattle.memory.specs.Writes.{written}
use Rattle.memory.specs.Rows.{rules_in, row_prefixes, falling, named, in_rows, row_of, place_of, matches, first_match}
use Rattle.memory.specs.Covering.{formed_parts, covers_cut, cut_covers}
use Rattle.memory.specs.DownFrom.{down_cong, down_none, down_hit, down_skip}
use Rattle.memory.specs.Prefixes.{some_or, none_from, turn, off_unless, same_sym, same_as, same_both, listed_among}

pub rows_among : (rs : List Row) (v l : ℕ) → is_some (in_rows rs v l) ≡ among (row_prefixes rs) v l
rows_among rs v l = listed_among (rules_in rs) v l

formed_by : (r : Row) (v l : ℕ) (o : Option Server) (b : Bool) → named r v l ≡ b → (is_some o ≡ true → formed v l ≡ true) → is_some (cond b (Some r.rule.server) o) ≡ true → formed v l ≡ true
formed_by r v l o true e ih h =
    let t = and_parts (r.rule.prefix.value == v) (r.rule.prefix.length == l) e in
    sym (ap (λ x. formed x r.rule.prefix.length) (eqb-true _ _ t.0) ∙ ap (formed v) (eqb-true _ _ t.1)) ∙ r.whole
formed_by r v l o false e ih h = ih h

pub rows_formed : (rs : List Row) (v l : ℕ) → is_some (in_rows rs v l) ≡ true → formed v l ≡ true
rows_formed [] v l e = absurd (false≢true e)
rows_formed (r ∷ rs) v l e = formed_by r v l (in_rows rs v l) (named r v l) refl (rows_formed rs v l) e

pub length_rows : (rs : List Row) → length (row_prefixes rs) ≡ length rs
length_rows [] = refl
length_rows (r ∷ rs) = ap suc (length_rows rs)

-- where a prefix is held
held_by : (r : Row) (rs : List Row) (v l : ℕ) (d : Row) (b : Bool) → (row_of rs v l < length rs → in_rows rs v l ≡ Some (slice_index_or rs (row_of rs v l) d).rule.server) → cond b 0 (suc (row_of rs v l)) < suc (length rs) → cond b (Some r.rule.server) (in_rows rs v l) ≡ Some (slice_index_or (r ∷ rs) (cond b 0 (suc (row_of rs v l))) d).rule.server
held_by r rs v l d true ih h = refl
held_by r rs v l d false ih h = ih (omega arith)

pub row_held : (rs : List Row) (v l : ℕ) (d : Row) → row_of rs v l < length rs → in_rows rs v l ≡ Some (slice_index_or rs (row_of rs v l) d).rule.server
row_held [] v l d h = absurd (omega arith)
row_held (r ∷ rs) v l d h = held_by r rs v l d (named r v l) (row_held rs v l d) h

unheld_by : (r : Row) (rs : List Row) (v l : ℕ) (b : Bool) → (length rs ≤ row_of rs v l → in_rows rs v l ≡ None) → suc (length rs) ≤ cond b 0 (suc (row_of rs v l)) → cond b (Some r.rule.server) (in_rows rs v l) ≡ None
unheld_by r rs v l true ih h = absurd (omega arith)
unheld_by r rs v l false ih h = ih (omega arith)

pub row_unheld : (rs : List Row) (v l : ℕ) → length rs ≤ row_of rs v l → in_rows rs v l ≡ None
row_unheld [] v l h = refl
row_unheld (r ∷ rs) v l h = unheld_by r rs v l (named r v l) (row_unheld rs v l) h

-- another server at a prefix
module _ (x : Row) where
  set_by : (r : Row) (rs : List Row) (w k : ℕ) (b : Bool) → named r x.rule.prefix.value x.rule.prefix.length ≡ b
      → (row_of rs x.rule.prefix.value x.rule.prefix.length < length rs → in_rows (slice_set rs (row_of rs x.rule.prefix.value x.rule.prefix.length) x) w k ≡ written (in_rows rs) x.rule.prefix (Some x.rule.server) w k)
      → cond b 0 (suc (row_of rs x.rule.prefix.value x.rule.prefix.length)) < suc (length rs)
      → in_rows (slice_set (r ∷ rs) (cond b 0 (suc (row_of rs x.rule.prefix.value x.rule.prefix.length))) x) w k ≡ written (in_rows (r ∷ rs)) x.rule.prefix (Some x.rule.server) w k
  set_by r rs w k true e ih h = drop_second (named x w k) (named r w k) (same_as r.rule.prefix x.rule.prefix w k e)
    where
      drop_second : (a b : Bool) → b ≡ a → cond a (Some x.rule.server) (in_rows rs w k) ≡ cond a (Some x.rule.server) (cond b (Some r.rule.server) (in_rows rs w k))
      drop_second true b e = refl
      drop_second false b e = rw e
  set_by r rs w k false e ih h =
      ap (λ o. cond (named r w k) (Some r.rule.server) o) (ih (omega arith))
      ∙ turn (named r w k) (named x w k) _ _ _ (λ p q. both_ways _ e (same_both r.rule.prefix x.rule.prefix w k p q))

  pub rows_set : (rs : List Row) (w k : ℕ) → row_of rs x.rule.prefix.value x.rule.prefix.length < length rs → in_rows (slice_set rs (row_of rs x.rule.prefix.value x.rule.prefix.length) x) w k ≡ written (in_rows rs) x.rule.prefix (Some x.rule.server) w k
  rows_set [] w k h = absurd (omega arith)
  rows_set (r ∷ rs) w k h = set_by r rs w k (named r x.rule.prefix.value x.rule.prefix.length) refl (rows_set rs w k) h

  prefixes_by : (r : Row) (rs : List Row) (b : Bool) → named r x.rule.prefix.value x.rule.prefix.length ≡ b
      → (row_of rs x.rule.prefix.value x.rule.prefix.length < length rs → row_prefixes (slice_set rs (row_of rs x.rule.prefix.value x.rule.prefix.length) x) ≡ row_prefixes rs)
      → cond b 0 (suc (row_of rs x.rule.prefix.value x.rule.prefix.length)) < suc (length rs)
      → row_prefixes (slice_set (r ∷ rs) (cond b 0 (suc (row_of rs x.rule.prefix.value x.rule.prefix.length))) x) ≡ row_prefixes (r ∷ rs)
  prefixes_by r rs true e ih h =
      let t = and_parts (r.rule.prefix.value == x.rule.prefix.value) (r.rule.prefix.length == x.rule.prefix.length) e in
      let p : r.rule.prefix ≡ x.rule.prefix = λ i. record { value = eqb-true _ _ t.0 i; length = eqb-true _ _ t.1 i } in
      ap (λ y. y ∷ row_prefixes rs) (sym p)
  prefixes_by r rs false e ih h = ap (λ ps. r.rule.prefix ∷ ps) (ih (omega arith))

  pub prefixes_set : (rs : List Row) → row_of rs x.rule.prefix.value x.rule.prefix.length < length rs → row_prefixes (slice_set rs (row_of rs x.rule.prefix.value x.rule.prefix.length) x) ≡ row_prefixes rs
  prefixes_set [] h = absurd (omega arith)
  prefixes_set (r ∷ rs) h = prefixes_by r rs (named r x.rule.prefix.value x.rule.prefix.length) refl (prefixes_set rs) h

  -- one row more
  pub rows_inserted : (rs : List Row) (w k : ℕ) → in_rows (insert rs (place_of rs x.rule.prefix.length) x) w k ≡ written (in_rows rs) x.rule.prefix (Some x.rule.server) w k
  rows_inserted [] w k = refl
  rows_inserted (r ∷ rs) w k = by (rows_inserted rs w k) (nat_le r.rule.prefix.length x.rule.prefix.length) refl
    where
      by : in_rows (insert rs (place_of rs x.rule.prefix.length) x) w k ≡ written (in_rows rs) x.rule.prefix (Some x.rule.server) w k
          → (b : Bool) → nat_le r.rule.prefix.length x.rule.prefix.length ≡ b → in_rows (insert (r ∷ rs) (cond b 0 (suc (place_of rs x.rule.prefix.length))) x) w k ≡ written (in_rows (r ∷ rs)) x.rule.prefix (Some x.rule.server) w k
      by ih true e = refl
      by ih false e =
          ap (λ o. cond (named r w k) (Some r.rule.server) o) ih
          ∙ turn (named r w k) (named x w k) _ _ _ (λ p q. let s = same_both r.rule.prefix x.rule.prefix w k p q in let t = eqb-true r.rule.prefix.length x.rule.prefix.length (and_parts (r.rule.prefix.value == x.rule.prefix.value) (r.rule.prefix.length == x.rule.prefix.length) s).1 in omega (arith, t, leb-false r.rule.prefix.length x.rule.prefix.length e))

  pub falling_inserted : (n : ℕ) (rs : List Row) → falling n (row_prefixes rs) ≡ true → x.rule.prefix.length ≤ n → falling n (row_prefixes (insert rs (place_of rs x.rule.prefix.length) x)) ≡ true
  falling_inserted n [] f h = grind (arith, nat_tests)
  falling_inserted n (r ∷ rs) f h = by (falling_inserted r.rule.prefix.length rs) (nat_le r.rule.prefix.length x.rule.prefix.length) refl
    where
      by : (falling r.rule.prefix.length (row_prefixes rs) ≡ true → x.rule.prefix.length ≤ r.rule.prefix.length → falling r.rule.prefix.length (row_prefixes (insert rs (place_of rs x.rule.prefix.length) x)) ≡ true)
          → (b : Bool) → nat_le r.rule.prefix.length x.rule.prefix.length ≡ b → falling n (row_prefixes (insert (r ∷ rs) (cond b 0 (suc (place_of rs x.rule.prefix.length))) x)) ≡ true
      by ih true e = grind (arith, nat_tests)
      by ih false e =
          let t = and_parts _ _ f in
          and_from _ _ t.0 (ih t.1 (omega (arith, leb-false r.rule.prefix.length x.rule.prefix.length e)))

  pub apart_inserted : (rs : List Row) → apart (row_prefixes rs) ≡ true → in_rows rs x.rule.prefix.value x.rule.prefix.length ≡ None → apart (row_prefixes (insert rs (place_of rs x.rule.prefix.length) x)) ≡ true
  apart_inserted [] a e = refl
  apart_inserted (r ∷ rs) a e = by (apart_inserted rs) (nat_le r.rule.prefix.length x.rule.prefix.length) refl (named r x.rule.prefix.value x.rule.prefix.length) refl e
    where
      by : (apart (row_prefixes rs) ≡ true → in_rows rs x.rule.prefix.value x.rule.prefix.length ≡ None → apart (row_prefixes (insert rs (place_of rs x.rule.prefix.length) x)) ≡ true)
          → (b : Bool) → nat_le r.rule.prefix.length x.rule.prefix.length ≡ b
          → (t : Bool) → named r x.rule.prefix.value x.rule.prefix.length ≡ t → cond t (Some r.rule.server) (in_rows rs x.rule.prefix.value x.rule.prefix.length) ≡ None
          → apart (row_prefixes (insert (r ∷ rs) (cond b 0 (suc (place_of rs x.rule.prefix.length))) x)) ≡ true
      by ih b be true te absent = absurd (let z : ◌≡◌ {A = ℕ} 0 1 = cc in omega arith)
      by ih true be false te absent =
          and_from _ _ (ap not (sym (rows_among (r ∷ rs) x.rule.prefix.value x.rule.prefix.length) ∙ ap is_some e)) a
      by ih false be false te absent =
          let parts = and_parts _ _ a in
          and_from _ _
          (ap not (sym (rows_among (insert rs (place_of rs x.rule.prefix.length) x) r.rule.prefix.value r.rule.prefix.length)
          ∙ ap is_some (rows_inserted rs r.rule.prefix.value r.rule.prefix.length)
          ∙ some_or (named x r.rule.prefix.value r.rule.prefix.length) x.rule.server (in_rows rs r.rule.prefix.value r.rule.prefix.length) (among (row_prefixes rs) r.rule.prefix.value r.rule.prefix.length) (rows_among rs r.rule.prefix.value r.rule.prefix.length)
          ∙ ap (λ b. b || among (row_prefixes rs) r.rule.prefix.value r.rule.prefix.length) (same_sym x.rule.prefix r.rule.prefix te))
          ∙ parts.0)
          (ih parts.1 absent)

-- one row less
fewer : (rs : List Row) (i v l : ℕ) → among (row_prefixes rs) v l ≡ false → among (row_prefixes (remove rs i)) v l ≡ false
fewer [] zero v l e = refl
fewer [] (suc i) v l e = refl
fewer (r ∷ rs) zero v l e = (or_parts _ _ e).1
fewer (r ∷ rs) (suc i) v l e = let t = or_parts _ _ e in or_from _ _ t.0 (fewer rs i v l t.1)

pub apart_removed : (rs : List Row) (i : ℕ) → apart (row_prefixes rs) ≡ true → apart (row_prefixes (remove rs i)) ≡ true
apart_removed [] zero a = refl
apart_removed [] (suc i) a = refl
apart_removed (r ∷ rs) zero a = (and_parts _ _ a).1
apart_removed (r ∷ rs) (suc i) a =
    let t = and_parts _ _ a in
    and_from _ _ (not_from_false _ (fewer rs i r.rule.prefix.value r.rule.prefix.length (not-true _ t.0))) (apart_removed rs i t.1)

falling_more : (m n : ℕ) (ps : List Prefix) → m ≤ n → falling m ps ≡ true → falling n ps ≡ true
falling_more m n [] h f = refl
falling_more m n (p ∷ ps) h f = let t = and_parts (nat_le p.length m) (falling p.length ps) f in and_from (nat_le p.length n) (falling p.length ps) (le-leb p.length n (omega (arith, leb-true p.length m t.0))) t.1

pub falling_removed : (n : ℕ) (rs : List Row) (i : ℕ) → falling n (row_prefixes rs) ≡ true → falling n (row_prefixes (remove rs i)) ≡ true
falling_removed n [] zero f = refl
falling_removed n [] (suc i) f = refl
falling_removed n (r ∷ rs) zero f = let t = and_parts _ _ f in falling_more r.rule.prefix.length n (row_prefixes rs) (leb-true _ _ t.0) t.1
falling_removed n (r ∷ rs) (suc i) f = let t = and_parts _ _ f in and_from _ _ t.0 (falling_removed r.rule.prefix.length rs i t.1)

pub rows_removed : (rs : List Row) (q : Prefix) (w k : ℕ) → apart (row_prefixes rs) ≡ true → row_of rs q.value q.length < length rs → in_rows (remove rs (row_of rs q.value q.length)) w k ≡ written (in_rows rs) q None w k
rows_removed [] q w k a h = absurd (omega arith)
rows_removed (r ∷ rs) q w k a h = by (rows_removed rs q w k) (named r q.value q.length) refl h
  where
    gone : (b c : Bool) → c ≡ b → (b ≡ true → in_rows rs w k ≡ None) → in_rows rs w k ≡ cond b None (cond c (Some r.rule.server) (in_rows rs w k))
    gone true c e none = none refl
    gone false c e none = rw e

    by : (apart (row_prefixes rs) ≡ true → row_of rs q.value q.length < length rs → in_rows (remove rs (row_of rs q.value q.length)) w k ≡ written (in_rows rs) q None w k)
        → (b : Bool) → named r q.value q.length ≡ b → cond b 0 (suc (row_of rs q.value q.length)) < suc (length rs) → in_rows (remove (r ∷ rs) (cond b 0 (suc (row_of rs q.value q.length)))) w k ≡ written (in_rows (r ∷ rs)) q None w k
    by ih true e h =
        let t = and_parts _ _ a in
        gone (same_prefix q w k) (named r w k) (same_as r.rule.prefix q w k e)
        (λ hit. none_from _ (rows_among rs w k
        ∙ ap (λ x. among (row_prefixes rs) x k) (sym (eqb-true _ _ (and_parts (r.rule.prefix.value == w) (r.rule.prefix.length == k) (same_as r.rule.prefix q w k e ∙ hit)).0))
        ∙ ap (λ x. among (row_prefixes rs) r.rule.prefix.value x) (sym (eqb-true _ _ (and_parts (r.rule.prefix.value == w) (r.rule.prefix.length == k) (same_as r.rule.prefix q w k e ∙ hit)).1))
        ∙ not-true _ t.0))
    by ih false e h =
        ap (λ o. cond (named r w k) (Some r.rule.server) o) (ih (and_parts _ _ a).1 (omega arith))
        ∙ turn (named r w k) (same_prefix q w k) _ _ _ (λ s t. both_ways _ e (same_both r.rule.prefix q w k s t))

-- the first match is the longest
short : (n : ℕ) (rs : List Row) (v l : ℕ) → falling n (row_prefixes rs) ≡ true → n < l → in_rows rs v l ≡ None
short n [] v l f h = refl
short n (r ∷ rs) v l f h =
    let t = and_parts (nat_le r.rule.prefix.length n) (falling r.rule.prefix.length (row_prefixes rs)) f in
    let low = leb-true r.rule.prefix.length n t.0 in
    let off : (r.rule.prefix.length == l) ≡ false = ne_eqb r.rule.prefix.length l (λ e. omega (arith, low, e)) in
    cond-false (named r v l) _ _ (and_right (r.rule.prefix.value == v) (r.rule.prefix.length == l) off) ∙ short r.rule.prefix.length rs v l t.1 (omega (arith, low))

-- a row matches the keys that its prefix covers
row_covers : (r : Row) (key : ℕ) → matches r key ≡ true → Covers r.rule.prefix.value r.rule.prefix.length key
row_covers r key e =
    let t = and_parts (nat_le r.rule.prefix.value key) (nat_le key r.last) e in
    (r.whole, leb-true _ _ t.0, omega (arith, leb-true key r.last t.1, r.reach))

row_misses : (r : Row) (key : ℕ) → key < 2 ^ 32 → matches r key ≡ false → r.rule.prefix.value ≢ cut key r.rule.prefix.length
row_misses r key small e same =
    let c = cut_covers key r.rule.prefix.length small (formed_parts _ _ r.whole).0 in
    both_ways _ e (and_from _ _ (le-leb r.rule.prefix.value key (omega (arith, same, c.1))) (le-leb key r.last (omega (arith, same, c.2, r.reach))))

pub first_longest : (n : ℕ) (rs : List Row) (key : ℕ) → key < 2 ^ 32 → falling n (row_prefixes rs) ≡ true → first_match rs key ≡ down_from n (λ l. in_rows rs (cut key l) l)
first_longest n [] key small f = sym (down_none n (λ _. None) (λ _ _. refl))
first_longest n (r ∷ rs) key small f =
    let t = and_parts (nat_le r.rule.prefix.length n) (falling r.rule.prefix.length (row_prefixes rs)) f in
    by (first_longest r.rule.prefix.length rs key small t.1) (matches r key) refl
    ∙ sym (down_skip n r.rule.prefix.length (λ l. in_rows (r ∷ rs) (cut key l) l) (leb-true _ _ t.0)
    (λ l a b. short r.rule.prefix.length (r ∷ rs) (cut key l) l (and_from _ _ (le-leb r.rule.prefix.length r.rule.prefix.length (omega arith)) t.1) a))
  where
    by : first_match rs key ≡ down_from r.rule.prefix.length (λ l. in_rows rs (cut key l) l) → (b : Bool) → matches r key ≡ b
        → cond b (Some r.rule.server) (first_match rs key) ≡ down_from r.rule.prefix.length (λ l. in_rows (r ∷ rs) (cut key l) l)
    by ih true e =
        sym (down_hit r.rule.prefix.length (λ l. in_rows (r ∷ rs) (cut key l) l) r.rule.server
        (cond-true (named r (cut key r.rule.prefix.length) r.rule.prefix.length) _ _ (and_from _ _ (eq-eqb _ _ (covers_cut _ _ key (row_covers r key e))) (eq-eqb _ _ refl))))
    by ih false e =
        ih ∙ sym (down_cong r.rule.prefix.length (λ l. in_rows (r ∷ rs) (cut key l) l) (λ l. in_rows rs (cut key l) l)
        (λ l h. cond-false (named r (cut key l) l) _ _
        (off_unless (named r (cut key l) l) (λ s.
        let p = and_parts (r.rule.prefix.value == cut key l) (r.rule.prefix.length == l) s in
        let same = eqb-true r.rule.prefix.length l p.1 in
        row_misses r key small e (eqb-true r.rule.prefix.value (cut key l) p.0 ∙ ap (cut key) (sym same))))))

-- the rows list what they hold
pub rows_counted : (rs : List Row) (n : ℕ) → length rs ≡ n → apart (row_prefixes rs) ≡ true → Counted (in_rows rs) n
rows_counted rs n e a = record { prefixes = row_prefixes rs; many = length_rows rs ∙ e; once = a; exact = rows_among rs }

pub place_le : (rs : List Row) (n : ℕ) → place_of rs n ≤ length rs
place_le [] n = omega arith
place_le (r ∷ rs) n = by (place_le rs n) (nat_le r.rule.prefix.length n)
  where
    by : place_of rs n ≤ length rs → (b : Bool) → cond b 0 (suc (place_of rs n)) ≤ suc (length rs)
    by ih true = omega arith
    by ih false = omega arith

pub row_some : (rs : List Row) (v l : ℕ) → row_of rs v l < length rs → (t : Server) × (in_rows rs v l ≡ Some t)
row_some [] v l h = absurd (omega arith)
row_some (r ∷ rs) v l h = by (row_some rs v l) (named r v l) h
  where
    by : (row_of rs v l < length rs → (t : Server) × (in_rows rs v l ≡ Some t)) → (b : Bool) → cond b 0 (suc (row_of rs v l)) < suc (length rs) → (t : Server) × (cond b (Some r.rule.server) (in_rows rs v l) ≡ Some t)
    by ih true h = (r.rule.server, refl)
    by ih false h = ih (omega arith)

pub short_enough : (r : Row) → r.rule.prefix.length ≤ 32
short_enough r = leb-true _ _ (and_parts (nat_le r.rule.prefix.length 32) _ r.whole).0
