-- The laws of a table.
use Rattle.std.proofs.Common.{◌≡◌, ℕ, zero, suc, ◌+◌, ◌-◌, ◌*◌, ◌^◌, ◌<◌, ◌≤◌, min, Bool, true, false, cond, ltb, leb, List, [], ◌∷◌, ◌++◌, reverse, length, is_some, Some, None, Option, sym, refl, ap, ◌∙◌, subst, arith, pow_pos}
use mathlib.Core.List.{reverse-cons}
use native.Mathlib.Decide.{dec_le}
use Rattle.std.specs.List.{AllByRecursion}
use Rattle.std.proofs.lemmas.Bool.Decides.{nat_tests}
use Rattle.std.proofs.lemmas.Bool.{lt-ltb, le-ltb}
use Rattle.std.proofs.ByRecursion.{All-append}
use Rattle.rules.specs.declared.rule.Rule.{Rule}
use Rattle.rules.specs.declared.server.Server.{Server}
use Rattle.rules.specs.declared.server.Server.TheVariants.{One, Two}
use Rattle.rules.specs.Digits.{Digit, minus, nought, plus, digits, D}
use Rattle.rules.specs.Prefixes.{matches, first_match, same, tally}
use Rattle.rules.specs.Shortest.{L}
use Rattle.rules.specs.Tables.{Term, more, less, term, terms, all_to, from_below, from_above, table, Rising, side, ShortestTable}
use Rattle.rules.proofs.Bound.{least_rules}
use Rattle.rules.proofs.Halves.{at}
use Rattle.rules.proofs.Laying.{Laid, end, flip, turn, above_flip, up_all, down_all}
use Rattle.rules.proofs.LongestMatch.{all_reverse, longest_match}
use Rattle.rules.proofs.Shapes.{Shape, shapes_fit}
use Rattle.rules.proofs.TopDigit.{short_digits, top_none}
use Rattle.rules.proofs.Tallies.{tally_ext, within_in}

-- ---- the terms lie below the width

place : Term → ℕ
place (more j) = j
place (less j) = j

abbrev Low : ℕ → List Term → Type 0
Low W q = AllByRecursion (λ m. place m < W) q

term_low : (W j : ℕ) (d : Digit) → j < W → Low W (term j d)
unfolding place
term_low W j minus h = (h, tt)
term_low W j nought h = tt
term_low W j plus h = (h, tt)

terms_low : (W j : ℕ) (q : List Digit) → j + length q ≤ W → Low W (terms j q)
terms_low W j [] h = tt
terms_low W j (d ∷ q) h =
    All-append (λ m. place m < W) (terms (suc j) q) (term j d) (terms_low W (suc j) q (omega arith)) (term_low W j d (omega arith))

low_lengths : (W u : ℕ) (q : List Term) → Low W q → AllByRecursion (λ r. 0 < r.length) (from_below W u q)
unfolding from_below place
low_lengths W u [] h = tt
low_lengths W u (more j ∷ q) (h, k) = (omega arith, low_lengths W (u + 2 ^ j) q k)
low_lengths W u (less j ∷ q) (h, k) = (omega arith, low_lengths W (u - 2 ^ j) q k)

low_flip : (W : ℕ) (q : List Term) → Low W q → Low W (flip q)
unfolding flip turn place
low_flip W [] h = tt
low_flip W (more j ∷ q) (h, k) = (h, low_flip W q k)
low_flip W (less j ∷ q) (h, k) = (h, low_flip W q k)

low_terms : (W n : ℕ) → n ≤ 2 ^ W → D n ≤ D (2 ^ W - n) → Low W (terms 0 (digits n))
low_terms W n h k = terms_low W 0 (digits n) (omega (arith, short_digits W n (top_none W n h k)))

-- ---- with the rule for all addresses

whole_matches : (W a : ℕ) (y : Server) → a < 2 ^ W → matches W (all_to y) a ≡ true
whole_matches W a y h =
    let d : W - 0 ≡ W = omega arith in
    let d' = ap (λ (n : ℕ). 2 ^ n) d in
    within_in 0 (2 ^ (W - 0)) a (omega arith) (omega arith)

match_whole : (W : ℕ) (rs : List Rule) (y : Server) (a : ℕ) → a < 2 ^ W → first_match W (rs ++ all_to y ∷ []) a ≡ Some (at W rs y a)
match_whole W [] y a h = ap (λ (b : Bool). cond b (Some y) None) (whole_matches W a y h)
match_whole W (r ∷ rs) y a h = go (matches W r a) (match_whole W rs y a h)
  where
    go : {o : Option Server} {z : Server} (b : Bool) → o ≡ Some z → cond b (Some r.server) o ≡ Some (cond b r.server z)
    go true e = refl
    go false e = e

count_below : (d N : ℕ) → tally (λ a. same (Some One) (Some (cond (ltb a d) One Two))) N ≡ min d N
count_below d zero = omega arith
count_below d (suc N) = go (dec_le d N) (count_below d N)
  where
    go : Dec (d ≤ N) → tally (λ a. same (Some One) (Some (cond (ltb a d) One Two))) N ≡ min d N → tally (λ a. same (Some One) (Some (cond (ltb a d) One Two))) (suc N) ≡ min d (suc N)
    go (yes h) ih = omega (arith, ih, ap (λ (b : Bool). same (Some One) (Some (cond b One Two))) (le-ltb N d h))
    go (no h) ih = let l : N < d = omega arith in omega (arith, ih, ap (λ (b : Bool). same (Some One) (Some (cond b One Two))) (lt-ltb N d l))

record Made (W d : ℕ) (rs : List Rule) : Type 0 where
  fits : AllByRecursion (Shape W) rs
  rising : Rising rs
  long : length rs ≡ L W d
  sends : (a : ℕ) → a < 2 ^ W → first_match W (reverse rs) a ≡ Some (cond (ltb a d) One Two)

made : (W d n : ℕ) (s : Server) (rs : List Rule) (l : ℕ) → Laid W 0 0 n d s rs l → AllByRecursion (λ r. 0 < r.length) rs → 1 + n ≡ L W d → Made W d (all_to s ∷ rs)
made W d n s rs l i b h = record {
  fits = (record { short = omega arith; aligned = (0, omega arith); low = pow_pos W }, i.fits);
  rising = (b, i.rising);
  long = omega (arith, i.long);
  sends = λ a k. ap (λ (x : List Rule). first_match W x a) (reverse-cons (all_to s) rs) ∙ match_whole W (reverse rs) s a k ∙ ap Some (i.cut a k);
}

-- the start of the rules does not matter any more
forget : (W j u n e : ℕ) (s : Server) (rs : List Rule) (l : ℕ) → Laid W j u n e s rs l → Laid W j 0 n e s rs l
forget W j u n e s rs l i =
    record { fits = i.fits; long = i.long; broad = i.broad; rising = i.rising; cut = i.cut; ends = i.ends }

table_made : (W d : ℕ) → d ≤ 2 ^ W → Made W d (table W d)
unfolding table L digits
table_made W d h = go (leb (D d) (D (2 ^ W - d))) refl
  where
    go : (b : Bool) → leb (D d) (D (2 ^ W - d)) ≡ b
        → Made W d (cond b (all_to Two ∷ from_below W 0 (terms 0 (digits d))) (all_to One ∷ from_above W (2 ^ W) (terms 0 (digits (2 ^ W - d)))))
    go true e =
        let k : D d ≤ D (2 ^ W - d) = grind (arith, nat_tests) in
        let z : d * 2 ^ 0 ≡ d = omega arith in
        let i = up_all W d 0 d (omega arith) (omega arith) in
        made W d (D d) Two (from_below W 0 (terms 0 (digits d))) (end 0 (terms 0 (digits d)))
        (subst (λ (x : ℕ). Laid W 0 0 (D d) x Two (from_below W 0 (terms 0 (digits d))) (end 0 (terms 0 (digits d)))) z i)
        (low_lengths W 0 (terms 0 (digits d)) (low_terms W d h k)) (omega arith)
    go false e =
        let k : D (2 ^ W - d) < D d = grind (arith, nat_tests) in
        let c : ℕ = 2 ^ W - d in
        let y : 2 ^ W - c ≡ d = omega arith in
        let z : 2 ^ W - c * 2 ^ 0 ≡ d = omega arith in
        let i = down_all W c 0 c (omega arith) (omega arith) in
        let q : List Term = flip (terms 0 (digits c)) in
        let w : D c ≤ D (2 ^ W - c) = omega (arith, ap D y) in
        subst (λ (x : List Rule). Made W d (all_to One ∷ x)) (sym (above_flip W (2 ^ W) (terms 0 (digits c))))
        (made W d (D c) One (from_below W (2 ^ W) q) (end (2 ^ W) q)
        (subst (λ (x : ℕ). Laid W 0 0 (D c) x One (from_below W (2 ^ W) q) (end (2 ^ W) q)) z
        (forget W 0 (2 ^ W) (D c) (2 ^ W - c * 2 ^ 0) One (from_below W (2 ^ W) q) (end (2 ^ W) q) i))
        (low_lengths W (2 ^ W) q (low_flip W (terms 0 (digits c)) (low_terms W c (omega arith) w))) (omega arith))

pub table_laws : (W d : ℕ) → d ≤ 2 ^ W → ShortestTable W d (table W d)
table_laws W d h =
    let m = table_made W d h in
    record {
      fit = shapes_fit W (table W d) m.fits;
      rising = m.rising;
      sends = λ a k. longest_match W (table W d) a (side d a) m.rising (m.sends a k);
      splits = record {
        fit = shapes_fit W (reverse (table W d)) (all_reverse (Shape W) (table W d) m.fits);
        covers = λ a k. ap is_some (m.sends a k);
        exact = tally_ext (λ a. same (Some One) (first_match W (reverse (table W d)) a)) (λ a. same (Some One) (Some (side d a))) (2 ^ W) (λ a k. ap (same (Some One)) (m.sends a k))
            ∙ omega (arith, count_below d (2 ^ W));
      };
      long = m.long;
      least = λ rs s. omega (arith, m.long, least_rules W d rs s);
    }
