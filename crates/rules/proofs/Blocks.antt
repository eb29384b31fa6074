-- Counting a block of addresses by its halves.
use Rattle.std.proofs.Common.{◌≡◌, ℕ, zero, suc, ◌+◌, ◌-◌, ◌*◌, ◌^◌, ◌<◌, ◌≤◌, true, false, ◌&&◌, leb, ltb, nat_le, true≢false, List, [], ◌∷◌, length, get_or, drop, position, length-drop, get_or-drop, is_some, Some, None, Option, sym, refl, ap, ap₂, ◌∙◌, add-zero, arith}
use native.Mathlib.Decide.{dec_le}
use Rattle.std.proofs.lemmas.List.{at_drop_all}
use Rattle.std.proofs.lemmas.Bool.{leb-true, ltb-true, le-leb, and_parts, and_from}
use Rattle.std.proofs.lemmas.Bool.Decides.{nat_tests}
use Rattle.std.specs.List.{position_or_len}
use Rattle.std.proofs.lemmas.List.Sums.{fails_before_first}
use Rattle.std.proofs.lemmas.List.Quantifiers.{position-Some}
use Rattle.rules.specs.declared.block.Block.{Block}
use Rattle.rules.specs.declared.counter.Shares.{Shares}
use Rattle.rules.specs.declared.rule.Rule.{Rule}
use Rattle.rules.specs.declared.server.Server.{Server}
use Rattle.rules.specs.declared.server.Server.TheVariants.{One, Two}
use Rattle.rules.specs.Blocks.{in_block, meets, whole_block, Shared, Totals}
use Rattle.rules.specs.Prefixes.{all_fit, matches, first_match, same, tally, answered, Covers}
use Rattle.rules.specs.Shortest.{L}
use Rattle.rules.proofs.Bound.{least_rules}
use Rattle.rules.proofs.Tallies.{tally_ext, tally_split, within_in}

-- ---- sums

tally_const : (n k : ℕ) → tally (λ _. k) n ≡ k * n
tally_const zero k = omega arith
tally_const (suc n) k = omega (arith, tally_const n k)

same_le : (x y : Option Server) → same x y ≤ 1
same_le None None = omega arith
same_le None (Some y) = omega arith
same_le (Some x) None = omega arith
same_le (Some One) (Some One) = omega arith
same_le (Some One) (Some Two) = omega arith
same_le (Some Two) (Some One) = omega arith
same_le (Some Two) (Some Two) = omega arith

same_all : (y : Option Server) → same (Some One) y + same (Some Two) y + same None y ≡ 1
same_all None = refl
same_all (Some One) = refl
same_all (Some Two) = refl

pub block_le : (W : ℕ) (rs : List Rule) (x : Option Server) (s n : ℕ) → in_block W rs x s n ≤ n
block_le W rs x s zero = omega arith
block_le W rs x s (suc n) = omega (arith, block_le W rs x s n, same_le x (first_match W rs (s + n)))

-- each address of a block is answered in just one way
pub block_all : (W : ℕ) (rs : List Rule) (s n : ℕ) → in_block W rs (Some One) s n + in_block W rs (Some Two) s n + in_block W rs None s n ≡ n
block_all W rs s zero = refl
block_all W rs s (suc n) = omega (arith, block_all W rs s n, same_all (first_match W rs (s + n)))

-- one answer for all
pub block_whole : (W : ℕ) (rs : List Rule) (x y : Option Server) (s n : ℕ) → ((a : ℕ) → s ≤ a → a < s + n → first_match W rs a ≡ y)
    → same x y * n ≡ in_block W rs x s n
block_whole W rs x y s n h =
    sym (tally_ext (λ i. same x (first_match W rs (s + i))) (λ _. same x y) n (λ i k. ap (same x) (h (s + i) (omega arith) (omega arith)))
    ∙ tally_const n (same x y))

-- two lists that answer alike in the block
pub block_like : (W : ℕ) (ps rs : List Rule) (x : Option Server) (s n : ℕ) → ((a : ℕ) → s ≤ a → a < s + n → first_match W ps a ≡ first_match W rs a)
    → in_block W ps x s n ≡ in_block W rs x s n
block_like W ps rs x s n h =
    tally_ext (λ i. same x (first_match W ps (s + i))) (λ i. same x (first_match W rs (s + i))) n
    (λ i k. ap (same x) (h (s + i) (omega arith) (omega arith)))

pub block_halves : (W : ℕ) (rs : List Rule) (x : Option Server) (s m : ℕ)
    → in_block W rs x s (m + m) ≡ in_block W rs x s m + in_block W rs x (s + m) m
block_halves W rs x s m =
    tally_split (λ i. same x (first_match W rs (s + i))) m m
    ∙ ap (λ (n : ℕ). in_block W rs x s m + n)
    (tally_ext (λ i. same x (first_match W rs (s + (m + i)))) (λ i. same x (first_match W rs (s + m + i))) m
    (λ i k. let e : s + (m + i) ≡ s + m + i = omega arith in ap (λ (a : ℕ). same x (first_match W rs a)) e))

-- the block of all addresses
pub block_answered : (W : ℕ) (rs : List Rule) (x : Option Server) → in_block W rs x 0 (2 ^ W) ≡ answered W rs x
block_answered W rs x =
    tally_ext (λ i. same x (first_match W rs (0 + i))) (λ a. same x (first_match W rs a)) (2 ^ W)
    (λ i k. let e : 0 + i ≡ i = omega arith in ap (λ (a : ℕ). same x (first_match W rs a)) e)

-- with none unmatched every address has a server
tally_none : (f : ℕ → ℕ) (n : ℕ) → tally f n ≡ 0 → (a : ℕ) → a < n → f a ≡ 0
tally_none f zero e a h = absurd (omega arith)
tally_none f (suc n) e a h = go (dec_le n a) (tally_none f n (omega arith) a)
  where
    go : Dec (n ≤ a) → (a < n → f a ≡ 0) → f a ≡ 0
    go (yes p) ih = let q : a ≡ n = omega arith in ap f q ∙ omega arith
    go (no p) ih = ih (omega arith)

served : (y : Option Server) → same None y ≡ 0 → is_some y ≡ true
served None e = absurd (omega arith)
served (Some y) e = refl

pub all_covered : (W : ℕ) (rs : List Rule) → answered W rs None ≡ 0 → Covers W rs
all_covered W rs e a h = served (first_match W rs a) (tally_none (λ a. same None (first_match W rs a)) (2 ^ W) e a h)

-- where the first rule matches, it decides
pub match_first : (W : ℕ) (rs : List Rule) (d : Rule) (a : ℕ) → 0 < length rs → matches W (get_or rs 0 d) a ≡ true
    → first_match W rs a ≡ Some (get_or rs 0 d).server
match_first W [] d a h m = absurd (omega arith)
match_first W (r ∷ rs) d a h m = rw m

-- ---- the first rule that meets a block

-- a rule that does not meet it matches none of it
apart : (W s n : ℕ) (r : Rule) (a : ℕ) → meets W s n r ≡ false → s ≤ a → a < s + n → matches W r a ≡ false
apart W s n r a h lo hi = grind (arith, nat_tests)

-- so the rules ahead of the first that meets it do not matter there
ahead : (W s n : ℕ) (rs : List Rule) (i : ℕ) (d : Rule) → i ≤ length rs → ((k : ℕ) → k < i → meets W s n (get_or rs k d) ≡ false)
    → (a : ℕ) → s ≤ a → a < s + n → first_match W (drop i rs) a ≡ first_match W rs a
ahead W s n rs zero d h f a lo hi = refl
ahead W s n [] (suc i) d h f a lo hi = absurd (omega arith)
ahead W s n (r ∷ rs) (suc i) d h f a lo hi =
    let m = apart W s n r a (f 0 (omega arith)) lo hi in
    ahead W s n rs i d (omega arith) (λ k l. f (suc k) (omega arith)) a lo hi ∙ rw m

-- where none meets it, no address is matched
pub unmet : (W s n : ℕ) (rs : List Rule) → position (meets W s n) rs ≡ None → (a : ℕ) → s ≤ a → a < s + n → first_match W rs a ≡ None
unmet W s n rs e a lo hi =
    let d : Rule = record { start = 0; length = 0; server = One } in
    let l : length rs ≤ position_or_len (meets W s n) rs = passed e in
    let f = λ (k : ℕ) (h : k < length rs). fails_before_first (meets W s n) rs k d (omega arith) in
    sym (ahead W s n rs (length rs) d (omega arith) f a lo hi) ∙ at_drop_all (λ ps. first_match W ps a) rs (length rs) (omega arith)
  where
    passed : position (meets W s n) rs ≡ None → length rs ≤ position_or_len (meets W s n) rs
    passed e = grind (arith, nat_tests)

-- what is known of the rules ps from the first on that meets the block
pub record Met (W s n : ℕ) (rs ps : List Rule) (d : Rule) : Type 0 where
  pub some : 0 < length ps
  pub first : meets W s n (get_or ps 0 d) ≡ true
  pub alike : (a : ℕ) → s ≤ a → a < s + n → first_match W ps a ≡ first_match W rs a

pub met : (W s n i : ℕ) (rs ps : List Rule) (d : Rule) → position (meets W s n) rs ≡ Some i → ps ≡ drop i rs → Met W s n rs ps d
met W s n i rs ps d e f =
    let p = position-Some (meets W s n) rs i d e in
    let g : get_or ps 0 d ≡ get_or rs i d = ap (λ (qs : List Rule). get_or qs 0 d) f ∙ get_or-drop i rs 0 d ∙ ap (λ (k : ℕ). get_or rs k d) (add-zero i) in
    record {
      some = omega (arith, ap (λ (qs : List Rule). length qs) f, length-drop i rs);
      first = ap (meets W s n) g ∙ p.1;
      alike = λ a lo hi. ap (λ (qs : List Rule). first_match W qs a) f ∙ ahead W s n rs i d (omega arith) p.2 a lo hi;
    }

-- where that rule covers the block, it decides all of it, and else the block has more than one address
pub decided : (W s n : ℕ) (rs ps : List Rule) (d : Rule) (b : Block) → Met W s n rs ps d
    → b.start ≡ (get_or ps 0 d).start → b.bits ≡ W - (get_or ps 0 d).length → (nat_le b.start s && nat_le (s + n) (b.start + 2 ^ b.bits)) ≡ true
    → (a : ℕ) → s ≤ a → a < s + n → first_match W rs a ≡ Some (get_or ps 0 d).server
decided W s n rs ps d b m e f c a lo hi =
    let r : Rule = get_or ps 0 d in
    let t = and_parts (nat_le b.start s) (nat_le (s + n) (b.start + 2 ^ b.bits)) c in
    let end : 2 ^ b.bits ≡ 2 ^ (W - r.length) = ap (λ (i : ℕ). 2 ^ i) f in
    let i : matches W r a ≡ true = within_in r.start (2 ^ (W - r.length)) a (omega (arith, leb-true b.start s t.0)) (omega (arith, leb-true _ _ t.1)) in
    sym (m.alike a lo hi) ∙ match_first W ps d a m.some i

pub undecided : (W s l : ℕ) (rs ps : List Rule) (d : Rule) (b : Block) → Met W s (2 ^ l) rs ps d
    → b.start ≡ (get_or ps 0 d).start → b.bits ≡ W - (get_or ps 0 d).length → (nat_le b.start s && nat_le (s + 2 ^ l) (b.start + 2 ^ b.bits)) ≡ false
    → 0 < l
undecided W s l rs ps d b m e f c = go (dec_le l 0)
  where
    r : Rule
    r = get_or ps 0 d

    t : (ltb r.start (s + 2 ^ l) ≡ true) × (ltb s (r.start + 2 ^ (W - r.length)) ≡ true)
    t = and_parts (ltb r.start (s + 2 ^ l)) (ltb s (r.start + 2 ^ (W - r.length))) m.first

    go : Dec (l ≤ 0) → 0 < l
    go (no p) = omega arith
    go (yes p) =
        let zero : l ≡ 0 = omega arith in
        let one : 2 ^ l ≡ 1 = ap (λ (i : ℕ). 2 ^ i) zero in
        let end : 2 ^ b.bits ≡ 2 ^ (W - r.length) = ap (λ (i : ℕ). 2 ^ i) f in
        let lo : b.start ≤ s = omega (arith, ltb-true r.start (s + 2 ^ l) t.0) in
        let hi : s + 2 ^ l ≤ b.start + 2 ^ b.bits = omega (arith, ltb-true s (r.start + 2 ^ (W - r.length)) t.1) in
        absurd (true≢false (sym (and_from (leb b.start s) (leb (s + 2 ^ l) (b.start + 2 ^ b.bits)) (le-leb b.start s lo) (le-leb _ _ hi)) ∙ c))

-- ---- the shares of a block

pub shared_whole : (W : ℕ) (rs : List Rule) (y : Option Server) (s n m : ℕ) (r : Shares) → r ≡ whole_block y m → m ≡ n
    → ((a : ℕ) → s ≤ a → a < s + n → first_match W rs a ≡ y) → Shared W rs s n r
shared_whole W rs y s n m r e f h =
    let is : (x : Option Server) → same x y * m ≡ in_block W rs x s n = λ x. ap (λ (i : ℕ). same x y * i) f ∙ block_whole W rs x y s n h in
    record {
      one = ap (λ (v : Shares). v.one) e ∙ is (Some One);
      two = ap (λ (v : Shares). v.two) e ∙ is (Some Two);
      unmatched = ap (λ (v : Shares). v.unmatched) e ∙ is None;
    }

pub shared_halves : (W : ℕ) (rs ps : List Rule) (s l t u v w : ℕ) (low high : Shares)
    → ((a : ℕ) → s ≤ a → a < s + 2 ^ l → first_match W ps a ≡ first_match W rs a)
    → t ≡ s → u ≡ s + 2 ^ v → w ≡ v → 2 ^ l ≡ 2 ^ v + 2 ^ w → Shared W ps t (2 ^ v) low → Shared W ps u (2 ^ w) high
    → Shared W rs s (2 ^ l) (record { one = low.one + high.one; two = low.two + high.two; unmatched = low.unmatched + high.unmatched })
shared_halves W rs ps s l t u v w low high like e f g all h k =
    record { one = sum (Some One) _ _ h.one k.one; two = sum (Some Two) _ _ h.two k.two; unmatched = sum None _ _ h.unmatched k.unmatched }
  where
    both : 2 ^ v + 2 ^ v ≡ 2 ^ l
    both = omega (arith, ap (λ (n : ℕ). 2 ^ n) g)

    sum : (x : Option Server) (a b : ℕ) → a ≡ in_block W ps x t (2 ^ v) → b ≡ in_block W ps x u (2 ^ w) → a + b ≡ in_block W rs x s (2 ^ l)
    sum x a b i j =
        let lo : a ≡ in_block W ps x s (2 ^ v) = i ∙ ap (λ (n : ℕ). in_block W ps x n (2 ^ v)) e in
        let hi : b ≡ in_block W ps x (s + 2 ^ v) (2 ^ v) = j ∙ ap₂ (λ (n m : ℕ). in_block W ps x n (2 ^ m)) f g in
        omega (arith, lo, hi, block_halves W ps x s (2 ^ v)) ∙ ap (in_block W ps x s) both ∙ block_like W ps rs x s (2 ^ l) like

-- ---- all addresses

-- a list that leaves no address out has at least the fewest rules of its weight
pub enough : (W : ℕ) (rs : List Rule) (r : Shares) → all_fit W rs ≡ true → Totals W rs r → r.unmatched ≡ 0 → L W r.one ≤ length rs
enough W rs r f t z =
    least_rules W r.one rs (record { fit = f; covers = all_covered W rs (sym t.unmatched ∙ z); exact = sym t.one })

pub covered_none : (W : ℕ) (rs : List Rule) → Covers W rs → answered W rs None ≡ 0
covered_none W rs h =
    tally_ext (λ a. same None (first_match W rs a)) (λ _. 0) (2 ^ W) (λ a k. none (first_match W rs a) (h a k)) ∙ omega (arith, tally_const (2 ^ W) 0)
  where
    none : (y : Option Server) → is_some y ≡ true → same None y ≡ 0
    none None e = let z : ◌≡◌ {A = ℕ} 0 1 = cc in absurd (omega arith)
    none (Some y) e = refl
