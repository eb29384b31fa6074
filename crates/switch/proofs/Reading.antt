-- A listing tells its rules: its lines can be read in one way only.
use Rattle.std.proofs.Common.{◌≡◌, ℕ, zero, suc, ◌+◌, ◌-◌, ◌%◌, ◌^◌, ◌<◌, ◌≤◌, false, List, [], ◌∷◌, ◌++◌, map, length, get_or, take, drop, None, decimal, Option, sym, refl, ap, ◌∙◌, subst, ap₂, append_assoc, arith, lit<, pow_mono}
use Rattle.std.specs.List.{flat_map, AllByRecursion}
use Rattle.std.proofs.lemmas.Fmt.{decimal_by_steps, decimal_nonempty, decimal_injective}
use Rattle.std.proofs.ByRecursion.{All-append, All-map, All-weaker}
use Rattle.std.proofs.lemmas.List.{length-append, length-map, take_at, drop_at, drop-drop}
use Rattle.std.proofs.lemmas.List.Sums.{sum_by-cons}
use Rattle.rules.specs.declared.rule.Rule.{Rule}
use Rattle.rules.specs.declared.server.Server.{Server}
use Rattle.rules.specs.declared.server.Server.TheVariants.{One, Two}
use Rattle.rules.specs.Servers.{server_number}
use Rattle.rules.proofs.Shapes.{Shape}
use Rattle.memory.specs.declared.key.KeyRule.{KeyRule}
use Rattle.plan.specs.Plans.{beyond, rule_total}
use Rattle.model.specs.Keyed.{keyed, from, tags, table_of, rules_of, key_rules}
use Rattle.model.proofs.Keys.{InRange, all_shapes}
use Rattle.model.proofs.Counts.{key_count}
use Rattle.switch.specs.Listings.{Standing, under, standing_of, standing, line, lines, trailer, text_of, listing, over, Small, way_back, as_key, ReadBack}
use Rattle.switch.proofs.Stepwise.{map_joined, range}

-- ---- numbers

-- a byte from 48 to 57
abbrev Digit : ℕ → Type 0
Digit c = (48 ≤ c) × (c < 58)

decimal_digits : (n : ℕ) → n < 2 ^ 64 → AllByRecursion Digit (decimal n)
decimal_digits =
    decimal_by_steps (λ n ds. AllByRecursion Digit ds) (λ n h. ((omega arith, omega arith), tt))
    (λ n ds h more. All-append Digit ds ((48 + n % 10) ∷ []) more ((omega arith, omega arith), tt))

-- digits end at the first byte below 48
digits_end : (ds es xs ys : List ℕ) (e : ℕ) → AllByRecursion Digit ds → AllByRecursion Digit es → e < 48 → ds ++ (e ∷ xs) ≡ es ++ (e ∷ ys) → (ds ≡ es) × (xs ≡ ys)
digits_end [] [] xs ys e a b low same = (refl, let t : xs ≡ ys = cc in t)
digits_end [] (b ∷ es) xs ys e a h low same = absurd (let z : e ≡ b = cc in omega (arith, h.0.0))
digits_end (a ∷ ds) [] xs ys e h b low same = absurd (let z : a ≡ e = cc in omega (arith, h.0.0))
digits_end (a ∷ ds) (b ∷ es) xs ys e h k low same =
    let z : a ≡ b = cc in
    let t : ds ++ (e ∷ xs) ≡ es ++ (e ∷ ys) = cc in
    let (p, q) = digits_end ds es xs ys e h.1 k.1 low t in
    (ap₂ (λ (x : ℕ) (zs : List ℕ). x ∷ zs) z p, q)

number_read : (m n e : ℕ) (xs ys : List ℕ) → m < 2 ^ 64 → n < 2 ^ 64 → e < 48 → decimal m ++ (e ∷ xs) ≡ decimal n ++ (e ∷ ys) → (m ≡ n) × (xs ≡ ys)
number_read m n e xs ys a b low same =
    let (p, q) = digits_end (decimal m) (decimal n) xs ys e (decimal_digits m a) (decimal_digits n b) low same in
    (decimal_injective m n a b p, q)

-- ---- lines

abbrev rule : ℕ → ℕ → Server → Rule
rule s l x = record { start = s; length = l; server = x }

same_server : (x y : Server) → server_number x ≡ server_number y → x ≡ y
same_server One One e = refl
same_server One Two e = absurd (omega arith)
same_server Two One e = absurd (omega arith)
same_server Two Two e = refl

server_low : (x : Server) → server_number x < 2 ^ 64
server_low One = lit< tt
server_low Two = lit< tt

spelled : (s : Standing) (xs : List ℕ)
    → line s ++ xs ≡ decimal s.tag ++ (32 ∷ (decimal s.rule.start ++ (32 ∷ (decimal s.rule.length ++ (32 ∷ (decimal (server_number s.rule.server) ++ (10 ∷ xs)))))))
spelled s xs = simp append_assoc

line_read : (s q : Standing) (xs ys : List ℕ) → Small s → Small q → line s ++ xs ≡ line q ++ ys → (s ≡ q) × (xs ≡ ys)
line_read s q xs ys a b same =
    let (tag, one) = number_read s.tag q.tag 32 _ _ (omega (arith, a.0)) (omega (arith, b.0)) (lit< tt) (sym (spelled s xs) ∙ same ∙ spelled q ys) in
    let (start, two) = number_read s.rule.start q.rule.start 32 _ _ (omega (arith, a.1)) (omega (arith, b.1)) (lit< tt) one in
    let (long, three) = number_read s.rule.length q.rule.length 32 _ _ (omega (arith, a.2)) (omega (arith, b.2)) (lit< tt) two in
    let (to, rest) = number_read (server_number s.rule.server) (server_number q.rule.server) 10 xs ys (server_low s.rule.server) (server_low q.rule.server) (lit< tt) three in (
      ap₂ (λ (t : ℕ) (r : Rule). under t r) tag
          (ap₂ (λ (x y : ℕ). rule x y s.rule.server) start long ∙ ap (rule q.rule.start q.rule.length) (same_server s.rule.server q.rule.server to)),
      rest,
    )

-- no line begins as the trailer does
no_line : (ds xs ys : List ℕ) → AllByRecursion Digit ds → 0 < length ds → 98 ∷ xs ≡ ds ++ ys → ⊥
no_line [] xs ys h some same = omega arith
no_line (d ∷ ds) xs ys h some same = let z : 98 ≡ d = cc in omega (arith, h.0.1)

no_trailer : (s : Standing) (back count : ℕ) (ys : List ℕ) → Small s → trailer back count ≡ line s ++ ys → ⊥
unfolding trailer
no_trailer s back count ys small same = no_line (decimal s.tag) _ _ (decimal_digits s.tag (omega (arith, small.0))) (decimal_nonempty s.tag (omega (arith, small.0))) (same ∙ spelled s ys)

lines_read : (ss qs : List Standing) (b n b' n' : ℕ) → AllByRecursion Small ss → AllByRecursion Small qs → lines ss ++ trailer b n ≡ lines qs ++ trailer b' n' → ss ≡ qs
lines_read [] [] b n b' n' a h same = refl
lines_read [] (q ∷ qs) b n b' n' a h same = absurd (no_trailer q b n _ h.0 (same ∙ append_assoc (line q) (lines qs) (trailer b' n')))
lines_read (s ∷ ss) [] b n b' n' a h same = absurd (no_trailer s b' n' _ a.0 (sym same ∙ append_assoc (line s) (lines ss) (trailer b n)))
lines_read (s ∷ ss) (q ∷ qs) b n b' n' a h same =
    let (one, rest) = line_read s q (lines ss ++ trailer b n) (lines qs ++ trailer b' n') a.0 h.0
    (sym (append_assoc (line s) (lines ss) (trailer b n)) ∙ same ∙ append_assoc (line q) (lines qs) (trailer b' n')) in
    ap₂ (λ (x : Standing) (xs : List Standing). x ∷ xs) one (lines_read ss qs b n b' n' a.1 h.1 rest)

-- ---- the standing rules

module _ (W : ℕ) (ds : List (Option ℕ)) (w : W ≤ 24) (h : InRange W ds) where
  small_from : (n t : ℕ) → t + n ≤ 64 → AllByRecursion Small (flat_map (standing_of W ds) (from n t))
  unfolding from standing_of
  small_from zero t k = tt
  small_from (suc n) t k =
      let low : 2 ^ W ≤ 2 ^ 24 = pow_mono w in
      All-append Small (standing_of W ds t) (flat_map (standing_of W ds) (from n (suc t)))
      (All-map Small (under t) (table_of W (get_or ds t None))
      (All-weaker (Shape W) (λ r. Small (under t r)) (λ r s. (omega arith, omega (arith, s.low), omega (arith, s.short))) (table_of W (get_or ds t None)) (all_shapes W ds h t)))
      (small_from n (suc t) (omega arith))

  all_small : AllByRecursion Small (standing W ds)
  unfolding standing tags
  all_small = small_from 64 0 (omega arith)

  map_under : (t : ℕ) (rs : List Rule) → map (as_key W) (map (under t) rs) ≡ map (keyed W t) rs
  map_under t [] = refl
  map_under t (r ∷ rs) = ap (λ (ks : List KeyRule). keyed W t r ∷ ks) (map_under t rs)

  keys_from : (ts : List ℕ) → flat_map (λ t. map (as_key W) (standing_of W ds t)) ts ≡ flat_map (rules_of W ds) ts
  unfolding standing_of rules_of
  keys_from [] = refl
  keys_from (t ∷ ts) = ap₂ (λ (x y : List KeyRule). x ++ y) (map_under t (table_of W (get_or ds t None))) (keys_from ts)

  as_keys : map (as_key W) (standing W ds) ≡ key_rules W ds
  unfolding standing key_rules
  as_keys = map_joined (as_key W) (standing_of W ds) tags ∙ keys_from tags

  standing_many : length ds ≡ 64 → length (standing W ds) ≡ rule_total W ds
  standing_many long = sym (length-map (standing W ds) (as_key W)) ∙ ap length as_keys ∙ key_count W ds h long

lines_sum : (ss : List Standing) → length (lines ss) ≡ way_back ss
lines_sum [] = refl
lines_sum (s ∷ ss) = length-append (line s) (lines ss) ∙ ap (λ (n : ℕ). length (line s) + n) (lines_sum ss) ∙ sym (sum_by-cons (λ (x : Standing). length (line x)) s ss)

-- the text behind some bytes
behind_front : (front back : List ℕ) (k : ℕ) → drop (length front + k) (front ++ back) ≡ drop k back
behind_front front back k = sym (drop-drop k (length front) (front ++ back)) ∙ ap (drop k) (drop_at front back (length front) refl)

pub read_back : (W : ℕ) (ds : List (Option ℕ)) → W ≤ 24 → beyond (2 ^ W) ds ≡ false → length ds ≡ 64 → ReadBack W ds (listing W ds)
unfolding listing text_of
read_back W ds w fit long =
    let h = range W ds fit in
    let ss = standing W ds in
    let B = way_back ss in
    let sum = lines_sum ss in
    record {
      lists = record { small = all_small W ds w h; text = refl };
      only = λ qs l. sym (lines_read ss qs (length (lines ss)) (length ss) (length (lines qs)) (length qs) (all_small W ds w h) l.small l.text);
      held = as_keys W ds w h;
      trailer_at = λ front.
          behind_front front (listing W ds) B ∙ drop_at (lines ss) (trailer (length (lines ss)) (length ss)) B sum
          ∙ ap₂ trailer sum (standing_many W ds w h long);
      first_line = λ front.
          let z : length front + B - B ≡ length front = omega arith in
          ap (λ (k : ℕ). take B (drop k (front ++ listing W ds))) z
          ∙ ap (take B) (drop_at front (listing W ds) (length front) refl)
          ∙ take_at (lines ss) (trailer (length (lines ss)) (length ss)) B sum;
    }

-- the first bytes of a buffer that a listing was written over
pub read_over : (W : ℕ) (ds : List (Option ℕ)) → W ≤ 24 → beyond (2 ^ W) ds ≡ false → length ds ≡ 64 → (o out : List ℕ) (n : ℕ) → n ≡ length (listing W ds)
    → out ≡ over (listing W ds) o → ReadBack W ds (take n out)
read_over W ds w fit long o out n e is =
    subst (ReadBack W ds) (sym (ap₂ (λ (k : ℕ) (xs : List ℕ). take k xs) e is ∙ take_at (listing W ds) (drop (length (listing W ds)) o) (length (listing W ds)) refl)) (read_back W ds w fit long)
