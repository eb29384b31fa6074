-- A list of rules cut into the two halves of the addresses.
use Rattle.std.proofs.Common.{◌≡◌, ℕ, zero, suc, ◌+◌, ◌-◌, ◌*◌, ◌^◌, ◌<◌, ◌≤◌, Bool, true, false, cond, List, [], ◌∷◌, Some, sym, refl, ap, ◌∙◌, ap₂, mul-le-mul_right, lt_of_mul-lt-mul_right, pow-suc, le_of_mul-le-mul_right, arith, pow_pos, pow-add}
use native.Mathlib.Decide.{dec_le}
use Rattle.std.specs.List.{AllByRecursion}
use Rattle.rules.specs.declared.rule.Rule.{Rule}
use Rattle.rules.specs.declared.server.Server.{Server}
use Rattle.rules.specs.declared.server.Server.TheVariants.{One, Two}
use Rattle.rules.specs.Prefixes.{within, matches, same, tally}
use Rattle.rules.proofs.Shapes.{Shape}
use Rattle.rules.proofs.Tallies.{tally_ext, tally_split, tally_both, within_in, within_below, within_above, within_move}

-- ---- a list with a server for what no rule matches

abbrev pub at : ℕ → List Rule → Server → ℕ → Server
at W [] s a = s
at W (r ∷ rs) s a = cond (matches W r a) r.server (at W rs s a)

-- a server that is the one asked for counts 1
abbrev pub is : Server → Server → ℕ
is x y = same (Some x) (Some y)

abbrev pub other : Server → Server
other One = Two
other Two = One

same_both : (x y : Server) → is x y + is (other x) y ≡ 1
same_both One One = refl
same_both One Two = refl
same_both Two One = refl
same_both Two Two = refl

pub same_other : (x : Server) → is (other x) x ≡ 0
same_other One = refl
same_other Two = refl

unfoldable pub count : Server → ℕ → List Rule → Server → ℕ
count x W rs s = tally (λ a. is x (at W rs s a)) (2 ^ W)

pub count_both : (x : Server) (W : ℕ) (rs : List Rule) (s : Server) → count x W rs s + count (other x) W rs s ≡ 2 ^ W
unfolding count
count_both x W rs s = tally_both (λ a. is x (at W rs s a)) (λ a. is (other x) (at W rs s a)) (2 ^ W) (λ a. same_both x (at W rs s a))

-- ---- one half, from q * 2 ^ W on: how a rule meets it

pub data View (W q : ℕ) (r : Rule) : Type 0 where
  whole : r.length ≡ 0 → r.start ≡ 0 → View W q r
  child : (l t : ℕ) → r.length ≡ suc l → r.start ≡ q * 2 ^ W + t → Shape W (record { start = t; length = l; server = r.server }) → View W q r
  away : (l : ℕ) → r.length ≡ suc l → ((a : ℕ) → a < 2 ^ W → matches (suc W) r (q * 2 ^ W + a) ≡ false) → View W q r

unfoldable pub keep : {W q : ℕ} {r : Rule} → View W q r → List Rule → List Rule
keep {r = r} (whole e z) ps = record { start = 0; length = 0; server = r.server } ∷ ps
keep {r = r} (child l t e b f) ps = record { start = t; length = l; server = r.server } ∷ ps
keep (away l e n) ps = ps

unfoldable pub side : {W q : ℕ} {r : Rule} → View W q r → ℕ
side (whole e z) = 0
side (child l t e b f) = 1
side (away l e n) = 0

-- two multiples of P, the one below the other, are P apart
apart : (m n P : ℕ) → m * P < n * P → m * P + P ≤ n * P
apart m n P h =
    let l = lt_of_mul-lt-mul_right P h in
    omega (arith, mul-le-mul_right P l)

pub view : (W q : ℕ) (r : Rule) → Shape (suc W) r → View W q r
view W q r f = go r.length refl
  where
    m : ℕ
    m = f.aligned.0

    go : (k : ℕ) → r.length ≡ k → View W q r
    go zero e =
        let p : suc W - r.length ≡ suc W = omega arith in
        let s : r.start ≡ m * 2 ^ suc W = f.aligned.1 ∙ ap (λ (x : ℕ). m * 2 ^ x) p in
        let b : m * 2 ^ suc W < 1 * 2 ^ suc W = omega (arith, f.low) in
        let z : m ≡ 0 = omega (arith, lt_of_mul-lt-mul_right (2 ^ suc W) b) in
        whole e (s ∙ ap (λ (x : ℕ). x * 2 ^ suc W) z ∙ omega arith)
    go (suc l) e = turn (dec_le o r.start) (dec_le (o + 2 ^ W) r.start)
      where
        o : ℕ
        o = q * 2 ^ W

        P : ℕ
        P = 2 ^ (W - l)

        size : 2 ^ (suc W - r.length) ≡ P
        size = ap (λ (x : ℕ). 2 ^ x) (omega arith)

        s : r.start ≡ m * P
        s = f.aligned.1 ∙ ap (λ (x : ℕ). m * x) size

        short : l ≤ W
        short = omega (arith, f.short)

        w : 2 ^ W ≡ 2 ^ l * P
        w = let p : W ≡ l + (W - l) = omega arith in ap (λ (x : ℕ). 2 ^ x) p ∙ pow-add 2 l (W - l)

        ow : o ≡ q * 2 ^ l * P
        ow = ap (λ (x : ℕ). q * x) w ∙ omega arith

        below : r.start < o → r.start + P ≤ o
        below h =
            let h' : m * P < q * 2 ^ l * P = omega (arith, s, ow) in
            omega (arith, s, ow, apart m (q * 2 ^ l) P h')

        turn : Dec (o ≤ r.start) → Dec (o + 2 ^ W ≤ r.start) → View W q r
        turn (no h) d =
            away l e
            (λ a k. ap (λ (x : ℕ). within r.start x (o + a)) size ∙ within_above r.start P (o + a) (let b = below (omega arith) in omega arith))
        turn (yes h) (yes k) = away l e (λ a j. within_below r.start (2 ^ (suc W - r.length)) (o + a) (omega arith))
        turn (yes h) (no k) =
            child l (r.start - o) e (omega arith)
            (record {
              short = short;
              aligned = (
                m - q * 2 ^ l,
                (let i : q * 2 ^ l * P ≤ m * P = omega (arith, s, ow) in
                    let j : q * 2 ^ l ≤ m = le_of_mul-le-mul_right i (pow_pos (W - l)) in
                    let n : m ≡ q * 2 ^ l + (m - q * 2 ^ l) = omega arith in
                    omega (arith, s, ow, ap (λ (x : ℕ). x * P) n)),
              );
              low = omega arith;
            })

-- ---- a half of a list

unfoldable pub part : (W q : ℕ) (rs : List Rule) → AllByRecursion (Shape (suc W)) rs → List Rule
part W q [] f = []
part W q (r ∷ rs) f = keep (view W q r f.0) (part W q rs f.1)

unfoldable pub sides : (W q : ℕ) (rs : List Rule) → AllByRecursion (Shape (suc W)) rs → ℕ
sides W q [] f = 0
sides W q (r ∷ rs) f = side (view W q r f.0) + sides W q rs f.1

-- its rules fit
keep_fits : {W q : ℕ} {r : Rule} (v : View W q r) (ps : List Rule) → AllByRecursion (Shape W) ps → AllByRecursion (Shape W) (keep v ps)
unfolding keep
keep_fits {W} (whole e z) ps f = (record { short = omega arith; aligned = (0, omega arith); low = pow_pos W }, f)
keep_fits (child l t e b g) ps f = (g, f)
keep_fits (away l e n) ps f = f

pub part_fits : (W q : ℕ) (rs : List Rule) (f : AllByRecursion (Shape (suc W)) rs) → AllByRecursion (Shape W) (part W q rs f)
unfolding part
part_fits W q [] f = tt
part_fits W q (r ∷ rs) f = keep_fits (view W q r f.0) (part W q rs f.1) (part_fits W q rs f.1)

-- it decides as the list does
keep_at : {W q : ℕ} {r : Rule} → q ≤ 1 → (v : View W q r) (s : Server) (a : ℕ) → a < 2 ^ W → (x : Server) (ps : List Rule) → x ≡ at W ps s a
    → cond (matches (suc W) r (q * 2 ^ W + a)) r.server x ≡ at W (keep v ps) s a
unfolding keep
keep_at {W} {q} {r} hq (whole e z) s a h x ps ih =
    let p : suc W - r.length ≡ suc W = omega arith in
    let p' = ap (λ (n : ℕ). 2 ^ n) p in
    let t : matches (suc W) r (q * 2 ^ W + a) ≡ true
    = within_in r.start (2 ^ (suc W - r.length)) (q * 2 ^ W + a) (omega arith) (omega (arith, pow-suc 2 W, mul-le-mul_right (2 ^ W) hq)) in
    let d : W - 0 ≡ W = omega arith in
    let d' = ap (λ (n : ℕ). 2 ^ n) d in
    let u : within 0 (2 ^ (W - 0)) a ≡ true = within_in 0 (2 ^ (W - 0)) a (omega arith) (omega arith) in
    ap (λ (b : Bool). cond b r.server x) t ∙ sym (ap (λ (b : Bool). cond b r.server (at W ps s a)) u)
keep_at {W} {q} {r} hq (child l t e b f) s a h x ps ih =
    let p : suc W - r.length ≡ W - l = omega arith in
    let m : matches (suc W) r (q * 2 ^ W + a) ≡ within t (2 ^ (W - l)) a
    = ap₂ (λ (i j : ℕ). within i (2 ^ j) (q * 2 ^ W + a)) b p ∙ within_move (q * 2 ^ W) t (2 ^ (W - l)) a in
    ap₂ (λ (c : Bool) (y : Server). cond c r.server y) m ih
keep_at {W} {q} {r} hq (away l e n) s a h x ps ih = ap (λ (c : Bool). cond c r.server x) (n a h) ∙ ih

part_at : (W q : ℕ) → q ≤ 1 → (rs : List Rule) (f : AllByRecursion (Shape (suc W)) rs) (s : Server) (a : ℕ) → a < 2 ^ W
    → at (suc W) rs s (q * 2 ^ W + a) ≡ at W (part W q rs f) s a
unfolding part
part_at W q hq [] f s a h = refl
part_at W q hq (r ∷ rs) f s a h =
    keep_at hq (view W q r f.0) s a h (at (suc W) rs s (q * 2 ^ W + a)) (part W q rs f.1) (part_at W q hq rs f.1 s a h)

-- the two halves make the whole
pub halves : (x : Server) (W : ℕ) (rs : List Rule) (f : AllByRecursion (Shape (suc W)) rs) (s : Server)
    → count x (suc W) rs s ≡ count x W (part W 0 rs f) s + count x W (part W 1 rs f) s
unfolding count
halves x W rs f s =
    let g : ℕ → ℕ = λ a. is x (at (suc W) rs s a) in
    let p : 2 ^ suc W ≡ 2 ^ W + 2 ^ W = omega (arith, pow-suc 2 W) in
    let low : tally g (2 ^ W) ≡ tally (λ a. is x (at W (part W 0 rs f) s a)) (2 ^ W)
    = tally_ext g (λ a. is x (at W (part W 0 rs f) s a)) (2 ^ W)
    (λ a h. let e : a ≡ 0 * 2 ^ W + a = omega arith in ap g e ∙ ap (is x) (part_at W 0 (omega arith) rs f s a h)) in
    let high : tally (λ a. g (2 ^ W + a)) (2 ^ W) ≡ tally (λ a. is x (at W (part W 1 rs f) s a)) (2 ^ W)
    = tally_ext (λ a. g (2 ^ W + a)) (λ a. is x (at W (part W 1 rs f) s a)) (2 ^ W)
    (λ a h. let e : 2 ^ W + a ≡ 1 * 2 ^ W + a = omega arith in ap g e ∙ ap (is x) (part_at W 1 (omega arith) rs f s a h)) in
    ap (tally g) p ∙ tally_split g (2 ^ W) (2 ^ W) ∙ ap₂ (λ (i j : ℕ). i + j) low high
