-- A table's rules one after the other, a digit at a time from the top.
use Rattle.std.proofs.Common.{◌≡◌, ℕ, zero, suc, ◌+◌, ◌-◌, ◌*◌, ◌%◌, ◌^◌, ◌<◌, ◌≤◌, min, Bool, cond, ltb, List, [], ◌∷◌, ◌++◌, take, sym, refl, ap, ◌∙◌, subst, ap₂, append_assoc, append-nil, arith, pow_pos}
use Rattle.std.proofs.lemmas.Bool.{lt-ltb, le-ltb, le-leb, lt-leb}
use Rattle.std.proofs.lemmas.List.{take_all}
use Rattle.rules.specs.declared.rule.Rule.{Rule}
use Rattle.rules.specs.declared.server.Server.{Server}
use Rattle.rules.specs.declared.server.Server.TheVariants.{One, Two}
use Rattle.rules.specs.Digits.{Digit, minus, nought, plus, digit, lowest, rest, after, digits, D}
use Rattle.rules.specs.Tables.{Term, term, terms, block, all_to, from_below, from_above, table}
use Rattle.rules.specs.Walk.{end_at, worked, digits_left}
use Rattle.rules.proofs.Laying.{raise, one_more}
use Rattle.rules.proofs.Rounding.{after_rest, after_bound}
use Rattle.rules.proofs.TopDigit.{top_none, short_digits}
use Rattle.rules.proofs.Writings.{digit_is, exists}

-- the digit at the place p comes ahead of those below it
terms_take : (j p : ℕ) (q : List Digit) → terms j (take (suc p) q) ≡ term (j + p) (digit q p) ++ terms j (take p q)
terms_take j zero [] = refl
terms_take j (suc p) [] = refl
terms_take j zero (d ∷ q) =
    let e : j ≡ j + 0 = omega arith in
    ap (λ (i : ℕ). term i d) e ∙ sym (append-nil (term (j + 0) d))
terms_take j (suc p) (d ∷ q) =
    let e : suc j + p ≡ j + suc p = omega arith in
    ap (λ (x : List Term). x ++ term j d) (terms_take (suc j) p q)
    ∙ append_assoc (term (suc j + p) (digit q p)) (terms (suc j) (take p q)) (term j d)
    ∙ ap (λ (i : ℕ). term i (digit q p) ++ (terms (suc j) (take p q) ++ term j d)) e

-- the rule of one digit, by where server 1's addresses ended before it and end after it
abbrev pub moved : ℕ → ℕ → ℕ → ℕ → List Rule
moved W p old new = cond (ltb old new) (block W old p One ∷ []) (cond (ltb new old) (block W new p Two ∷ []) [])

stays : (W p u : ℕ) → moved W p u u ≡ []
stays W p u =
    let f = le-ltb u u (omega arith) in
    ap (λ (b : Bool). cond b (block W u p One ∷ []) (cond b (block W u p Two ∷ []) [])) f

rises : (W p old new : ℕ) → old < new → moved W p old new ≡ block W old p One ∷ []
rises W p old new h = ap (λ (b : Bool). cond b (block W old p One ∷ []) (cond (ltb new old) (block W new p Two ∷ []) [])) (lt-ltb old new h)

falls : (W p old new : ℕ) → new < old → moved W p old new ≡ block W new p Two ∷ []
falls W p old new h =
    ap₂ (λ (a b : Bool). cond a (block W old p One ∷ []) (cond b (block W new p Two ∷ []) [])) (le-ltb old new (omega arith)) (lt-ltb new old h)

-- one digit d at the place p, the end going from u to v
abbrev Step : ℕ → Server → ℕ → ℕ → ℕ → Digit → Type 0
Step W s p u v d = (q : List Term) → worked W s u (term p d ++ q) ≡ moved W p u v ++ worked W s v q

still : (W : ℕ) (s : Server) (p u v : ℕ) → u ≡ v → Step W s p u v nought
still W s p u v e q =
    ap (λ (x : ℕ). worked W s x q) e ∙ ap (λ (x : List Rule). x ++ worked W s v q) (sym (stays W p v) ∙ ap (λ (x : ℕ). moved W p x v) (sym e))

below_plus : (W p u v : ℕ) → v ≡ u + 2 ^ p → Step W Two p u v plus
unfolding from_below
below_plus W p u v e q =
    ap (λ (x : ℕ). block W u p One ∷ from_below W x q) (sym e)
    ∙ ap (λ (x : List Rule). x ++ from_below W v q) (sym (rises W p u v (omega (arith, pow_pos p))))

below_minus : (W p u v : ℕ) → u ≡ v + 2 ^ p → Step W Two p u v minus
unfolding from_below
below_minus W p u v e q =
    let f : u - 2 ^ p ≡ v = omega arith in
    ap (λ (x : ℕ). block W x p Two ∷ from_below W x q) f
    ∙ ap (λ (x : List Rule). x ++ from_below W v q) (sym (falls W p u v (omega (arith, pow_pos p))))

above_plus : (W p u v : ℕ) → u ≡ v + 2 ^ p → Step W One p u v plus
unfolding from_above
above_plus W p u v e q =
    let f : u - 2 ^ p ≡ v = omega arith in
    ap (λ (x : ℕ). block W x p Two ∷ from_above W x q) f
    ∙ ap (λ (x : List Rule). x ++ from_above W v q) (sym (falls W p u v (omega (arith, pow_pos p))))

above_minus : (W p u v : ℕ) → v ≡ u + 2 ^ p → Step W One p u v minus
unfolding from_above
above_minus W p u v e q =
    ap (λ (x : ℕ). block W u p One ∷ from_above W x q) (sym e)
    ∙ ap (λ (x : List Rule). x ++ from_above W v q) (sym (rises W p u v (omega (arith, pow_pos p))))

-- the end, by what the digits worked come to
abbrev end_of : ℕ → Server → ℕ → ℕ
end_of W Two e = e
end_of W One e = 2 ^ W - e

end_is : (W : ℕ) (s : Server) (n p : ℕ) → end_at W s n p ≡ end_of W s (after p n * 2 ^ p)
end_is W One n p = refl
end_is W Two n p = refl

up_step : (W p e f : ℕ) (s : Server) → f ≡ e + 2 ^ p → f ≤ 2 ^ W → Step W s p (end_of W s e) (end_of W s f) plus
up_step W p e f One g h = above_plus W p (2 ^ W - e) (2 ^ W - f) (omega arith)
up_step W p e f Two g h = below_plus W p e f g

down_step : (W p e f : ℕ) (s : Server) → e ≡ f + 2 ^ p → e ≤ 2 ^ W → Step W s p (end_of W s e) (end_of W s f) minus
down_step W p e f One g h = above_minus W p (2 ^ W - e) (2 ^ W - f) (omega arith)
down_step W p e f Two g h = below_minus W p e f g

-- the end moves as the digit says
step : (W p x : ℕ) (s : Server) → rest x * 2 ^ suc p ≤ 2 ^ W → x * 2 ^ p ≤ 2 ^ W
    → Step W s p (end_of W s (rest x * 2 ^ suc p)) (end_of W s (x * 2 ^ p)) (lowest (x % 4))
step W p x s h k = go (x % 4) refl
  where
    go : (r : ℕ) → x % 4 ≡ r → Step W s p (end_of W s (rest x * 2 ^ suc p)) (end_of W s (x * 2 ^ p)) (lowest r)
    go zero e = still W s p _ _ (ap (end_of W s) (raise p (rest x) x (omega arith)))
    go (suc zero) e =
        up_step W p (rest x * 2 ^ suc p) (x * 2 ^ p) s
        (omega (arith, raise p (rest x) (x - 1) (omega arith), one_more p (x - 1) x (omega arith))) k
    go (suc (suc zero)) e = still W s p _ _ (ap (end_of W s) (raise p (rest x) x (omega arith)))
    go (suc (suc (suc r))) e =
        let three : x % 4 ≡ 3 = omega arith in
        down_step W p (rest x * 2 ^ suc p) (x * 2 ^ p) s (omega (arith, raise p (rest x) (x + 1) (omega arith), one_more p x (x + 1) refl)) h

pub walk : (W : ℕ) (s : Server) (n p : ℕ) → n ≤ 2 ^ W
    → digits_left W s n (suc p) ≡ moved W p (end_at W s n (suc p)) (end_at W s n p) ++ digits_left W s n p
unfolding digits_left
walk W s n p h =
    let x : ℕ = after p n in
    let q : List Term = terms 0 (take p (digits n)) in
    let d : digit (digits n) p ≡ lowest (x % 4) = digit_is p n (digits n) (exists n) in
    let u : end_at W s n (suc p) ≡ end_of W s (rest x * 2 ^ suc p)
    = end_is W s n (suc p) ∙ ap (λ (y : ℕ). end_of W s (y * 2 ^ suc p)) (after_rest p n) in
    let v : end_at W s n p ≡ end_of W s (x * 2 ^ p) = end_is W s n p in
    let b = subst (λ (y : ℕ). y * 2 ^ suc p ≤ 2 ^ W) (after_rest p n) (after_bound W (suc p) n h) in
    let z : 0 + p ≡ p = omega arith in
    ap (worked W s (end_at W s n (suc p))) (terms_take 0 p (digits n))
    ∙ ap₂ (λ (i : ℕ) (t : List Term). worked W s i (t ++ q)) u (ap₂ term z d)
    ∙ step W p x s b (after_bound W p n h) q
    ∙ ap₂ (λ (i j : ℕ). moved W p i j ++ worked W s j q) (sym u) (sym v)

-- at the place 0 there is nothing left
pub walked : (W : ℕ) (s : Server) (n p : ℕ) → p ≡ 0 → digits_left W s n p ≡ []
unfolding digits_left from_below from_above
walked W One n p e = ap (digits_left W One n) e
walked W Two n p e = ap (digits_left W Two n) e

-- at the width all is to come
pub unwalked : (W : ℕ) (s : Server) (n : ℕ) → after W n ≡ 0 → digits_left W s n W ≡ worked W s (end_of W s 0) (terms 0 (digits n))
unfolding digits_left
unwalked W s n e =
    let z : after W n * 2 ^ W ≡ 0 = ap (λ (x : ℕ). x * 2 ^ W) e ∙ omega arith in
    ap₂ (λ (u : ℕ) (q : List Digit). worked W s u (terms 0 q)) (end_is W s n W ∙ ap (end_of W s) z) (take_all W (digits n) (short_digits W n e))

-- the same by the numbers that a walker holds
module _ (W : ℕ) (s : Server) (n p l old new : ℕ) (h : n ≤ 2 ^ W) (len : l ≡ W - p) (u : old ≡ end_at W s n (p + 1)) (v : new ≡ end_at W s n p) where
  by_ends : digits_left W s n (p + 1) ≡ moved W p old new ++ digits_left W s n p
  by_ends =
      let e : p + 1 ≡ suc p = omega arith in
      ap (digits_left W s n) e ∙ walk W s n p h
      ∙ ap₂ (λ (i j : ℕ). moved W p i j ++ digits_left W s n p) (sym (u ∙ ap (end_at W s n) e)) (sym v)

  given : (i : ℕ) (x : Server) (o : ℕ) (y : Server) → moved W p old new ≡ block W o p y ∷ [] → i ≡ o → x ≡ y
      → digits_left W s n (p + 1) ≡ record { start = i; length = l; server = x } ∷ digits_left W s n p
  given i x o y m e f =
      by_ends ∙ ap (λ (q : List Rule). q ++ digits_left W s n p) m
      ∙ ap (λ (r : Rule). r ∷ digits_left W s n p)
      (ap₂ (λ (a b : ℕ). record { start = a; length = b; server = y }) (sym e) (sym len) ∙ ap (λ (z : Server). record { start = i; length = l; server = z }) (sym f))

  pub walk_rises : (i : ℕ) (x : Server) → old < new → i ≡ min old new → x ≡ One
      → digits_left W s n (p + 1) ≡ record { start = i; length = l; server = x } ∷ digits_left W s n p
  walk_rises i x k e f = given i x old One (rises W p old new k) (omega arith) f

  pub walk_falls : (i : ℕ) (x : Server) → new < old → i ≡ min old new → x ≡ Two
      → digits_left W s n (p + 1) ≡ record { start = i; length = l; server = x } ∷ digits_left W s n p
  walk_falls i x k e f = given i x new Two (falls W p old new k) (omega arith) f

  pub walk_stays : old ≡ new → digits_left W s n (p + 1) ≡ digits_left W s n p
  walk_stays k =
      by_ends ∙ ap (λ (x : ℕ). moved W p x new ++ digits_left W s n p) k
      ∙ ap (λ (x : List Rule). x ++ digits_left W s n p) (stays W p new)

-- the whole table, from below and from above
pub table_below : (W d : ℕ) → d ≤ 2 ^ W → D d ≤ D (2 ^ W - d) → all_to Two ∷ digits_left W Two d W ≡ table W d
unfolding table
table_below W d h k =
    ap (λ (x : List Rule). all_to Two ∷ x) (unwalked W Two d (top_none W d h k))
    ∙ ap (λ (b : Bool). cond b (all_to Two ∷ from_below W 0 (terms 0 (digits d))) (all_to One ∷ from_above W (2 ^ W) (terms 0 (digits (2 ^ W - d)))))
    (sym (le-leb (D d) (D (2 ^ W - d)) k))

pub table_above : (W d c : ℕ) → c ≡ 2 ^ W - d → d ≤ 2 ^ W → D c < D d → all_to One ∷ digits_left W One c W ≡ table W d
unfolding table
table_above W d c e h k =
    let back : 2 ^ W - c ≡ d = omega arith in
    let whole : 2 ^ W - 0 ≡ 2 ^ W = omega arith in
    let l : D (2 ^ W - d) < D d = omega (arith, ap D e) in
    ap (λ (x : List Rule). all_to One ∷ x)
    (unwalked W One c (top_none W c (omega arith) (omega (arith, ap D back)))
    ∙ ap₂ (λ (u n : ℕ). from_above W u (terms 0 (digits n))) whole e)
    ∙ ap (λ (b : Bool). cond b (all_to Two ∷ from_below W 0 (terms 0 (digits d))) (all_to One ∷ from_above W (2 ^ W) (terms 0 (digits (2 ^ W - d)))))
    (sym (lt-leb (D d) (D (2 ^ W - d)) l))
