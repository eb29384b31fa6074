-- Rules laid one after the other, each moving the end of server 1's addresses by a power of two.
use Rattle.std.proofs.Common.{◌≡◌, ℕ, zero, suc, ◌+◌, ◌-◌, ◌*◌, ◌%◌, ◌^◌, ◌<◌, ◌≤◌, Bool, cond, ltb, List, [], ◌∷◌, ◌++◌, reverse, length, sym, refl, ap, ◌∙◌, subst, append-nil, mul-le-mul_right, add-mul, pow-suc, le_of_mul-le-mul_right, arith, length-append, pow_pos, pow-add}
use mathlib.Core.List.{reverse-append}
use native.Mathlib.Decide.{dec_le}
use lib.Pow.{pow-lt}
use Rattle.std.specs.List.{AllByRecursion}
use Rattle.std.proofs.lemmas.Bool.Decides.{nat_tests}
use Rattle.std.proofs.lemmas.Bool.{lt-ltb, le-ltb}
use Rattle.std.proofs.ByRecursion.{All-push, All-weaker}
use Rattle.rules.specs.declared.rule.Rule.{Rule}
use Rattle.rules.specs.declared.server.Server.{Server}
use Rattle.rules.specs.declared.server.Server.TheVariants.{One, Two}
use Rattle.rules.specs.Digits.{lowest, rest, write, D}
use Rattle.rules.specs.Prefixes.{within, matches}
use Rattle.rules.specs.Tables.{Term, more, less, term, terms, block, from_below, from_above, Rising}
use Rattle.rules.proofs.DigitCount.{D_none, D_step}
use Rattle.rules.proofs.Halves.{at}
use Rattle.rules.proofs.Shapes.{Shape}

-- ---- one end that moves

grow : (p h a : ℕ) (x y : Server) → cond (within p h a) x (cond (ltb a p) x y) ≡ cond (ltb a (p + h)) x y
grow p h a x y = grind (arith, nat_tests)

shrink : (p h a : ℕ) (x y : Server) → cond (within p h a) y (cond (ltb a (p + h)) x y) ≡ cond (ltb a p) x y
shrink p h a x y = grind (arith, nat_tests)

block_size : (W j : ℕ) → j ≤ W → 2 ^ (W - (W - j)) ≡ 2 ^ j
block_size W j h = ap (λ (i : ℕ). 2 ^ i) (omega arith)

block_fits : (W j m s : ℕ) (x : Server) → j ≤ W → s ≡ m * 2 ^ j → s + 2 ^ j ≤ 2 ^ W → Shape W (block W s j x)
block_fits W j m s x h e k = record {
  short = omega arith;
  aligned = (m, e ∙ ap (λ (i : ℕ). m * i) (sym (block_size W j h)));
  low = omega (arith, pow_pos j);
}

-- where the end stands after some digits
unfoldable pub end : ℕ → List Term → ℕ
end u [] = u
end u (more j ∷ q) = end (u + 2 ^ j) q
end u (less j ∷ q) = end (u - 2 ^ j) q

lay_append : (W u : ℕ) (p q : List Term) → from_below W u (p ++ q) ≡ from_below W u p ++ from_below W (end u p) q
unfolding from_below end
lay_append W u [] q = refl
lay_append W u (more j ∷ p) q = ap (λ (x : List Rule). block W u j One ∷ x) (lay_append W (u + 2 ^ j) p q)
lay_append W u (less j ∷ p) q = ap (λ (x : List Rule). block W (u - 2 ^ j) j Two ∷ x) (lay_append W (u - 2 ^ j) p q)

end_append : (u : ℕ) (p q : List Term) → end u (p ++ q) ≡ end (end u p) q
unfolding end
end_append u [] q = refl
end_append u (more j ∷ p) q = end_append (u + 2 ^ j) p q
end_append u (less j ∷ p) q = end_append (u - 2 ^ j) p q

-- ---- rules laid down to the place j

pub record Laid (W j u n e : ℕ) (s : Server) (rs : List Rule) (last : ℕ) : Type 0 where
  pub fits : AllByRecursion (Shape W) rs
  pub long : length rs ≡ n
  pub broad : AllByRecursion (λ r. r.length + j ≤ W) rs
  pub rising : Rising rs
  pub cut : (a : ℕ) → a < 2 ^ W → at W (reverse rs) s a ≡ cond (ltb a e) One Two
  pub ends : last ≡ e

rising_push : (rs : List Rule) (r : Rule) → Rising rs → AllByRecursion (λ q. q.length < r.length) rs → Rising (rs ++ r ∷ [])
rising_push [] r h k = (tt, tt)
rising_push (q ∷ rs) r (a, h) (b, k) = (All-push (λ x. q.length < x.length) rs r a b, rising_push rs r h k)

at_push : (W : ℕ) (rs : List Rule) (r : Rule) (s : Server) (a : ℕ)
    → at W (reverse (rs ++ r ∷ [])) s a ≡ cond (matches W r a) r.server (at W (reverse rs) s a)
at_push W rs r s a = ap (λ (x : List Rule). at W x s a) (reverse-append rs (r ∷ []))

push : (W j u n e e' : ℕ) (s : Server) (rs : List Rule) (l : ℕ) (r : Rule) → j ≤ W → r.length ≡ W - j → Shape W r
    → ((a : ℕ) → cond (matches W r a) r.server (cond (ltb a e) One Two) ≡ cond (ltb a e') One Two)
    → Laid W (suc j) u n e s rs l → Laid W j u (n + 1) e' s (rs ++ r ∷ []) e'
push W j u n e e' s rs l r h b f g i = record {
  fits = All-push (Shape W) rs r i.fits f;
  long = omega (arith, length-append rs (r ∷ []), i.long);
  broad = All-push (λ q. q.length + j ≤ W) rs r (All-weaker (λ q. q.length + suc j ≤ W) (λ q. q.length + j ≤ W) (λ q k. omega arith) rs i.broad) (omega arith);
  rising = rising_push rs r i.rising (All-weaker (λ q. q.length + suc j ≤ W) (λ q. q.length < r.length) (λ q k. omega arith) rs i.broad);
  cut = λ a k. at_push W rs r s a ∙ ap (λ (x : Server). cond (matches W r a) r.server x) (i.cut a k) ∙ g a;
  ends = refl;
}

-- with the digits in hand
abbrev pub Down : ℕ → ℕ → ℕ → ℕ → ℕ → Server → List Term → Type 0
Down W j u n e s q = Laid W j u n e s (from_below W u q) (end u q)

keep : (W j u n e : ℕ) (s : Server) (q : List Term) → Down W (suc j) u n e s q → Down W j u n e s (q ++ [])
keep W j u n e s q i = subst (λ (x : List Term). Down W j u n e s x) (sym (append-nil q)) (record {
  fits = i.fits;
  long = i.long;
  broad = All-weaker (λ r. r.length + suc j ≤ W) (λ r. r.length + j ≤ W) (λ r k. omega arith) (from_below W u q) i.broad;
  rising = i.rising;
  cut = i.cut;
  ends = i.ends;
})

add_more : (W j u n e m : ℕ) (s : Server) (q : List Term) → j ≤ W → e ≡ m * 2 ^ j → e + 2 ^ j ≤ 2 ^ W → Down W (suc j) u n e s q
    → Down W j u (n + 1) (e + 2 ^ j) s (q ++ more j ∷ [])
unfolding from_below end
add_more W j u n e m s q h k l i =
    let a : from_below W u (q ++ more j ∷ []) ≡ from_below W u q ++ block W e j One ∷ [] =
    lay_append W u q (more j ∷ []) ∙ ap (λ (x : ℕ). from_below W u q ++ block W x j One ∷ []) i.ends in
    let b : end u (q ++ more j ∷ []) ≡ e + 2 ^ j = end_append u q (more j ∷ []) ∙ ap (λ (x : ℕ). x + 2 ^ j) i.ends in
    let p = push W j u n e (e + 2 ^ j) s (from_below W u q) (end u q) (block W e j One) h refl (block_fits W j m e One h k l)
    (λ x. ap (λ (y : ℕ). cond (within e y x) One (cond (ltb x e) One Two)) (block_size W j h) ∙ grow e (2 ^ j) x One Two) i in
    subst (λ (x : List Rule). Laid W j u (n + 1) (e + 2 ^ j) s x (end u (q ++ more j ∷ []))) (sym a)
    (subst (λ (y : ℕ). Laid W j u (n + 1) (e + 2 ^ j) s (from_below W u q ++ block W e j One ∷ []) y) (sym b) p)

add_less : (W j u n e m : ℕ) (s : Server) (q : List Term) → j ≤ W → e ≡ m * 2 ^ j → e + 2 ^ j ≤ 2 ^ W → Down W (suc j) u n (e + 2 ^ j) s q
    → Down W j u (n + 1) e s (q ++ less j ∷ [])
unfolding from_below end
add_less W j u n e m s q h k l i =
    let t : e + 2 ^ j - 2 ^ j ≡ e = omega arith in
    let a : from_below W u (q ++ less j ∷ []) ≡ from_below W u q ++ block W e j Two ∷ [] =
    lay_append W u q (less j ∷ []) ∙ ap (λ (x : ℕ). from_below W u q ++ block W (x - 2 ^ j) j Two ∷ []) i.ends
    ∙ ap (λ (x : ℕ). from_below W u q ++ block W x j Two ∷ []) t in
    let b : end u (q ++ less j ∷ []) ≡ e = end_append u q (less j ∷ []) ∙ ap (λ (x : ℕ). x - 2 ^ j) i.ends ∙ t in
    let p = push W j u n (e + 2 ^ j) e s (from_below W u q) (end u q) (block W e j Two) h refl (block_fits W j m e Two h k l)
    (λ x. ap (λ (y : ℕ). cond (within e y x) Two (cond (ltb x (e + 2 ^ j)) One Two)) (block_size W j h) ∙ shrink e (2 ^ j) x One Two) i in
    subst (λ (x : List Rule). Laid W j u (n + 1) e s x (end u (q ++ less j ∷ []))) (sym a)
    (subst (λ (y : ℕ). Laid W j u (n + 1) e s (from_below W u q ++ block W e j Two ∷ []) y) (sym b) p)

start : (W j u : ℕ) (s : Server) → ((a : ℕ) → a < 2 ^ W → s ≡ cond (ltb a u) One Two) → Down W j u 0 u s []
unfolding from_below end
start W j u s h = record { fits = tt; long = refl; broad = tt; rising = tt; cut = h; ends = refl }

-- ---- room for the digits

narrow : (W j n : ℕ) → 0 < n → n * 2 ^ j ≤ 2 ^ W → j ≤ W
narrow W j n p h = go (dec_le j W)
  where
    go : Dec (j ≤ W) → j ≤ W
    go (yes l) = l
    go (no l) = let k : W < j = omega arith in absurd (omega (arith, pow-lt k, mul-le-mul_right (2 ^ j) p))

room : (W j n : ℕ) → n % 4 ≡ 3 → n * 2 ^ j ≤ 2 ^ W → n * 2 ^ j + 2 ^ j ≤ 2 ^ W
room W j n e h = go (W - j) refl
  where
    l : j ≤ W
    l = narrow W j n (omega arith) h

    odd_room : (v : ℕ) → n ≤ 2 ^ v → n + 1 ≤ 2 ^ v
    odd_room zero b = absurd (omega arith)
    odd_room (suc v) b = omega (arith, pow-suc 2 v)

    go : (v : ℕ) → W - j ≡ v → n * 2 ^ j + 2 ^ j ≤ 2 ^ W
    go v g =
        let w : W ≡ v + j = omega (arith, l) in
        let p : 2 ^ W ≡ 2 ^ v * 2 ^ j = ap (λ (i : ℕ). 2 ^ i) w ∙ pow-add 2 v j in
        let b : n ≤ 2 ^ v = le_of_mul-le-mul_right (subst (λ (i : ℕ). n * 2 ^ j ≤ i) p h) (pow_pos j) in
        let c : n + 1 ≤ 2 ^ v = odd_room v b in
        omega (arith, mul-le-mul_right (2 ^ j) c)

pub raise : (j m n : ℕ) → 2 * m ≡ n → m * 2 ^ suc j ≡ n * 2 ^ j
raise j m n e = ap (λ (i : ℕ). m * i) (pow-suc 2 j) ∙ omega arith ∙ ap (λ (i : ℕ). i * 2 ^ j) e

pub one_more : (j m n : ℕ) → m + 1 ≡ n → m * 2 ^ j + 2 ^ j ≡ n * 2 ^ j
one_more j m n e = omega arith ∙ ap (λ (i : ℕ). i * 2 ^ j) e

-- what is left of n fits one place further up
pub carry : (W j n : ℕ) → n * 2 ^ j ≤ 2 ^ W → rest n * 2 ^ suc j ≤ 2 ^ W
carry W j n k = go (n % 4) refl
  where
    go : (r : ℕ) → n % 4 ≡ r → rest n * 2 ^ suc j ≤ 2 ^ W
    go zero e = omega (arith, raise j (rest n) n (omega arith))
    go (suc zero) e = omega (arith, raise j (rest n) (n - 1) (omega arith), one_more j (n - 1) n (omega arith))
    go (suc (suc zero)) e = omega (arith, raise j (rest n) n (omega arith))
    go (suc (suc (suc r))) e =
        omega (arith, raise j (rest n) (n + 1) (omega arith), one_more j n (n + 1) refl, room W j n (omega arith) k)

-- ---- up from 0

up_step : (W j n r : ℕ) (q : List Term) → n % 4 ≡ r → 0 < n → n * 2 ^ j ≤ 2 ^ W → Down W (suc j) 0 (D (rest n)) (rest n * 2 ^ suc j) Two q
    → Down W j 0 (D n) (n * 2 ^ j) Two (q ++ term j (lowest r))
up_step W j n zero q e p h i =
    let t : rest n * 2 ^ suc j ≡ n * 2 ^ j = raise j (rest n) n (omega arith) in
    let d : D (rest n) ≡ D n = omega (arith, D_step n) in
    subst (λ (x : ℕ). Down W j 0 x (n * 2 ^ j) Two (q ++ [])) d
    (subst (λ (x : ℕ). Down W j 0 (D (rest n)) x Two (q ++ [])) t (keep W j 0 (D (rest n)) (rest n * 2 ^ suc j) Two q i))
up_step W j n (suc zero) q e p h i =
    let t : rest n * 2 ^ suc j ≡ (n - 1) * 2 ^ j = raise j (rest n) (n - 1) (omega arith) in
    let o : (n - 1) * 2 ^ j + 2 ^ j ≡ n * 2 ^ j = one_more j (n - 1) n (omega arith) in
    let d : D (rest n) + 1 ≡ D n = omega (arith, D_step n) in
    subst (λ (x : ℕ). Down W j 0 x (n * 2 ^ j) Two (q ++ more j ∷ [])) d
    (subst (λ (x : ℕ). Down W j 0 (D (rest n) + 1) x Two (q ++ more j ∷ [])) o
    (add_more W j 0 (D (rest n)) ((n - 1) * 2 ^ j) (n - 1) Two q (narrow W j n p h) refl (omega arith)
    (subst (λ (x : ℕ). Down W (suc j) 0 (D (rest n)) x Two q) t i)))
up_step W j n (suc (suc zero)) q e p h i =
    let t : rest n * 2 ^ suc j ≡ n * 2 ^ j = raise j (rest n) n (omega arith) in
    let d : D (rest n) ≡ D n = omega (arith, D_step n) in
    subst (λ (x : ℕ). Down W j 0 x (n * 2 ^ j) Two (q ++ [])) d
    (subst (λ (x : ℕ). Down W j 0 (D (rest n)) x Two (q ++ [])) t (keep W j 0 (D (rest n)) (rest n * 2 ^ suc j) Two q i))
up_step W j n (suc (suc (suc r))) q e p h i =
    let three : n % 4 ≡ 3 = omega arith in
    let t : rest n * 2 ^ suc j ≡ n * 2 ^ j + 2 ^ j = raise j (rest n) (n + 1) (omega arith) ∙ sym (one_more j n (n + 1) refl) in
    let d : D (rest n) + 1 ≡ D n = omega (arith, D_step n) in
    subst (λ (x : ℕ). Down W j 0 x (n * 2 ^ j) Two (q ++ less j ∷ [])) d
    (add_less W j 0 (D (rest n)) (n * 2 ^ j) n Two q (narrow W j n p h) refl (room W j n three h)
    (subst (λ (x : ℕ). Down W (suc j) 0 (D (rest n)) x Two q) t i))

nothing_up : (W j : ℕ) → Down W j 0 (D 0) (0 * 2 ^ j) Two []
nothing_up W j =
    let z : 0 ≡ 0 * 2 ^ j = omega arith in
    subst (λ (x : ℕ). Down W j 0 x (0 * 2 ^ j) Two []) (sym (D_none))
    (subst (λ (x : ℕ). Down W j 0 0 x Two []) z (start W j 0 Two (λ a h. sym (ap (λ (b : Bool). cond b One Two) (le-ltb a 0 (omega arith))))))

pub up_all : (W f j n : ℕ) → n ≤ f → n * 2 ^ j ≤ 2 ^ W → Down W j 0 (D n) (n * 2 ^ j) Two (terms j (write f n))
unfolding write
up_all W zero j zero h k = nothing_up W j
up_all W zero j (suc n) h k = absurd (omega arith)
up_all W (suc f) j zero h k = nothing_up W j
up_all W (suc f) j (suc n) h k =
    up_step W j (suc n) (suc n % 4) (terms (suc j) (write f (rest (suc n)))) refl (omega arith) k
    (up_all W f (suc j) (rest (suc n)) (omega arith) (carry W j (suc n) k))

-- ---- down from the whole: each digit the other way

unfoldable pub turn : Term → Term
turn (more j) = less j
turn (less j) = more j

unfoldable pub flip : List Term → List Term
flip [] = []
flip (m ∷ q) = turn m ∷ flip q

flip_append : (p q : List Term) → flip (p ++ q) ≡ flip p ++ flip q
unfolding flip
flip_append [] q = refl
flip_append (m ∷ p) q = ap (λ (x : List Term). turn m ∷ x) (flip_append p q)

pub above_flip : (W u : ℕ) (q : List Term) → from_above W u q ≡ from_below W u (flip q)
unfolding from_above from_below flip turn
above_flip W u [] = refl
above_flip W u (more j ∷ q) = ap (λ (x : List Rule). block W (u - 2 ^ j) j Two ∷ x) (above_flip W (u - 2 ^ j) q)
above_flip W u (less j ∷ q) = ap (λ (x : List Rule). block W u j One ∷ x) (above_flip W (u + 2 ^ j) q)

-- the rest of the whole is a number of blocks too
others : (W j n : ℕ) → j ≤ W → n * 2 ^ j ≤ 2 ^ W → (m : ℕ) × (2 ^ W - n * 2 ^ j ≡ m * 2 ^ j)
others W j n h k =
    let w : W ≡ (W - j) + j = omega arith in
    let s : 2 ^ W ≡ 2 ^ (W - j) * 2 ^ j = ap (λ (i : ℕ). 2 ^ i) w ∙ pow-add 2 (W - j) j in
    let l : n ≤ 2 ^ (W - j) = le_of_mul-le-mul_right (subst (λ (i : ℕ). n * 2 ^ j ≤ i) s k) (pow_pos j) in
    let v : 2 ^ (W - j) ≡ n + (2 ^ (W - j) - n) = omega arith in
    let t : 2 ^ (W - j) * 2 ^ j ≡ n * 2 ^ j + (2 ^ (W - j) - n) * 2 ^ j = ap (λ (i : ℕ). i * 2 ^ j) v ∙ add-mul n (2 ^ (W - j) - n) (2 ^ j) in
    (2 ^ (W - j) - n, omega arith)

down_step : (W j n r : ℕ) (q : List Term) → n % 4 ≡ r → 0 < n → n * 2 ^ j ≤ 2 ^ W → Down W (suc j) (2 ^ W) (D (rest n)) (2 ^ W - rest n * 2 ^ suc j) One q
    → Down W j (2 ^ W) (D n) (2 ^ W - n * 2 ^ j) One (q ++ flip (term j (lowest r)))
unfolding flip turn
down_step W j n zero q e p h i =
    let t : 2 ^ W - rest n * 2 ^ suc j ≡ 2 ^ W - n * 2 ^ j = omega (arith, raise j (rest n) n (omega arith)) in
    let d : D (rest n) ≡ D n = omega (arith, D_step n) in
    subst (λ (x : ℕ). Down W j (2 ^ W) x (2 ^ W - n * 2 ^ j) One (q ++ [])) d
    (subst (λ (x : ℕ). Down W j (2 ^ W) (D (rest n)) x One (q ++ [])) t (keep W j (2 ^ W) (D (rest n)) (2 ^ W - rest n * 2 ^ suc j) One q i))
down_step W j n (suc zero) q e p h i =
    let l : j ≤ W = narrow W j n p h in
    let m = others W j n l h in
    let t : 2 ^ W - rest n * 2 ^ suc j ≡ 2 ^ W - n * 2 ^ j + 2 ^ j = omega (arith, raise j (rest n) (n - 1) (omega arith), one_more j (n - 1) n (omega arith)) in
    let d : D (rest n) + 1 ≡ D n = omega (arith, D_step n) in
    subst (λ (x : ℕ). Down W j (2 ^ W) x (2 ^ W - n * 2 ^ j) One (q ++ less j ∷ [])) d
    (add_less W j (2 ^ W) (D (rest n)) (2 ^ W - n * 2 ^ j) m.0 One q l m.1 (omega (arith, one_more j (n - 1) n (omega arith)))
    (subst (λ (x : ℕ). Down W (suc j) (2 ^ W) (D (rest n)) x One q) t i))
down_step W j n (suc (suc zero)) q e p h i =
    let t : 2 ^ W - rest n * 2 ^ suc j ≡ 2 ^ W - n * 2 ^ j = omega (arith, raise j (rest n) n (omega arith)) in
    let d : D (rest n) ≡ D n = omega (arith, D_step n) in
    subst (λ (x : ℕ). Down W j (2 ^ W) x (2 ^ W - n * 2 ^ j) One (q ++ [])) d
    (subst (λ (x : ℕ). Down W j (2 ^ W) (D (rest n)) x One (q ++ [])) t (keep W j (2 ^ W) (D (rest n)) (2 ^ W - rest n * 2 ^ suc j) One q i))
down_step W j n (suc (suc (suc r))) q e p h i =
    let three : n % 4 ≡ 3 = omega arith in
    let l : j ≤ W = narrow W j n p h in
    let c = room W j n three h in
    let o = one_more j n (n + 1) refl in
    let m = others W j (n + 1) l (omega arith) in
    let t : 2 ^ W - rest n * 2 ^ suc j ≡ 2 ^ W - (n + 1) * 2 ^ j = omega (arith, raise j (rest n) (n + 1) (omega arith)) in
    let v : 2 ^ W - (n + 1) * 2 ^ j + 2 ^ j ≡ 2 ^ W - n * 2 ^ j = omega arith in
    let d : D (rest n) + 1 ≡ D n = omega (arith, D_step n) in
    subst (λ (x : ℕ). Down W j (2 ^ W) x (2 ^ W - n * 2 ^ j) One (q ++ more j ∷ [])) d
    (subst (λ (x : ℕ). Down W j (2 ^ W) (D (rest n) + 1) x One (q ++ more j ∷ [])) v
    (add_more W j (2 ^ W) (D (rest n)) (2 ^ W - (n + 1) * 2 ^ j) m.0 One q l m.1 (omega arith)
    (subst (λ (x : ℕ). Down W (suc j) (2 ^ W) (D (rest n)) x One q) t i)))

nothing_down : (W j : ℕ) → Down W j (2 ^ W) (D 0) (2 ^ W - 0 * 2 ^ j) One []
nothing_down W j =
    let z : 2 ^ W ≡ 2 ^ W - 0 * 2 ^ j = omega arith in
    subst (λ (x : ℕ). Down W j (2 ^ W) x (2 ^ W - 0 * 2 ^ j) One []) (sym (D_none))
    (subst (λ (x : ℕ). Down W j (2 ^ W) 0 x One []) z (start W j (2 ^ W) One (λ a h. sym (ap (λ (b : Bool). cond b One Two) (lt-ltb a (2 ^ W) h)))))

pub down_all : (W f j n : ℕ) → n ≤ f → n * 2 ^ j ≤ 2 ^ W → Down W j (2 ^ W) (D n) (2 ^ W - n * 2 ^ j) One (flip (terms j (write f n)))
unfolding write flip
down_all W zero j zero h k = nothing_down W j
down_all W zero j (suc n) h k = absurd (omega arith)
down_all W (suc f) j zero h k = nothing_down W j
down_all W (suc f) j (suc n) h k =
    subst (λ (x : List Term). Down W j (2 ^ W) (D (suc n)) (2 ^ W - suc n * 2 ^ j) One x)
    (sym (flip_append (terms (suc j) (write f (rest (suc n)))) (term j (lowest (suc n % 4)))))
    (down_step W j (suc n) (suc n % 4) (flip (terms (suc j) (write f (rest (suc n))))) refl (omega arith) k
    (down_all W f (suc j) (rest (suc n)) (omega arith) (carry W j (suc n) k)))
