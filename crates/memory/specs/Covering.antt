-- Which prefix of a length covers a key.
use Rattle.std.specs.Prelude.{◌≡◌, ℕ, ◌+◌, ◌-◌, ◌*◌, ◌/◌, ◌%◌, ◌^◌, ◌<◌, ◌≤◌, true, ◌&&◌, ◌==◌, nat_le, nat_lt}
use Rattle.std.proofs.Common.{sym, ap, subst, ◌∙◌, arith, mod-lt, mod-eq_of_lt, div-add-mod', add-mul, mul-le-mul_right, pow-add, pow_pos, shr_lt}
use Rattle.std.proofs.Math.Nat.{mod-le, add-mul-mod_self_right, mul-mod_left}
use Rattle.std.proofs.lemmas.Bool.{and_parts, and_from, eqb-true, eq-eqb, leb-true, le-leb, ltb-true, lt-ltb}
use Rattle.memory.specs.Keys.{formed, Covers, cut}

-- the three parts of the layout
pub formed_parts : (v l : ℕ) → formed v l ≡ true → (l ≤ 32) × (v < 2 ^ 32) × (v % 2 ^ (32 - l) ≡ 0)
formed_parts v l f =
    let a = and_parts (nat_le l 32) (nat_lt v (2 ^ 32) && v % 2 ^ (32 - l) == 0) f in
    let b = and_parts (nat_lt v (2 ^ 32)) (v % 2 ^ (32 - l) == 0) a.1 in
    (leb-true l 32 a.0, ltb-true v (2 ^ 32) b.0, eqb-true (v % 2 ^ (32 - l)) 0 b.1)

-- what a length keeps of a key is well formed
pub cut_formed : (key l : ℕ) → key < 2 ^ 32 → l ≤ 32 → formed (cut key l) l ≡ true
cut_formed key l small le =
    let whole : cut key l ≡ key / 2 ^ (32 - l) * 2 ^ (32 - l) = omega (arith, div-add-mod' key (2 ^ (32 - l))) in
    and_from _ _ (le-leb l 32 le)
    (and_from _ _ (lt-ltb (cut key l) (2 ^ 32) (omega arith))
    (eq-eqb (cut key l % 2 ^ (32 - l)) 0 (ap (λ x. x % 2 ^ (32 - l)) whole ∙ mul-mod_left (key / 2 ^ (32 - l)) (2 ^ (32 - l)))))

pub cut_covers : (key l : ℕ) → key < 2 ^ 32 → l ≤ 32 → Covers (cut key l) l key
cut_covers key l small le = (cut_formed key l small le, omega arith, omega (arith, mod-lt key (pow_pos (32 - l)), mod-le key (2 ^ (32 - l))))

-- the prefix of a length that covers a key is what the length keeps of the key
pub covers_cut : (v l key : ℕ) → Covers v l key → v ≡ cut key l
covers_cut v l key c =
    let whole = (formed_parts v l c.0).2 in
    let d = div-add-mod' v (2 ^ (32 - l)) in
    let e : key ≡ (key - v) + v / 2 ^ (32 - l) * 2 ^ (32 - l) = omega (arith, d, whole, c.1) in
    let m : key % 2 ^ (32 - l) ≡ key - v = ap (λ x. x % 2 ^ (32 - l)) e ∙ add-mul-mod_self_right (key - v) (v / 2 ^ (32 - l)) (2 ^ (32 - l)) ∙ mod-eq_of_lt (omega (arith, c.1, c.2)) in
    omega (arith, m, c.1)

-- the keys of a prefix end at 2^32 at the latest
pub last_key : (v l : ℕ) → formed v l ≡ true → v + 2 ^ (32 - l) ≤ 2 ^ 32
last_key v l f =
    let parts = formed_parts v l f in
    let bits : l + (32 - l) ≡ 32 = omega (arith, parts.0) in
    let all : 2 ^ 32 ≡ 2 ^ l * 2 ^ (32 - l) = ap (λ n. 2 ^ n) (sym bits) ∙ pow-add 2 l (32 - l) in
    let below : v < 2 ^ (l + (32 - l)) = subst (λ n. v < 2 ^ n) (sym bits) parts.1 in
    let more : v / 2 ^ (32 - l) + 1 ≤ 2 ^ l = omega (arith, shr_lt l (32 - l) below) in
    omega (arith, all, parts.2, div-add-mod' v (2 ^ (32 - l)), add-mul (v / 2 ^ (32 - l)) 1 (2 ^ (32 - l)), mul-le-mul_right (2 ^ (32 - l)) more)
