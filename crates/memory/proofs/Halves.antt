-- A prefix without its first bit.
use Rattle.std.proofs.Common.{◌≡◌, ℕ, zero, suc, ◌+◌, ◌-◌, ◌*◌, ◌%◌, ◌^◌, ◌<◌, ◌≤◌, sym, ap, ◌∙◌, mod-eq_of_lt, arith, pow-add}
use native.Mathlib.Nat.{two-pow-succ, add-mul-mod_self_right}
use Rattle.memory.specs.Tries.{half, Within}

pub double : (h : ℕ) → 0 < h → 2 ^ h ≡ half h + half h
double zero p = absurd (omega arith)
double (suc h) p = let e : suc h - 1 ≡ h = omega arith in two-pow-succ h ∙ ap (λ k. 2 ^ k + 2 ^ k) (sym e)

-- the first bit is a multiple of what the prefix leaves open
pub first_bit : (h n : ℕ) → 0 < n → n ≤ h → half h ≡ 2 ^ (n - 1) * 2 ^ (h - n)
first_bit h n p q = let e : h - 1 ≡ (n - 1) + (h - n) = omega arith in ap (λ k. 2 ^ k) e ∙ pow-add 2 (n - 1) (h - n)

pub rest_mod : (h n v : ℕ) → 0 < n → n ≤ h → half h ≤ v → v % 2 ^ (h - n) ≡ (v - half h) % 2 ^ (h - n)
rest_mod h n v p q r =
    let f = first_bit h n p q in
    let e : v ≡ (v - half h) + 2 ^ (n - 1) * 2 ^ (h - n) = omega (arith, f) in
    ap (λ x. x % 2 ^ (h - n)) e ∙ add-mul-mod_self_right (v - half h) (2 ^ (n - 1)) (2 ^ (h - n))

pub within_one : (h n v : ℕ) → Within h n v → 0 < n → half h ≤ v → Within (h - 1) (n - 1) (v - half h)
within_one h n v w p r =
    let d = double h (omega arith) in
    let e : (h - 1) - (n - 1) ≡ h - n = omega arith in
    (omega arith, omega (arith, d, w.1), ap (λ k. (v - half h) % 2 ^ k) e ∙ sym (rest_mod h n v p w.0 r) ∙ w.2)

pub within_zero : (h n v : ℕ) → Within h n v → 0 < n → v < half h → Within (h - 1) (n - 1) v
within_zero h n v w p r =
    let e : (h - 1) - (n - 1) ≡ h - n = omega arith in
    (omega arith, r, ap (λ k. v % 2 ^ k) e ∙ w.2)

pub within_none : (h v : ℕ) → Within h 0 v → v ≡ 0
within_none h v w =
    let e : h - 0 ≡ h = omega arith in
    sym (mod-eq_of_lt w.1) ∙ ap (λ k. v % 2 ^ k) (sym e) ∙ w.2
