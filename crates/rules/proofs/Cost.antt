-- What adding w can do to D: n at most, either way.
use Rattle.std.proofs.Common.{◌≡◌, ℕ, suc, ◌+◌, ◌*◌, ◌^◌, ◌≤◌, ap, inl, inr, arith}
use Rattle.rules.specs.Digits.{D}
use Rattle.rules.proofs.DigitCount.{D_none, D_even, D_odd, D_up, D_down, Parity, parity}

pub record Cost (n w : ℕ) : Type 0 where
  pub up : (x : ℕ) → D (w + x) ≤ D x + n
  pub down : (x : ℕ) → D x ≤ D (w + x) + n

pub cost_zero : (n w : ℕ) → w ≡ 0 → Cost n w
cost_zero n w e = record {
  up = λ x. let p : w + x ≡ x = omega arith in omega (arith, ap D p);
  down = λ x. let p : w + x ≡ x = omega arith in omega (arith, ap D p);
}

pub cost_more : (m n w : ℕ) → m ≤ n → Cost m w → Cost n w
cost_more m n w h c = record { up = λ x. omega (arith, c.up x); down = λ x. omega (arith, c.down x) }

pub cost_add : (m n v w : ℕ) → Cost m v → Cost n w → Cost (m + n) (v + w)
cost_add m n v w b c = record {
  up = λ x. let p : v + w + x ≡ v + (w + x) = omega arith in omega (arith, ap D p, b.up (w + x), c.up x);
  down = λ x. let p : v + w + x ≡ v + (w + x) = omega arith in omega (arith, ap D p, b.down (w + x), c.down x);
}

-- the other part of a power of two costs one more
pub cost_flip : (n j v w : ℕ) → v + w ≡ 2 ^ j → Cost n v → Cost (suc n) w
cost_flip n j v w e c = record {
  up = λ x. let p : v + (w + x) ≡ x + 2 ^ j = omega arith in omega (arith, ap D p, c.down (w + x), D_up x j);
  down = λ x. let p : v + (w + x) ≡ x + 2 ^ j = omega arith in omega (arith, ap D p, c.up (w + x), D_down x j);
}

pub cost_D : (n w : ℕ) → Cost n w → D w ≤ n
cost_D n w c = let p : w + 0 ≡ w = omega arith in omega (arith, ap D p, c.up 0, D_none)

pub cost_one : Cost 1 1
cost_one = record {
  up = λ x. let p : 1 + x ≡ x + 1 = omega arith in omega (arith, ap D p, D_up x 0);
  down = λ x. let p : 1 + x ≡ x + 1 = omega arith in omega (arith, ap D p, D_down x 0);
}

pub cost_double : (n w : ℕ) → Cost n w → Cost n (2 * w)
cost_double n w c = record { up = λ x. go_up x (parity x); down = λ x. go_down x (parity x) }
  where
    go_up : (x : ℕ) → Parity x → D (2 * w + x) ≤ D x + n
    go_up x (inl (m, e)) = omega (arith, D_even x m e, D_even (2 * w + x) (w + m) (omega arith), c.up m)
    go_up x (inr (m, e)) =
        let p : w + m + 1 ≡ w + (m + 1) = omega arith in
        omega (arith, D_odd x m e, D_odd (2 * w + x) (w + m) (omega arith), c.up m, c.up (m + 1), ap D p)

    go_down : (x : ℕ) → Parity x → D x ≤ D (2 * w + x) + n
    go_down x (inl (m, e)) = omega (arith, D_even x m e, D_even (2 * w + x) (w + m) (omega arith), c.down m)
    go_down x (inr (m, e)) =
        let p : w + m + 1 ≡ w + (m + 1) = omega arith in
        omega (arith, D_odd x m e, D_odd (2 * w + x) (w + m) (omega arith), c.down m, c.down (m + 1), ap D p)
