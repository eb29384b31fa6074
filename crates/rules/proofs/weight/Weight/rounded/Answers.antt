use Rattle.std.proofs.Common.{◌≡◌, ℕ, ◌+◌, ◌-◌, ◌*◌, ◌/◌, ◌^◌, sym, ap₂, arith}
use Rattle.rules.specs.Digits.{after}
use Rattle.rules.proofs.Rounding.{after_is, after_bound}
use Rattle.rules.proofs.weight.Weight.rounded.Goals as goal

is : (n p u : ℕ) → u ≡ 2 ^ p → (3 * n / 2 ^ (p + 1) - n / 2 ^ (p + 1)) * u ≡ after p n * 2 ^ p
is n p u e = ap₂ (λ (i j : ℕ). i * j) (sym (after_is p n)) e

pub invariant_of-result : goal.invariant_of-result
invariant_of-result c =
    let d = c.args.self in
    record { inside = omega (arith, is d.addresses c.args.place _ c.power.ensures, after_bound d.width.bits c.args.place d.addresses d.inside) }

pub returns-clause-value : goal.returns-clause-value
returns-clause-value c = is c.args.self.addresses c.args.place _ c.power.ensures
