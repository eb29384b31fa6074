-- The relative measure.
use Rattle.std.specs.Prelude.{ℕ, zero, suc, ◌-◌, ◌*◌, ◌/◌, ◌^◌, cond, nat_lt}
use Rattle.plan.specs.Measures.{Misses, ranged}

-- Thousandths of a whole, rounded down. What goes to a server that should get nothing is beyond comparison.
abbrev pub thousandths : ℕ → ℕ → ℕ
thousandths part zero = 2 ^ 40
thousandths part (suc whole) = 1000 * part / suc whole

-- Above the target server 1 gets too much, and should get c. Below it server 2 does, and should get the rest.
abbrev pub excess : Misses
excess W c d = cond (nat_lt c d) (thousandths (d - c) c) (cond (nat_lt d c) (thousandths (c - d) (2 ^ W - c)) 0)

unfoldable pub relative : Misses
relative W c d = ranged excess W c d
