-- How far a weight d misses a target c at width W.
use Rattle.std.specs.Prelude.{◌≡◌, ℕ, ◌+◌, ◌-◌, ◌^◌, ◌≤◌, Bool, true, false, cond, not, ◌&&◌, nat_le}
use Rattle.rules.specs.Grounds.{bad_width}

-- A measure gives a miss to a width, a target and a weight, in this order.
abbrev pub Misses : Type 0
Misses = ℕ → ℕ → ℕ → ℕ

-- The width is 1 to 24, and neither target nor weight is above 2 ^ W.
abbrev pub in_range : ℕ → ℕ → ℕ → Bool
in_range W c d = not (bad_width W) && (nat_le c (2 ^ W) && nat_le d (2 ^ W))

-- What every measure must show: it is never above 2 ^ 40, and just that out of range; the target itself is a hit; of two weights x and y on one
-- side of the target the farther, x, never has the smaller miss.
pub record Lawful (miss : Misses) : Type 0 where
  pub bounded : (W c d : ℕ) → miss W c d ≤ 2 ^ 40
  pub outside : (W c d : ℕ) → in_range W c d ≡ false → miss W c d ≡ 2 ^ 40
  pub exact : (W c : ℕ) → in_range W c c ≡ true → miss W c c ≡ 0
  pub lighter : (W c x y : ℕ) → in_range W c x ≡ true → x ≤ y → y ≤ c → miss W c y ≤ miss W c x
  pub heavier : (W c x y : ℕ) → in_range W c x ≡ true → c ≤ y → y ≤ x → miss W c y ≤ miss W c x

-- A measure by a formula that counts where all is in range.
abbrev pub ranged : Misses → Misses
ranged formula W c d = cond (in_range W c d) (formula W c d) (2 ^ 40)

-- The distance of two numbers: one of the differences is 0.
abbrev pub dist : ℕ → ℕ → ℕ
dist a b = (a - b) + (b - a)
