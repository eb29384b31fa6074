-- Keys of 32 bits and their prefixes. A prefix is a value and a length: it fixes the first `length` bits of a key to those of the value.
use Rattle.std.specs.Prelude.{◌≡◌, ℕ, ◌+◌, ◌-◌, ◌%◌, ◌^◌, ◌<◌, ◌≤◌, Bool, true, ◌&&◌, ◌==◌, nat_le, nat_lt}

-- A well-formed prefix: at most 32 bits long, and the bits of the value that it leaves open are 0, so that the value is a multiple of 2^(32 - length).
abbrev pub formed : ℕ → ℕ → Bool
formed v l = nat_le l 32 && (nat_lt v (2 ^ 32) && v % 2 ^ (32 - l) == 0)

-- A prefix covers the 2^(32 - length) keys from its value on.
abbrev pub Covers : ℕ → ℕ → ℕ → Type 0
Covers v l key = (formed v l ≡ true) × (v ≤ key) × (key < v + 2 ^ (32 - l))

-- The first l bits of a key, the others 0: the value of the one prefix of length l that covers the key.
abbrev pub cut : ℕ → ℕ → ℕ
cut key l = key - key % 2 ^ (32 - l)
