-- How the counter goes about it: blocks of addresses, cut into halves.
use Rattle.std.specs.Prelude.{◌≡◌, ℕ, ◌+◌, ◌-◌, ◌*◌, ◌^◌, Bool, ◌&&◌, List, Some, None, Option, nat_lt}
use Rattle.rules.specs.declared.counter.Shares.{Shares}
use Rattle.rules.specs.declared.rule.Rule.{Rule}
use Rattle.rules.specs.declared.server.Server.{Server}
use Rattle.rules.specs.declared.server.Server.TheVariants.{One, Two}
use Rattle.rules.specs.Prefixes.{first_match, same, tally, answered}

-- How many of the n addresses from s on are answered with x.
abbrev pub in_block : ℕ → List Rule → Option Server → ℕ → ℕ → ℕ
in_block W rs x s n = tally (λ i. same x (first_match W rs (s + i))) n

pub record Shared (W : ℕ) (rs : List Rule) (s n : ℕ) (r : Shares) : Type 0 where
  pub one : r.one ≡ in_block W rs (Some One) s n
  pub two : r.two ≡ in_block W rs (Some Two) s n
  pub unmatched : r.unmatched ≡ in_block W rs None s n

-- All n addresses have the answer x.
abbrev pub whole_block : Option Server → ℕ → Shares
whole_block x n = record { one = same (Some One) x * n; two = same (Some Two) x * n; unmatched = same None x * n }

-- A rule meets the n addresses from s on.
abbrev pub meets : ℕ → ℕ → ℕ → Rule → Bool
meets W s n r = nat_lt r.start (s + n) && nat_lt s (r.start + 2 ^ (W - r.length))

-- The shares of all addresses.
pub record Totals (W : ℕ) (rs : List Rule) (r : Shares) : Type 0 where
  pub one : r.one ≡ answered W rs (Some One)
  pub two : r.two ≡ answered W rs (Some Two)
  pub unmatched : r.unmatched ≡ answered W rs None
  pub all : r.one + r.two + r.unmatched ≡ 2 ^ W
