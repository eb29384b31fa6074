-- What the counter answers.
use Rattle.std.specs.Prelude.{◌≡◌, ℕ, ◌+◌, ◌^◌, ◌<◌, List, length, Some, None, MatchOption}
use Rattle.rules.specs.declared.counter.Count.{Count}
use Rattle.rules.specs.declared.rule.Rule.{Rule}
use Rattle.rules.specs.declared.server.Server.TheVariants.{One, Two}
use Rattle.rules.specs.Prefixes.{answered}
use Rattle.rules.specs.Shortest.{L}

-- The addresses of each server and those that no rule matches, which are all there are. Where every address is matched, the excess is by how many
-- rules the list passes the fewest that give server 1 as many; with an address unmatched there is none.
pub record Counted (W : ℕ) (rs : List Rule) (c : Count) : Type 0 where
  pub one : c.one ≡ answered W rs (Some One)
  pub two : c.two ≡ answered W rs (Some Two)
  pub unmatched : c.unmatched ≡ answered W rs None
  pub all : c.one + c.two + c.unmatched ≡ 2 ^ W
  pub excess : MatchOption c.excess (0 < c.unmatched) (λ x. (c.unmatched ≡ 0) × (x + L W c.one ≡ length rs))
