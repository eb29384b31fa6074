-- Prefix rules over the addresses below 2 ^ W, and what a list of them does with an address.
use Rattle.std.specs.Prelude.{◌≡◌, ℕ, zero, suc, ◌+◌, ◌-◌, ◌%◌, ◌^◌, ◌<◌, ◌≤◌, Bool, true, cond, ◌&&◌, List, [], ◌∷◌, is_some, Some, None, Option, ◌==◌, nat_le, nat_lt}
use Rattle.std.specs.List.{ContainsAt, AllByRecursion, list_all}
use Rattle.rules.specs.declared.rule.Rule.{Rule}
use Rattle.rules.specs.declared.server.Server.{Server}
use Rattle.rules.specs.declared.server.Server.TheVariants.{One, Two}

-- The layout of a rule: a length of at most W, and a start inside the addresses that is a multiple of the number of addresses matched.
abbrev pub fits : ℕ → Rule → Bool
fits W r = nat_le r.length W && (nat_lt r.start (2 ^ W) && r.start % 2 ^ (W - r.length) == 0)

abbrev pub all_fit : ℕ → List Rule → Bool
all_fit W rs = list_all (fits W) rs

-- a is one of the n numbers from s on.
abbrev pub within : ℕ → ℕ → ℕ → Bool
within s n a = nat_le s a && nat_lt a (s + n)

-- A rule matches the 2 ^ (W - length) addresses from its start on.
abbrev pub matches : ℕ → Rule → ℕ → Bool
matches W r a = within r.start (2 ^ (W - r.length)) a

-- Of a list in any order, the first rule that matches decides.
abbrev pub first_match : ℕ → List Rule → ℕ → Option Server
first_match W [] a = None
first_match W (r ∷ rs) a = cond (matches W r a) (Some r.server) (first_match W rs a)

-- In a table the longest prefix decides: r is a rule of it that matches a, and none that matches a is longer.
pub record Longest (W : ℕ) (rs : List Rule) (a : ℕ) (r : Rule) : Type 0 where
  pub listed : ContainsAt rs r
  pub hit : matches W r a ≡ true
  pub longest : AllByRecursion (λ q. matches W q a ≡ true → q.length ≤ r.length) rs

-- 1 where the two answers are the same, else 0.
abbrev pub same : Option Server → Option Server → ℕ
same None None = 1
same None (Some y) = 0
same (Some x) None = 0
same (Some One) (Some One) = 1
same (Some One) (Some Two) = 0
same (Some Two) (Some One) = 0
same (Some Two) (Some Two) = 1

-- The sum of f over the numbers below n.
abbrev pub tally : (ℕ → ℕ) → ℕ → ℕ
tally f zero = 0
tally f (suc n) = tally f n + f n

-- How many of the 2 ^ W addresses the first match answers with x: a server, or None.
abbrev pub answered : ℕ → List Rule → Option Server → ℕ
answered W rs x = tally (λ a. same x (first_match W rs a)) (2 ^ W)

-- The weight of a list: how many addresses go to server 1.
abbrev pub weight : ℕ → List Rule → ℕ
weight W rs = answered W rs (Some One)

-- No address is left without a server.
abbrev pub Covers : ℕ → List Rule → Type 0
Covers W rs = (a : ℕ) → a < 2 ^ W → is_some (first_match W rs a) ≡ true
