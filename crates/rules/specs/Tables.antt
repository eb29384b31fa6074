-- The table of a weight, in its set order.
use Rattle.std.specs.Prelude.{◌≡◌, ℕ, suc, ◌+◌, ◌-◌, ◌^◌, ◌<◌, true, cond, List, [], ◌∷◌, ◌++◌, reverse, length, nat_le, nat_lt}
use Rattle.std.specs.List.{AllByRecursion}
use Rattle.rules.specs.declared.rule.Rule.{Rule}
use Rattle.rules.specs.declared.server.Server.{Server}
use Rattle.rules.specs.declared.server.Server.TheVariants.{One, Two}
use Rattle.rules.specs.Digits.{Digit, minus, nought, plus, digits, D}
use Rattle.rules.specs.Prefixes.{all_fit, Longest}
use Rattle.rules.specs.Shortest.{L, Splits, LeastRules}

-- A digit other than 0 with its place j: 2 ^ j more, or 2 ^ j less.
pub data Term : Type 0 where
  more : ℕ → Term
  less : ℕ → Term

abbrev pub term : ℕ → Digit → List Term
term j minus = less j ∷ []
term j nought = []
term j plus = more j ∷ []

-- The terms of some digits, the highest first, where the lowest of the digits stands at the place j.
abbrev pub terms : ℕ → List Digit → List Term
terms j [] = []
terms j (d ∷ q) = terms (suc j) q ++ term j d

-- The rule for the 2 ^ j addresses from s on, and the rule for all addresses.
abbrev pub block : ℕ → ℕ → ℕ → Server → Rule
block W s j x = record { start = s; length = W - j; server = x }

abbrev pub all_to : Server → Rule
all_to x = record { start = 0; length = 0; server = x }

-- Server 1 has the addresses below u. From below: each term more sends the next 2 ^ j addresses to server 1, each term less takes the last 2 ^ j back.
unfoldable pub from_below : ℕ → ℕ → List Term → List Rule
from_below W u [] = []
from_below W u (more j ∷ q) = block W u j One ∷ from_below W (u + 2 ^ j) q
from_below W u (less j ∷ q) = block W (u - 2 ^ j) j Two ∷ from_below W (u - 2 ^ j) q

-- From above, with the terms of what server 2 is to have: each term more sends the last 2 ^ j addresses to server 2, each term less gives 2 ^ j back.
unfoldable pub from_above : ℕ → ℕ → List Term → List Rule
from_above W u [] = []
from_above W u (more j ∷ q) = block W (u - 2 ^ j) j Two ∷ from_above W (u - 2 ^ j) q
from_above W u (less j ∷ q) = block W u j One ∷ from_above W (u + 2 ^ j) q

-- The table of weight d: from below unless the other server's part has fewer digits.
unfoldable pub table : ℕ → ℕ → List Rule
table W d =
    cond (nat_le (D d) (D (2 ^ W - d)))
    (all_to Two ∷ from_below W 0 (terms 0 (digits d)))
    (all_to One ∷ from_above W (2 ^ W) (terms 0 (digits (2 ^ W - d))))

-- Each rule's prefix is longer than those before it, so no prefix stands twice.
abbrev pub Rising : List Rule → Type 0
Rising [] = Unit {0}
Rising (r ∷ rs) = AllByRecursion (λ q. r.length < q.length) rs × Rising rs

-- Server 1 for the addresses below d, server 2 for the others.
abbrev pub side : ℕ → ℕ → Server
side d a = cond (nat_lt a d) One Two

-- What makes a list of rules a shortest table of weight d: its rules fit, their lengths rise, the longest match sends exactly the addresses below
-- d to server 1, and so does the first match from the back; it has L W d rules, and no list that gives server 1 as many addresses has fewer.
pub record ShortestTable (W d : ℕ) (rs : List Rule) : Type 0 where
  pub fit : all_fit W rs ≡ true
  pub rising : Rising rs
  pub sends : (a : ℕ) → a < 2 ^ W → (r : Rule) × Longest W rs a r × (r.server ≡ side d a)
  pub splits : Splits W d (reverse rs)
  pub long : length rs ≡ L W d
  pub least : LeastRules W d (length rs)
