-- Rules in rows, longer prefixes ahead of shorter ones: what the rows hold, and which of them answers.
use Rattle.std.specs.Prelude.{ℕ, suc, Bool, true, cond, ◌&&◌, List, [], ◌∷◌, Some, None, Option, nat_le}
use Rattle.rules.specs.declared.server.Server.{Server}
use Rattle.memory.specs.declared.key.Prefix.{Prefix}
use Rattle.memory.specs.declared.key.KeyRule.{KeyRule}
use Rattle.memory.specs.declared.row.Row.{Row}
use Rattle.memory.specs.Holding.{Held, same_prefix, prefixes_of, listed}

abbrev pub rules_in : List Row → List KeyRule
rules_in [] = []
rules_in (r ∷ rs) = r.rule ∷ rules_in rs

abbrev pub row_prefixes : List Row → List Prefix
row_prefixes rs = prefixes_of (rules_in rs)

-- What the rows hold.
abbrev pub in_rows : List Row → Held
in_rows rs = listed (rules_in rs)

-- No prefix is longer than one ahead of it, or than n.
abbrev pub falling : ℕ → List Prefix → Bool
falling n [] = true
falling n (p ∷ ps) = nat_le p.length n && falling p.length ps

abbrev pub named : Row → ℕ → ℕ → Bool
named r v l = same_prefix r.rule.prefix v l

-- The row of a prefix, or the number of rows.
abbrev pub row_of : List Row → ℕ → ℕ → ℕ
row_of [] v l = 0
row_of (r ∷ rs) v l = cond (named r v l) 0 (suc (row_of rs v l))

-- The row ahead of which a prefix of length n comes: the first that is no longer.
abbrev pub place_of : List Row → ℕ → ℕ
place_of [] n = 0
place_of (r ∷ rs) n = cond (nat_le r.rule.prefix.length n) 0 (suc (place_of rs n))

abbrev pub matches : Row → ℕ → Bool
matches r key = nat_le r.rule.prefix.value key && nat_le key r.last

-- The first row that matches answers.
abbrev pub first_match : List Row → ℕ → Option Server
first_match [] key = None
first_match (r ∷ rs) key = cond (matches r key) (Some r.rule.server) (first_match rs key)
