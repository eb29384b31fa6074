-- The services of a switch in one rule memory: each has the keys of its tag.
use Rattle.std.specs.Prelude.{ℕ, zero, suc, ◌+◌, ◌-◌, ◌*◌, ◌^◌, List, [], ◌∷◌, map, Some, None, Option, slice_index_or}
use Rattle.std.specs.List.{flat_map}
use Rattle.rules.specs.declared.rule.Rule.{Rule}
use Rattle.rules.specs.Tables.{table}
use Rattle.memory.specs.declared.key.KeyRule.{KeyRule}
use Rattle.memory.specs.Holding.{Held, listed}

-- The key of an address: the tag t, then the W bits of the address a.
abbrev pub key : ℕ → ℕ → ℕ → ℕ
key W t a = t * 2 ^ W + a

-- A rule of a service as a key rule: ahead of the bits that it fixes of an address, it fixes those of the tag.
abbrev pub keyed : ℕ → ℕ → Rule → KeyRule
keyed W t r = record { prefix = record { value = key W t r.start; length = 32 - W + r.length }; server = r.server }

-- The n numbers from t on, and the tags 0 to 63.
unfoldable pub from : ℕ → ℕ → List ℕ
from zero t = []
from (suc n) t = t ∷ from n (suc t)

unfoldable pub tags : List ℕ
tags = from 64 0

-- The table of a service that has a weight.
abbrev pub table_of : ℕ → Option ℕ → List Rule
table_of W None = []
table_of W (Some d) = table W d

-- The key rules of the service under the tag t, in table order, where ds has the weight of each service by tag.
unfoldable pub rules_of : ℕ → List (Option ℕ) → ℕ → List KeyRule
rules_of W ds t = map (keyed W t) (table_of W (slice_index_or ds t None))

-- The key rules of all services, by rising tag and in table order.
unfoldable pub key_rules : ℕ → List (Option ℕ) → List KeyRule
key_rules W ds = flat_map (rules_of W ds) tags

-- What a memory holds that has just those.
abbrev pub contents : ℕ → List (Option ℕ) → Held
contents W ds = listed (key_rules W ds)
