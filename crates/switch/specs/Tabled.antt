-- The rules of all tables, each under the tag of its service.
use Rattle.std.specs.Prelude.{ℕ, List, [], map, Some, None, Option, slice_index_or}
use Rattle.std.specs.List.{flat_map}
use Rattle.rules.specs.declared.rule.Rule.{Rule}
use Rattle.rules.specs.declared.table.Table.{Table}
use Rattle.rules.specs.Walk.{to_come}
use Rattle.model.specs.Keyed.{keyed, tags, table_of}
use Rattle.switch.specs.declared.tables.TaggedRule.{TaggedRule}

-- A rule of a service's table, and the same in the keys of its tag.
abbrev pub tagged : ℕ → ℕ → Rule → TaggedRule
tagged W t r = record { tag = t; rule = r; key_rule = keyed W t r }

-- The rules of the service under the tag t, in table order, where ds has the weight of each service by tag.
unfoldable pub tagged_of : ℕ → List (Option ℕ) → ℕ → List TaggedRule
tagged_of W ds t = map (tagged W t) (table_of W (slice_index_or ds t None))

-- The rules of all services, by rising tag and in table order.
unfoldable pub tagged_rules : ℕ → List (Option ℕ) → List TaggedRule
tagged_rules W ds = flat_map (tagged_of W ds) tags

-- The rules that a table has still to give, if there is one.
abbrev pub left_in : Option Table → List Rule
left_in None = []
left_in (Some t) = to_come t
