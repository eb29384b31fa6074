-- The rules of all tables one after the other.
use Rattle.std.specs.Prelude.{◌≡◌, ◌+◌, ◌-◌, List, [], ◌∷◌, ◌++◌, map, Option, MatchOption}
use Rattle.std.specs.List.{flat_map}
use Rattle.model.specs.Keyed.{from}
use Rattle.switch.specs.declared.tables.TaggedRule.{TaggedRule}
use Rattle.switch.specs.declared.tables.TaggedRules.{TaggedRules}
use Rattle.switch.specs.Tabled.{tagged, tagged_of, left_in}

-- The rules that are still to be given: those left in the table at hand, and those of the tags behind.
unfoldable pub rules_left : TaggedRules → List TaggedRule
rules_left s = map (tagged s.tables.width.bits s.tag) (left_in s.table) ++ flat_map (tagged_of s.tables.width.bits s.tables.weights.now) (from (63 - s.tag) (s.tag + 1))

-- One rule is taken off the front, or there was none.
abbrev pub Gives : TaggedRules → Option TaggedRule → TaggedRules → Type 0
Gives s r s' = MatchOption r ((rules_left s ≡ []) × (rules_left s' ≡ [])) (λ rule. rules_left s ≡ rule ∷ rules_left s')
