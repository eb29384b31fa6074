-- What a change writes of one rule.
use Rattle.std.specs.Prelude.{ℕ, cond, List, Some, None, Option}
use Rattle.model.specs.declared.write.Write.{Write}
use Rattle.model.specs.declared.write.Write.TheVariants.{Remove, Put}
use Rattle.model.specs.Changes.{lack_prefix, lack_rule}
use Rattle.model.specs.Keyed.{rules_of}
use Rattle.switch.specs.declared.tables.TaggedRule.{TaggedRule}

-- The removal of a standing rule, where the coming weights are ds, and the put of a coming rule, where the standing weights are ds.
abbrev pub removal : ℕ → List (Option ℕ) → TaggedRule → Option Write
removal W ds r = cond (lack_prefix (rules_of W ds r.tag) r.key_rule) (Some (Remove r.key_rule.prefix)) None

abbrev pub placement : ℕ → List (Option ℕ) → TaggedRule → Option Write
placement W ds r = cond (lack_rule (rules_of W ds r.tag) r.key_rule) (Some (Put r.key_rule)) None
