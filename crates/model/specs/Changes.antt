-- The steps of a change from the tables of some weights to those of others, one rule each, in their set order.
use Rattle.std.specs.Prelude.{ℕ, zero, suc, Bool, not, List, [], ◌∷◌, ◌++◌, map, is_some, Some, None, filter, Option}
use Rattle.std.specs.List.{flat_map}
use Rattle.memory.specs.declared.key.KeyRule.{KeyRule}
use Rattle.memory.specs.Holding.{Held, at, same_server, listed}
use Rattle.memory.specs.Writes.{written}
use Rattle.model.specs.declared.write.Write.{Write}
use Rattle.model.specs.declared.write.Write.TheVariants.{Remove, Put}
use Rattle.model.specs.Keyed.{tags, rules_of}

-- The rules lack the prefix of r; they lack it or send it to the other server.
abbrev pub lack_prefix : List KeyRule → KeyRule → Bool
lack_prefix rs r = not (is_some (at (listed rs) r.prefix))

abbrev pub lack_rule : List KeyRule → KeyRule → Bool
lack_rule rs r = not (same_server (at (listed rs) r.prefix) r.server)

-- Of one table: removed is each prefix of the standing rules that the coming rules lack, put is each coming rule that the standing rules lack or
-- send to the other server.
abbrev pub removed : List KeyRule → List KeyRule → List KeyRule
removed standing coming = filter (lack_prefix coming) standing

abbrev pub put : List KeyRule → List KeyRule → List KeyRule
put standing coming = filter (lack_rule standing) coming

abbrev pub remove : KeyRule → Write
remove r = Remove r.prefix

-- Of all tables, by rising tag and in table order: all removals, and all puts.
unfoldable pub removals : ℕ → List (Option ℕ) → List (Option ℕ) → List KeyRule
removals W standing coming = flat_map (λ t. removed (rules_of W standing t) (rules_of W coming t)) tags

unfoldable pub puts : ℕ → List (Option ℕ) → List (Option ℕ) → List KeyRule
puts W standing coming = flat_map (λ t. put (rules_of W standing t) (rules_of W coming t)) tags

-- The steps: removals first, so that what they free serves the puts.
unfoldable pub steps : ℕ → List (Option ℕ) → List (Option ℕ) → List Write
steps W standing coming = map remove (removals W standing coming) ++ map Put (puts W standing coming)

-- The write at a place, the first at 0, if there are so many.
abbrev pub write_at : List Write → ℕ → Option Write
write_at [] n = None
write_at (w ∷ ws) zero = Some w
write_at (w ∷ ws) (suc n) = write_at ws n

-- What is held after one write, and after some.
abbrev pub after_write : Held → Write → Held
after_write held (Remove p) = written held p None
after_write held (Put r) = written held r.prefix (Some r.server)

unfoldable pub altered : Held → List Write → Held
altered held [] = held
altered held (w ∷ ws) = altered (after_write held w) ws
