-- What writes and fittings do to a rule memory, accepted and refused.
use Rattle.std.specs.Prelude.{◌≡◌, ℕ, ◌+◌, Bool, cond, not, ◌&&◌, [], ◌∷◌, is_some, is_ok, Some, None, Option, Result, nat_le, nat_lt}
use Rattle.rules.specs.declared.server.Server.{Server}
use Rattle.rules.specs.declared.refusal.Refusal.{Refusal}
use Rattle.rules.specs.declared.refusal.Refusal.TheVariants.{AboveCeiling, BrokenLayout, MemoryFull}
use Rattle.rules.specs.Refusals.{◌when◌, first, refusal}
use Rattle.memory.specs.declared.key.Prefix.{Prefix}
use Rattle.memory.specs.declared.key.KeyRule.{KeyRule}
use Rattle.memory.specs.Keys.{formed}
use Rattle.memory.specs.Holding.{Held, at, same_prefix}

-- Whether a prefix that was handed in breaks its layout.
abbrev pub broken : Prefix → Bool
broken p = not (formed p.value p.length)

-- What is held once the prefix p has this server, or none; every other prefix is as it was.
abbrev pub written : Held → Prefix → Option Server → Held
written held p s v l = cond (same_prefix p v l) s (held v l)

-- A put adds a rule, or replaces the server at its prefix. It is refused for a prefix that breaks its layout, then for a new prefix
-- while the count is at or above the capacity, and otherwise never; refused, it changes nothing.
pub record Put {T : Type 0} (held held' : Held) (count count' capacity : ℕ) (rule : KeyRule) (r : Result T Refusal) : Type 0 where
  pub refused : refusal r ≡ first ((BrokenLayout when broken rule.prefix) ∷ (MemoryFull when (not (is_some (at held rule.prefix)) && nat_le capacity count)) ∷ [])
  pub holds : (v l : ℕ) → held' v l ≡ cond (is_ok r) (written held rule.prefix (Some rule.server) v l) (held v l)
  pub counts : count' ≡ count + cond (is_ok r && not (is_some (at held rule.prefix))) 1 0

-- A remove takes the rule at a prefix out, if one is there. It is refused for a prefix that breaks its layout, and otherwise never;
-- refused, it changes nothing.
pub record Removed {T : Type 0} (held held' : Held) (count count' : ℕ) (p : Prefix) (r : Result T Refusal) : Type 0 where
  pub refused : refusal r ≡ first ((BrokenLayout when broken p) ∷ [])
  pub holds : (v l : ℕ) → held' v l ≡ cond (is_ok r) (written held p None v l) (held v l)
  pub counts : count' + cond (is_ok r && is_some (at held p)) 1 0 ≡ count

-- A fitting sets the capacity and empties the memory. It is refused for a capacity above the memory's ceiling, and otherwise never;
-- refused, it changes nothing.
pub record Fitted {T : Type 0} (ceiling asked : ℕ) (held held' : Held) (count count' capacity capacity' : ℕ) (r : Result T Refusal) : Type 0 where
  pub refused : refusal r ≡ first ((AboveCeiling when nat_lt ceiling asked) ∷ [])
  pub holds : (v l : ℕ) → held' v l ≡ cond (is_ok r) None (held v l)
  pub counts : count' ≡ cond (is_ok r) 0 count
  pub fits : capacity' ≡ cond (is_ok r) asked capacity

-- A new memory holds nothing, and its capacity is 0.
pub record Fresh (held : Held) (count capacity : ℕ) : Type 0 where
  pub holds : (v l : ℕ) → held v l ≡ None
  pub counts : count ≡ 0
  pub fits : capacity ≡ 0
