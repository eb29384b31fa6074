use Rattle.std.proofs.Common.{◌≡◌, ℕ, ◌≤◌, cond, drop, None}
use Rattle.memory.specs.Holding.{among}
use Rattle.memory.proofs.contents.remove_all.Given as goal

-- what is left once the other prefixes are taken out too is what the memory held without all of them
abbrev pub invariant-loop-prefix : goal.invariant-loop-prefix
invariant-loop-prefix g l =
    ((v k : ℕ) → cond (among (drop l.prefix-index l.prefixes) v k) None (g.M.Reader.held_at l.memory v k) ≡ cond (among l.prefixes v k) None (g.M.Reader.held_at l.initial.memory v k))
    × (g.M.Reader.size l.memory ≤ g.M.Reader.size l.initial.memory)
    × (g.M.RuleMemory.limit l.memory ≡ g.M.RuleMemory.limit l.initial.memory)
