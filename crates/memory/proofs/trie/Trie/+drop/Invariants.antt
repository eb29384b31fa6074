use Rattle.std.proofs.Common.{◌≤◌}
use Rattle.memory.specs.Tries.{nodes}
use Rattle.memory.proofs.trie.Trie.+drop.Given as goal

abbrev pub decreases-drop : goal.decreases-drop
decreases-drop l = nodes l.self

abbrev pub invariant-loop-node : goal.invariant-loop-node
invariant-loop-node l = nodes l.self ≤ nodes l.initial.self

abbrev pub decreases-loop-node : goal.decreases-loop-node
decreases-loop-node l = nodes l.self
