use Rattle.std.proofs.Common.{◌≡◌}
use Rattle.memory.specs.Tries.{spares}
use Rattle.memory.proofs.trie.spare_nodes.Given as goal

abbrev pub invariant-loop-made : goal.invariant-loop-made
invariant-loop-made l = spares l.chain ≡ l.made
