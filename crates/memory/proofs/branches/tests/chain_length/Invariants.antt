use Rattle.memory.specs.Tries.{spares}
use Rattle.memory.proofs.branches.tests.chain_length.Given as goal

abbrev pub decreases-loop-trie : goal.decreases-loop-trie
decreases-loop-trie l = spares l.trie
