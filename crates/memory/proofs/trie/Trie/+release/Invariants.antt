use Rattle.memory.proofs.trie.Trie.TheLaws.{the_size}
use Rattle.memory.proofs.trie.Trie.+release.Given as goal

abbrev pub decreases-release : goal.decreases-release
decreases-release l = the_size l.self.now
