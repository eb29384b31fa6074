use Rattle.memory.proofs.trie.Trie.+insert.Given as goal

abbrev pub decreases-insert : goal.decreases-insert
decreases-insert l = l.path.length
