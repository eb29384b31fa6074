-- What a node that lends what lies below a bit ends as.
use Rattle.std.specs.Prelude.{Bool}
use Rattle.std.specs.Borrow.{Lends, MutBor, Fml}
use Rattle.memory.specs.declared.trie.Trie.{Trie}
use Rattle.memory.specs.declared.trie.Node.{Node}
use Rattle.memory.specs.contracts.trie.Trie.{the_row as trie_row}
use Rattle.memory.specs.contracts.trie.Node.{the_row as node_row}
use Rattle.memory.specs.Tries.{with_child}

-- The node ends with the last value behind the reference there.
abbrev pub LendsChild : MutBor Node → Bool → MutBor Trie → Fml
LendsChild n b t = Lends node_row trie_row n t (with_child n.now b)
