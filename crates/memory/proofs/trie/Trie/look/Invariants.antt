use Rattle.std.proofs.Common.{◌≡◌}
use Rattle.std.specs.Option.{option_or}
use Rattle.memory.specs.Tries.{look_in}
use Rattle.memory.proofs.trie.Trie.look.Given as goal

-- what is left to look through, or else the best so far
abbrev pub invariant-loop-trie : goal.invariant-loop-trie
invariant-loop-trie l = (l.path.length ≡ l.path.height) × (option_or (look_in l.trie l.path.height l.path.value) l.best ≡ look_in l.self 32 l.key)
