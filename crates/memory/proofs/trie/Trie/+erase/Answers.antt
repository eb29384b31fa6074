use Rattle.memory.proofs.Levels.{erased_end, erased_below}
use Rattle.memory.proofs.trie.Trie.+erase.Goals as goal

pub clear-returns-in-None : goal.clear-returns-in-None
clear-returns-in-None t c =
    let path = c.args.path in
    erased_end c.in-Some.node path.height path.length path.value c.in-Some.is path.within c.deref_mut.result.now c.deref_mut.ensures.value c.in-None.ensures

pub clear-returns-in-Some-split_first : goal.clear-returns-in-Some-split_first
clear-returns-in-Some-split_first t c =
    let path = c.args.path in
    let node = c.deref_mut-in-Some-split_first in
    erased_below c.in-Some.node path.height path.length path.value c.in-Some.is path.within node.result.now node.ensures.value c.in-Some-split_first.ensures c.child_mut.ensures.value c.erase.ensures
