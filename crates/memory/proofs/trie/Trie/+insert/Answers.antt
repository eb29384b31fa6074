use Rattle.memory.proofs.Levels.{inserted_end, inserted_below}
use Rattle.memory.proofs.trie.Trie.+insert.Goals as goal

pub returns-in-None : goal.returns-in-None
returns-in-None t c =
    let path = c.args.path in
    inserted_end c.in-Some.node path.height path.length path.value c.args.server c.open.ensures c.in-Some.is path.within c.deref_mut.result.now c.deref_mut.ensures.value c.in-None.ensures

pub returns-in-Some-split_first : goal.returns-in-Some-split_first
returns-in-Some-split_first t c =
    let path = c.args.path in
    let node = c.deref_mut-in-Some-split_first in
    inserted_below c.in-Some.node path.height path.length path.value c.args.server c.open.ensures c.in-Some.is path.within node.result.now node.ensures.value c.in-Some-split_first.ensures c.child_mut.ensures.value c.insert.ensures
