use Rattle.std.proofs.Common.{◌≡◌, ◌∙◌, arith}
use Rattle.memory.specs.Looks.{longest}
use Rattle.memory.specs.Tries.{in_trie}
use Rattle.memory.proofs.Longest.{looked}
use Rattle.memory.proofs.TrieLaws.{trie_longest}
use Rattle.memory.proofs.branches.BranchesReader.look.Goals as goal

pub returns : goal.returns
returns c =
    let root = c.args.self.now.root in
    let value : c.look.result ≡ longest (in_trie c.args.self.now.root) c.args.key = c.look.ensures ∙ trie_longest root c.args.key (omega arith) in
    record { value = value; best = looked (in_trie root) c.args.key c.look.result value (omega arith) }
