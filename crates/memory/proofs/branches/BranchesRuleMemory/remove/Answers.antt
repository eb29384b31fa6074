use Rattle.std.proofs.Common.{◌≡◌, ℕ, ◌≤◌, cond, is_some, Some, None, sym, refl, ap, ◌∙◌, arith}
use mathlib.Core.Logic.{∥∥₁_map}
use Rattle.memory.specs.Tries.{at_bits, Erased, neat}
use Rattle.memory.proofs.Counting.{counted_less}
use Rattle.memory.proofs.Levels.{behind}
use Rattle.memory.proofs.TrieLaws.{trie_written, trie_at, some_of}
use Rattle.memory.proofs.branches.BranchesRuleMemory.remove.Goals as goal

pub invariant_of-self : goal.invariant_of-self
invariant_of-self c =
    let me = c.args.self.now in
    let p = c.args.prefix in
    let way = c.in-Some.ensures in
    let done = behind (λ h n v. Erased me.root c.erase.new.self me.spare c.erase.new.chain h n v neat) way.1 way.3 way.2 c.erase.ensures in
    let there = some_of c.held.result c.if-is_none.ensures in
    let held : Some there.0 ≡ at_bits me.root 32 p.length p.value = behind (λ h n v. Some there.0 ≡ at_bits me.root h n v) way.1 way.3 way.2 (sym there.1 ∙ c.held.ensures) in
    let some = ap {B = ℕ} (λ o. cond (is_some o) 1 0) held in
    let one : 1 ≤ me.count = omega (arith, done.rules_are, me.ruled, some) in
    record {
      tidy = done.neat_kept me.tidy;
      stocked = done.nodes_kept ∙ me.stocked;
      ruled = omega (arith, done.rules_are, me.ruled, some);
      counted = ∥∥₁_map me.counted (λ all. counted_less p None all (trie_written me.root c.erase.new.self p None way.0 done.held) there.0 _ refl (trie_at me.root p (Some there.0) way.0 held) (omega arith));
      few = omega (arith, me.few);
      fitted = me.fitted;
    }
