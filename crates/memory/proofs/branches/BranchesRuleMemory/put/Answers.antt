use Rattle.std.proofs.Common.{◌≡◌, ◌+◌, ◌≤◌, ℕ, Bool, true, false, cond, not, is_some, Some, sym, refl, ap, ◌∙◌, arith}
use mathlib.Core.Logic.{∥∥₁_map}
use mir.Val.{bool_byte}
use Rattle.std.proofs.lemmas.Bool.{false≢true}
use Rattle.memory.specs.Tries.{at_bits, Inserted}
use Rattle.memory.proofs.Counting.{counted_put}
use Rattle.memory.proofs.Levels.{behind}
use Rattle.memory.proofs.TrieLaws.{trie_written, trie_at, nodes_left}
use Rattle.memory.proofs.branches.BranchesRuleMemory.put.Goals as goal
use Rattle.memory.proofs.branches.BranchesRuleMemory.put.Goals.{else-fresh-via-then-fresh+else-self, else-fresh-via-else-fresh}

-- a new prefix counts one, and another none
counts : (there fresh : Bool) → there ≡ not fresh → bool_byte fresh ≡ cond there 0 1
counts true true e = absurd (false≢true (sym e))
counts true false e = refl
counts false true e = refl
counts false false e = absurd (false≢true e)

at_most_one : (b : Bool) → bool_byte b ≤ 1
at_most_one true = omega arith
at_most_one false = omega arith

pub insert-requires : goal.insert-requires
insert-requires c =
    let me = c.args.self.now in
    let p = c.args.rule.prefix in
    let way = c.in-Some.ensures in
    omega (arith, way.3, nodes_left me.root me.spare me.count p.value p.length me.tidy me.stocked me.ruled me.few way.0)

pub invariant_of-self : goal.invariant_of-self
invariant_of-self c =
    let me = c.args.self.now in
    let p = c.args.rule.prefix in
    let s = c.args.rule.server in
    let way = c.in-Some.ensures in
    let done = behind (λ h n v. Inserted me.root c.insert.new.self me.spare c.insert.new.chain h n v s) way.1 way.3 way.2 c.insert.ensures in
    let held : c.held.result ≡ at_bits me.root 32 p.length p.value = behind (λ h n v. c.held.result ≡ at_bits me.root h n v) way.1 way.3 way.2 c.held.ensures in
    let one : c.from.result ≡ cond (is_some c.held.result) 0 1 = c.from.ensures ∙ counts _ _ c.is_none-fresh.ensures in
    let more = ap {B = ℕ} (λ o. cond (is_some o) 0 1) held in
    record {
      tidy = done.neat_kept me.tidy;
      stocked = done.nodes_kept ∙ me.stocked;
      ruled = omega (arith, done.rules_are, me.ruled, more, one);
      counted = ∥∥₁_map me.counted (λ all. counted_put p (Some s) all (trie_written me.root c.insert.new.self p (Some s) way.0 done.held) s refl c.held.result (trie_at me.root p c.held.result way.0 held) (me.count + c.from.result) (ap (λ x. me.count + x) one));
      few = elim c.else-fresh.branch [
        | else-fresh-via-then-fresh+else-self w ↦ (let k = at_most_one c.is_none-fresh.result in omega (arith, c.from.ensures, k, w.if-self.false, me.fitted))
        | else-fresh-via-else-fresh w ↦ (let k = ap bool_byte w.if-fresh.false in omega (arith, c.from.ensures, k, me.few))
      ];
      fitted = me.fitted;
    }
