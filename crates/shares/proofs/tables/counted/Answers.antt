use Rattle.std.proofs.Common.{ℕ, ◌<◌, IfOk, subst, arith}
use Rattle.rules.specs.Counts.{Counted}
use Rattle.rules.proofs.Blocks.{covered_none}
use Rattle.shares.proofs.Counting.{there}
use Rattle.shares.proofs.tables.counted.Goals as goal

pub unwrap-requires : goal.unwrap-requires
unwrap-requires c =
    let k : Counted c.args.width.bits c.args.rules.now c.unwrap-count.result =
    subst (λ (W : ℕ). Counted W c.args.rules.now c.unwrap-count.result) c.bits.ensures
    (subst (λ r. IfOk r (λ n. Counted c.bits.result c.args.rules.now n)) c.unwrap-count.ensures c.count_addresses.ensures.counted) in
    there _ _ _ (λ (z : 0 < c.unwrap-count.result.unmatched). omega (arith, k.unmatched, covered_none c.args.width.bits c.args.rules.now c.requires.covers)) k.excess
