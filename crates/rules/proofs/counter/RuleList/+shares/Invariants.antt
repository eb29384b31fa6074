use Rattle.rules.proofs.counter.RuleList.+shares.Given as goal

abbrev pub decreases-shares : goal.decreases-shares
decreases-shares l = l.block.bits
