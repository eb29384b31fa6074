use Rattle.std.proofs.Common.{◌≡◌, length}
use Rattle.memory.specs.Holding.{apart, prefixes_of}
use Rattle.memory.proofs.contents.are_apart.Given as goal

abbrev pub invariant-loop-first : goal.invariant-loop-first
invariant-loop-first l = apart (prefixes_of l.rest) ≡ apart (prefixes_of l.rules)

abbrev pub decreases-loop-first : goal.decreases-loop-first
decreases-loop-first l = length l.rest
