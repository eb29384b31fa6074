use Rattle.switch.specs.Listings.{standing, lines}
use Rattle.switch.proofs.Filling.{Filled}
use Rattle.switch.proofs.Lining.{from_tag}
use Rattle.switch.proofs.listing.write_lines.Given as goal

abbrev pub invariant-loop-tag : goal.invariant-loop-tag
invariant-loop-tag l =
    Filled (lines (standing l.tables.width.bits l.tables.weights.now)) l.initial.out l.used (lines (from_tag l.tables.width.bits l.tables.weights.now l.tag)) l.out
