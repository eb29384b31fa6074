use Rattle.std.proofs.Common.{◌≡◌, drop}
use Rattle.memory.specs.Rows.{first_match}
use Rattle.memory.proofs.slots.SlotsReader.look.Given as goal

abbrev pub invariant-loop-row : goal.invariant-loop-row
invariant-loop-row l = first_match (drop l.row-index l.self.rows.items) l.key ≡ first_match l.self.rows.items l.key
