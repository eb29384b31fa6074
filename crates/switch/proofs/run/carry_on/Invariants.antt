use Rattle.std.proofs.Common.{◌≡◌, ◌≤◌, length, take, drop}
use Rattle.model.specs.Models.{Model}
use Rattle.switch.specs.Desks.{desk, view}
use Rattle.switch.specs.Kept.{Kept, Followed}
use Rattle.switch.proofs.run.carry_on.Given as goal

abbrev pub invariant-loop-i : goal.invariant-loop-i
invariant-loop-i g l =
    let miss = g.E.Measure.miss l.measure in
    record {
      within : l.i ≤ length l.calls;
      followed : (m : Model) → Kept miss m l.initial.state (desk l.initial.register) (view g.M.Reader.held_at g.M.Reader.size g.M.RuleMemory.limit l.initial.memory)
          → Followed miss m (take l.i l.calls) (take l.i l.answers) l.state (desk l.register) (view g.M.Reader.held_at g.M.Reader.size g.M.RuleMemory.limit l.memory);
      behind : drop (length l.calls) l.answers ≡ drop (length l.calls) l.initial.answers;
    }
