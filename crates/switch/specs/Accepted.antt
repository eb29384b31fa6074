-- The change that an accepted draft begins.
use Rattle.std.specs.Prelude.{◌≡◌, true, Some}
use Rattle.plan.specs.Measures.{Misses}
use Rattle.model.specs.declared.answer.Forecast.{Forecast}
use Rattle.switch.specs.declared.change.Change.{Change}
use Rattle.switch.specs.Calls.{begun}
use Rattle.switch.specs.Changes.{change_fits}
use Rattle.switch.specs.Desks.{Desk, underway}

-- All its steps are left, and it is one that the register can have.
pub record Confirmed (miss : Misses) (d : Desk) (f : Forecast) (c : Change) : Type 0 where
  pub change : underway c ≡ begun miss d f
  pub fits : change_fits d.width d.capacity d.targets (Some c) ≡ true
