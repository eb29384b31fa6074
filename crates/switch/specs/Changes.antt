-- What a register asks of the change that it has.
use Rattle.std.specs.Prelude.{ℕ, ◌^◌, Bool, true, not, ◌&&◌, List, is_some, Some, None, Option}
use Rattle.rules.specs.Refusals.{first}
use Rattle.plan.specs.Plans.{beyond}
use Rattle.model.specs.Grounds.{order_grounds}
use Rattle.switch.specs.declared.change.Change.{Change}

-- The order is one that would not be refused, and no coming weight is above 2 ^ W.
abbrev pub change_fits : ℕ → ℕ → List (Option ℕ) → Option Change → Bool
change_fits W R ts None = true
change_fits W R ts (Some c) = not (is_some (first (order_grounds W R ts c.order))) && not (beyond (2 ^ W) c.weights)
