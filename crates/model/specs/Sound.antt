-- The models that can come about: what the grounds for a refusal keep out.
use Rattle.std.specs.Prelude.{◌≡◌, ℕ, ◌^◌, ◌≤◌, false, List, length, None, Option}
use Rattle.rules.specs.Refusals.{first}
use Rattle.plan.specs.Measures.{Misses, Lawful}
use Rattle.plan.specs.Plans.{services, beyond}
use Rattle.model.specs.Grounds.{order_grounds}
use Rattle.model.specs.Models.{Phase, at_rest, drafted, changing, Model, order_steps}

-- Services that fit a switch: 64 tags, no target above 2 ^ W, and a rule for each service.
pub record Fitting (W R : ℕ) (ts : List (Option ℕ)) : Type 0 where
  pub long : length ts ≡ 64
  pub fit : beyond (2 ^ W) ts ≡ false
  pub room : services ts ≤ R

-- The order of a draft or a change is one that was not refused, and no more steps are left than there are.
abbrev pub PhaseSound : Misses → Model → Phase → Type 0
PhaseSound miss m at_rest = Unit {0}
PhaseSound miss m (drafted o) = first (order_grounds m.width m.capacity m.targets o) ≡ None
PhaseSound miss m (changing o left) = (first (order_grounds m.width m.capacity m.targets o) ≡ None) × (left ≤ length (order_steps miss m o))

pub record Sound (miss : Misses) (m : Model) : Type 0 where
  pub lawful : Lawful miss
  pub low : 1 ≤ m.width
  pub high : m.width ≤ 24
  pub fitting : Fitting m.width m.capacity m.targets
  pub phase : PhaseSound miss m m.phase
