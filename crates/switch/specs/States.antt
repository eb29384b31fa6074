-- The states of a switch.
use Rattle.std.specs.Prelude.{Bool, true, false}
use Rattle.switch.specs.declared.state.State.{State}
use Rattle.switch.specs.declared.state.State.TheVariants.{Resting, Drafted, Changing}

-- The switch is at rest.
abbrev pub rests : State → Bool
rests (Resting r) = true
rests (Drafted d) = false
rests (Changing c) = false
