-- How a console agrees with the model of its conversation.
use Rattle.std.specs.Prelude.{◌≡◌, ℕ, IfOk, IfErr, Some, None, Option, Result}
use Rattle.rules.specs.declared.refusal.Refusal.{Refusal}
use Rattle.rules.specs.Refusals.{first, refusal}
use Rattle.memory.specs.Holding.{Held}
use Rattle.plan.specs.Measures.{Misses, Lawful}
use Rattle.model.specs.Models.{at_rest, Model, model, made as begun}
use Rattle.switch.specs.declared.state.Resting.{Resting}
use Rattle.switch.specs.declared.state.State.{State}
use Rattle.switch.specs.declared.state.State.TheVariants as state
use Rattle.switch.specs.Desks.{Desk, View, desk, view}
use Rattle.switch.specs.Kept.{Kept}
use Rattle.commands.specs.declared.command.Command.{Command}
use Rattle.commands.specs.declared.console.Console.{Console}
use Rattle.commands.specs.declared.reply.Reply.{Reply}
use Rattle.commands.specs.Talks.{make_grounds, reply_to, talk_next}

-- A switch at rest that agrees with the model.
pub record AtRest (miss : Misses) (m : Model) (s : State) (d : Desk) (v : View) : Type 0 where
  pub resting : Resting
  pub rests : s ≡ state.Resting resting
  pub phase : m ≡ model m.width m.capacity m.targets at_rest
  pub kept : Kept miss m (state.Resting resting) d v

-- No switch runs where none was made; else it is at rest.
abbrev pub Agrees : Misses → Option Model → Option State → Desk → View → Type 0
Agrees miss None None d v = Unit {0}
Agrees miss None (Some s) d v = ⊥
Agrees miss (Some m) None d v = ⊥
Agrees miss (Some m) (Some s) d v = AtRest miss m s d v

-- A command: the reply is the model's, and the console agrees with what the model then is.
pub record Obeyed (miss : Misses) (ceiling : ℕ) (t : Option Model) (c : Command) (s : Option State) (d : Desk) (v : View) (r : Result Reply Refusal) : Type 0 where
  pub reply : r ≡ reply_to miss ceiling t c
  pub agrees : Agrees miss (talk_next miss ceiling t c) s d v

abbrev pub Obeys : Misses → ℕ → Command → Option State → Desk → View → Result Reply Refusal → Option State → Desk → View → Type 0
Obeys miss ceiling c s d v r s' d' v' = (t : Option Model) → Agrees miss t s d v → Obeyed miss ceiling t c s' d' v' r

-- The same of a console with its memory: what it was, and what it is behind the command.
module _ {M : Type 0} (held : M → Held) (size limit : M → ℕ) where
  abbrev pub ConsoleObeys : Misses → ℕ → Command → Console M → Console M → Result Reply Refusal → Type 0
  ConsoleObeys miss ceiling c old new r =
      Obeys miss ceiling c old.running (desk old.register) (view held size limit old.memory) r new.running (desk new.register) (view held size limit new.memory)

-- A making: a switch with no service, whatever the measure; refused, nothing is touched.
pub record Made (ceiling W R : ℕ) (d d' : Desk) (v v' : View) (r : Result State Refusal) : Type 0 where
  pub refused : refusal r ≡ first (make_grounds ceiling W R)
  pub starts : IfOk r (λ s. (miss : Misses) → Lawful miss → AtRest miss (begun W R) s d' v')
  pub untouched : IfErr r (λ _. (d' ≡ d) × (v' ≡ v))
