-- What a console does with commands, as the model sees it: fed with the commands alone.
use Rattle.std.specs.Prelude.{ℕ, List, [], ◌∷◌, Some, None, Ok, Err, Option, Result, nat_lt}
use Rattle.rules.specs.declared.refusal.Refusal.{Refusal}
use Rattle.rules.specs.declared.refusal.Refusal.TheVariants.{Unreadable, AboveCeiling, WidthOutOfRange}
use Rattle.rules.specs.Grounds.{bad_width}
use Rattle.rules.specs.Refusals.{Ground, ◌when◌, first}
use Rattle.memory.specs.Looks.{longest}
use Rattle.plan.specs.Measures.{Misses}
use Rattle.model.specs.declared.answer.Forecast.{Forecast}
use Rattle.model.specs.Grounds.{order_grounds, look_grounds}
use Rattle.model.specs.Keyed.{key}
use Rattle.model.specs.Models.{at_rest, Model, model, made, coming, forecast, kept_if, model_contents}
use Rattle.commands.specs.declared.command.Command.{Command}
use Rattle.commands.specs.declared.command.Command.TheVariants.{Make, Place, Look, List as Listed}
use Rattle.commands.specs.declared.reply.Reply.{Reply}
use Rattle.commands.specs.declared.reply.Reply.TheVariants.{Settled, Seen, Listing}

-- A making fits the memory, up to its ceiling, and makes the switch, both or neither.
abbrev pub make_grounds : ℕ → ℕ → ℕ → List Ground
make_grounds ceiling W R = (AboveCeiling when nat_lt ceiling R) ∷ (WidthOutOfRange when bad_width W) ∷ []

abbrev pub unless : {X : Type 0} → Option Refusal → X → Result X Refusal
unless None x = Ok x
unless (Some why) x = Err why

abbrev pub settled : Forecast → Reply
settled f = Settled (record { worst = f.worst; rules = f.rules; steps = f.steps })

-- The reply to each command, where `None` says that no switch was made yet. Nothing but a making is read then.
module _ (miss : Misses) (ceiling : ℕ) where
  abbrev pub reply_to : Option Model → Command → Result Reply Refusal
  reply_to t (Make W R) = unless (first (make_grounds ceiling W R)) (Settled (record { worst = 0; rules = 0; steps = 0 }))
  reply_to None (Place o) = Err Unreadable
  reply_to None (Look t a) = Err Unreadable
  reply_to None Listed = Err Unreadable
  reply_to (Some m) (Place o) = unless (first (order_grounds m.width m.capacity m.targets o)) (settled (forecast miss m o))
  reply_to (Some m) (Look t a) = unless (first (look_grounds m.width t a)) (Seen (longest (model_contents miss m) (key m.width t a)))
  reply_to (Some m) Listed = Ok Listing

  -- What it leaves: a making that is not refused starts anew, an order that is not refused is run to rest.
  abbrev pub talk_next : Option Model → Command → Option Model
  talk_next t (Make W R) = kept_if (first (make_grounds ceiling W R)) t (Some (made W R))
  talk_next None (Place o) = None
  talk_next None (Look t a) = None
  talk_next None Listed = None
  talk_next (Some m) (Place o) =
      Some (kept_if (first (order_grounds m.width m.capacity m.targets o)) m (model m.width m.capacity (coming o m.targets) at_rest))
  talk_next (Some m) (Look t a) = Some m
  talk_next (Some m) Listed = Some m
