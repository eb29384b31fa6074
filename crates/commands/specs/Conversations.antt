-- Whole conversations: the lines that come in, and the texts that go out.
use Rattle.std.specs.Prelude.{◌≡◌, ℕ, true, false, List, [], ◌∷◌, ◌++◌, Some, None, Ok, Err, Option, Result, ◌==◌}
use Rattle.rules.specs.declared.refusal.Refusal.{Refusal}
use Rattle.rules.specs.declared.refusal.Refusal.TheVariants.{Unreadable}
use Rattle.plan.specs.Measures.{Misses}
use Rattle.model.specs.Models.{Model, standing_weights}
use Rattle.switch.specs.Listings.{listing}
use Rattle.commands.specs.declared.command.Command.{Command}
use Rattle.commands.specs.declared.reply.Reply.{Reply}
use Rattle.commands.specs.declared.reply.Reply.TheVariants.{Settled, Seen, Listing}
use Rattle.commands.specs.Lines.{spelled, Small, Unspelled}
use Rattle.commands.specs.Talks.{reply_to, talk_next}
use Rattle.commands.specs.Texts.{ok_line, seen_line, refusal_line}

-- The text of a reply, where the listing is that of weights ds at width W.
abbrev pub text_of : ℕ → List (Option ℕ) → Result Reply Refusal → List ℕ
text_of W ds (Ok (Settled o)) = ok_line o.worst o.rules o.steps
text_of W ds (Ok (Seen s)) = seen_line s
text_of W ds (Ok Listing) = listing W ds
text_of W ds (Err why) = refusal_line why

module _ (miss : Misses) (ceiling : ℕ) where
  -- What the model prints for a command. With no switch there is nothing to list.
  abbrev pub model_text : Option Model → Command → List ℕ
  model_text None c = text_of 0 [] (reply_to miss ceiling None c)
  model_text (Some m) c = text_of m.width (standing_weights miss m) (reply_to miss ceiling (Some m) c)

  -- The answer to one line. It spells a command, and the model's text goes out; or it spells none, is refused as unreadable, and alters nothing.
  pub data Answers (t : Option Model) (line text : List ℕ) (t' : Option Model) : Type 0 where
    read : (c : Command) → Small c → line ≡ spelled c → text ≡ model_text t c → t' ≡ talk_next miss ceiling t c → Answers t line text t'
    unread : Unspelled line → text ≡ refusal_line Unreadable → t' ≡ t → Answers t line text t'

  -- The answers to a sequence of lines, one text behind the other.
  abbrev pub Conversation : Option Model → List (List ℕ) → List ℕ → Option Model → Type 0
  Conversation t [] text t' = (text ≡ []) × (t' ≡ t)
  Conversation t (line ∷ lines) text t' =
      (first : List ℕ) × (rest : List ℕ) × (between : Option Model) × Answers t line first between × (text ≡ first ++ rest) × Conversation between lines rest t'

-- Bytes cut into lines behind each line feed, where p was read of the first line already; and what is left of a last line without its line feed.
abbrev pub lines_in : List ℕ → List ℕ → List (List ℕ)
lines_in p [] = []
lines_in p (b ∷ bs) = elim (b == 10) [ true ↦ (p ++ (b ∷ [])) ∷ lines_in [] bs | false ↦ lines_in (p ++ (b ∷ [])) bs ]

abbrev pub left_over : List ℕ → List ℕ → List ℕ
left_over p [] = p
left_over p (b ∷ bs) = elim (b == 10) [ true ↦ left_over [] bs | false ↦ left_over (p ++ (b ∷ [])) bs ]
