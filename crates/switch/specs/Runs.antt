-- What a run does: a making, and the calls behind it.
use Rattle.std.specs.Prelude.{◌≡◌, ℕ, List, ◌∷◌, length, take, drop, IfOk, IfErr, Result, OnOk, nat_lt}
use Rattle.rules.specs.declared.refusal.Refusal.{Refusal}
use Rattle.rules.specs.declared.refusal.Refusal.TheVariants.{BufferTooShort}
use Rattle.rules.specs.Refusals.{Ground, ◌when◌, first, refusal}
use Rattle.plan.specs.Measures.{Misses}
use Rattle.model.specs.declared.answer.Answer.{Answer}
use Rattle.model.specs.declared.call.Call.{Call}
use Rattle.model.specs.Grounds.{making_grounds}
use Rattle.model.specs.Laws.{Law, Alike}
use Rattle.model.specs.Models.{made as begun, model_after}
use Rattle.switch.specs.declared.state.State.{State}
use Rattle.switch.specs.Desks.{Desk, View}
use Rattle.switch.specs.Kept.{Kept}

-- A place for the answers that is shorter than the calls, and then the grounds of the making.
abbrev pub run_grounds : ℕ → ℕ → ℕ → ℕ → List Ground
run_grounds calls places W count = (BufferTooShort when nat_lt places calls) ∷ making_grounds W count

-- A run at width W under a measure, from a register d, a memory v and places xs for the answers to d', v' and xs'. It is refused on these grounds
-- and no other, and then touches nothing. Else the law holds of its calls, its answers and what the memory then holds; the state, the register and
-- the memory agree with the model after the calls; and the places behind the answers are as they were.
pub record Ran (miss : Misses) (W : ℕ) (calls : List Call) (xs xs' : List Answer) (d d' : Desk) (v v' : View) (r : Result State Refusal) : Type 0 where
  pub refused : refusal r ≡ first (run_grounds (length calls) (length xs) W v.size)
  pub law : IfOk r (λ _. Law miss W v.limit calls (take (length calls) xs') v'.held v'.size)
  pub state : IfOk r (λ s. Kept miss (model_after miss (begun W v.limit) calls) s d' v')
  pub behind : drop (length calls) xs' ≡ drop (length calls) xs
  pub untouched : IfErr r (λ _. (d' ≡ d) × (v' ≡ v) × (xs' ≡ xs))

-- Two runs that were both made, over memories v and w of one capacity, end alike.
abbrev pub EndAlike : Misses → ℕ → List Call → View → View → List Call → View → View → Result State Refusal → Result State Refusal → Type 0
EndAlike miss W calls v v' calls₂ w w' r r₂ = OnOk r (OnOk r₂ (v.limit ≡ w.limit → Alike miss W v.limit calls v'.held calls₂ w'.held))
