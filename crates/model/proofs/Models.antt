-- What every chain of calls keeps of the model.
use Rattle.std.proofs.Common.{◌≡◌, ℕ, ◌+◌, ◌-◌, ◌≤◌, Bool, true, false, cond, eqb, ltb, List, [], ◌∷◌, ◌++◌, length, Some, None, Option, sym, refl, ap, ◌∙◌, subst, arith}
use Rattle.std.proofs.lemmas.Bool.{eqb-false}
use Rattle.std.proofs.lemmas.List.{same_from_push}
use Rattle.rules.specs.declared.refusal.Refusal.{Refusal}
use Rattle.rules.specs.declared.refusal.Refusal.TheVariants.{StepsMismatch}
use Rattle.rules.specs.declared.server.Server.{Server}
use Rattle.rules.specs.Refusals.{first}
use Rattle.plan.specs.Measures.{Misses, Lawful}
use Rattle.model.specs.declared.answer.Answer.{Answer}
use Rattle.model.specs.declared.answer.Answer.TheVariants.{Done, Drafted, Seen}
use Rattle.model.specs.declared.call.Call.{Call}
use Rattle.model.specs.declared.call.Call.TheVariants.{Place, Accept, Discard, Step, Close, Look}
use Rattle.model.specs.declared.order.Order.{Order}
use Rattle.model.specs.Grounds.{order_grounds, step_grounds, close_grounds}
use Rattle.model.specs.Laws.{Progress, progress_by, progress_from, Last}
use Rattle.model.specs.Models.{Phase, at_rest, drafted, changing, Model, model, made, coming, order_steps, forecast, unless, kept_if, look_answer, contents_in, answer_in, next_in, model_answer, model_next, model_after, model_answers}
use Rattle.model.specs.Sound.{PhaseSound, Sound}
use Rattle.model.proofs.Orders.{none_fitting, order_fitting}

-- What the calls and answers tell of a change is so.
abbrev pub Tells : Misses → Model → Phase → Progress → Type 0
Tells miss m at_rest s = Unit {0}
Tells miss m (drafted o) s = (s.named ≡ length (order_steps miss m o)) × (s.accepted ≡ 0)
Tells miss m (changing o left) s = (s.named ≡ length (order_steps miss m o)) × (s.accepted + left ≡ s.named)

pub record Going (miss : Misses) (m : Model) (s : Progress) : Type 0 where
  pub sound : Sound miss m
  pub tells : Tells miss m m.phase s

module _ (miss : Misses) where
  at_phase : (W R : ℕ) (ts : List (Option ℕ)) (ph ph' : Phase) → Sound miss (model W R ts ph) → PhaseSound miss (model W R ts ph') ph' → Sound miss (model W R ts ph')
  at_phase W R ts ph ph' s h = record { lawful = s.lawful; low = s.low; high = s.high; fitting = s.fitting; phase = h }

  looked : (s : Progress) (t a : ℕ) (o : Option Refusal) (x : Option Server) → progress_by s (Look t a) (unless o (Seen x)) ≡ s
  looked s t a None x = refl
  looked s t a (Some why) x = refl

  going_look : (m : Model) (s : Progress) (t a : ℕ) (o : Option Refusal) (x : Option Server) → Going miss m s → Going miss m (progress_by s (Look t a) (unless o (Seen x)))
  going_look m s t a o x g = subst (Going miss m) (sym (looked s t a o x)) g

  module _ (W R : ℕ) (ts : List (Option ℕ)) where
    going_place : (s : Progress) (o : Order) (g : Option Refusal) → first (order_grounds W R ts o) ≡ g → Going miss (model W R ts at_rest) s
        → Going miss (kept_if g (model W R ts at_rest) (model W R ts (drafted o))) (progress_by s (Place o) (unless g (Drafted (forecast miss (model W R ts at_rest) o))))
    going_place s o None e h = record { sound = at_phase W R ts at_rest (drafted o) h.sound e; tells = (refl, refl) }
    going_place s o (Some why) e h = h

    going_step : (o : Order) (left : ℕ) (s : Progress) (b : Bool) → eqb left 0 ≡ b → Going miss (model W R ts (changing o left)) s
        → Going miss (kept_if (cond b (Some StepsMismatch) None) (model W R ts (changing o left)) (model W R ts (changing o (left - 1))))
        (progress_by s Step (unless (cond b (Some StepsMismatch) None) Done))
    going_step o left s true e h = h
    going_step o left s false e h =
        let some : left ≡ 0 → ⊥ = eqb-false left 0 e in
        record {
          sound = at_phase W R ts (changing o left) (changing o (left - 1)) h.sound (h.sound.phase.0, omega (arith, h.sound.phase.1));
          tells = (h.tells.0, omega (arith, h.tells.1, some));
        }

    going_close : (o : Order) (left : ℕ) (s : Progress) (b : Bool) → Going miss (model W R ts (changing o left)) s
        → Going miss (kept_if (cond b (Some StepsMismatch) None) (model W R ts (changing o left)) (model W R (coming o ts) at_rest))
        (progress_by s Close (unless (cond b (Some StepsMismatch) None) Done))
    going_close o left s true h = h
    going_close o left s false h = record {
      sound = record {
        lawful = h.sound.lawful;
        low = h.sound.low;
        high = h.sound.high;
        fitting = order_fitting W R ts o h.sound.fitting h.sound.phase.0;
        phase = tt;
      };
      tells = tt;
    }

    going_on : (ph : Phase) (k : Call) (s : Progress) → Going miss (model W R ts ph) s
        → Going miss (next_in miss (model W R ts ph) ph k) (progress_by s k (answer_in miss (model W R ts ph) ph k))
    going_on at_rest (Place o) s h = going_place s o (first (order_grounds W R ts o)) refl h
    going_on at_rest (Look t a) s h = going_look (model W R ts at_rest) s t a _ _ h
    going_on at_rest _ s h = h
    going_on (drafted o) Accept s h = record {
      sound = at_phase W R ts (drafted o) (changing o (length (order_steps miss (model W R ts (drafted o)) o))) h.sound (h.sound.phase, omega arith);
      tells = (h.tells.0, omega (arith, h.tells.0, h.tells.1));
    }
    going_on (drafted o) Discard s h = record { sound = at_phase W R ts (drafted o) at_rest h.sound tt; tells = tt }
    going_on (drafted o) (Look t a) s h = going_look (model W R ts (drafted o)) s t a _ _ h
    going_on (drafted o) _ s h = h
    going_on (changing o left) Step s h = going_step o left s (eqb left 0) refl h
    going_on (changing o left) Close s h = going_close o left s (ltb 0 left) h
    going_on (changing o left) (Look t a) s h = going_look (model W R ts (changing o left)) s t a _ _ h
    going_on (changing o left) _ s h = h

  pub going_after : (m : Model) (ks : List Call) (s : Progress) → Going miss m s → Going miss (model_after miss m ks) (progress_from s ks (model_answers miss m ks))
  going_after m [] s h = h
  going_after m (k ∷ ks) s h =
      going_after (model_next miss m k) ks (progress_by s k (model_answer miss m k)) (going_on m.width m.capacity m.targets m.phase k s h)

  -- A sound model stays sound.
  some_progress : (W R : ℕ) (ts : List (Option ℕ)) (ph : Phase) → Sound miss (model W R ts ph) → (s : Progress) × Going miss (model W R ts ph) s
  some_progress W R ts at_rest s = (record { named = 0; accepted = 0 }, record { sound = s; tells = tt })
  some_progress W R ts (drafted o) s = (record { named = length (order_steps miss (model W R ts at_rest) o); accepted = 0 }, record { sound = s; tells = (refl, refl) })
  some_progress W R ts (changing o left) s = (
    record { named = length (order_steps miss (model W R ts at_rest) o); accepted = length (order_steps miss (model W R ts at_rest) o) - left },
    record { sound = s; tells = (refl, omega (arith, s.phase.1)) },
  )

  pub next_sound : (m : Model) (k : Call) → Sound miss m → Sound miss (model_next miss m k)
  next_sound m k s =
      let (p, g) = some_progress m.width m.capacity m.targets m.phase s in
      (going_on m.width m.capacity m.targets m.phase k p g).sound

  -- ---- the width and the capacity stay

  Stay : Model → Model → Type 0
  Stay m m' = (m'.width ≡ m.width) × (m'.capacity ≡ m.capacity)

  kept_stay : (g : Option Refusal) (m m' : Model) → Stay m m' → Stay m (kept_if g m m')
  unfolding Stay
  kept_stay None m m' e = e
  kept_stay (Some why) m m' e = (refl, refl)

  next_stay : (m : Model) (ph : Phase) (k : Call) → Stay m (next_in miss m ph k)
  unfolding Stay
  next_stay m at_rest (Place o) = kept_stay (first (order_grounds m.width m.capacity m.targets o)) m _ (refl, refl)
  next_stay m at_rest _ = (refl, refl)
  next_stay m (drafted o) Accept = (refl, refl)
  next_stay m (drafted o) _ = (refl, refl)
  next_stay m (changing o left) Step = kept_stay (first (step_grounds left)) m _ (refl, refl)
  next_stay m (changing o left) Close = kept_stay (first (close_grounds left)) m _ (refl, refl)
  next_stay m (changing o left) _ = (refl, refl)

  pub after_width : (m : Model) (ks : List Call) → (model_after miss m ks).width ≡ m.width
  unfolding Stay
  after_width m [] = refl
  after_width m (k ∷ ks) = after_width (model_next miss m k) ks ∙ (next_stay m m.phase k).0

  pub after_capacity : (m : Model) (ks : List Call) → (model_after miss m ks).capacity ≡ m.capacity
  unfolding Stay
  after_capacity m [] = refl
  after_capacity m (k ∷ ks) = after_capacity (model_next miss m k) ks ∙ (next_stay m m.phase k).1

  -- ---- looks

  pub next_look : (m : Model) (ph : Phase) (t a : ℕ) → next_in miss m ph (Look t a) ≡ m
  next_look m at_rest t a = refl
  next_look m (drafted o) t a = refl
  next_look m (changing o left) t a = refl

  pub answer_look : (m : Model) (ph : Phase) (t a : ℕ) → answer_in miss m ph (Look t a) ≡ look_answer m.width (contents_in miss m ph) t a
  answer_look m at_rest t a = refl
  answer_look m (drafted o) t a = refl
  answer_look m (changing o left) t a = refl

  -- ---- one call more

  pub after_snoc : (m : Model) (ks : List Call) (k : Call) → model_after miss m (ks ++ (k ∷ [])) ≡ model_next miss (model_after miss m ks) k
  after_snoc m [] k = refl
  after_snoc m (j ∷ ks) k = after_snoc (model_next miss m j) ks k

  pub answers_snoc : (m : Model) (ks : List Call) (k : Call) → model_answers miss m (ks ++ (k ∷ [])) ≡ model_answers miss m ks ++ (model_answer miss (model_after miss m ks) k ∷ [])
  answers_snoc m [] k = refl
  answers_snoc m (j ∷ ks) k = ap (λ (r : List Answer). model_answer miss m j ∷ r) (answers_snoc (model_next miss m j) ks k)

  -- The last answer of a chain, and those before it.
  pub last_answer : (m : Model) (calls : List Call) (answers : List Answer) (ks : List Call) (k : Call) (xs : List Answer) (x : Answer)
      → answers ≡ model_answers miss m calls → Last calls answers ks xs k x → (xs ≡ model_answers miss m ks) × (x ≡ model_answer miss (model_after miss m ks) k)
  last_answer m calls answers ks k xs x said last =
      same_from_push xs (model_answers miss m ks) x (model_answer miss (model_after miss m ks) k)
      (sym last.answer_is ∙ said ∙ ap (model_answers miss m) last.call_is ∙ answers_snoc m ks k)

  -- The start is sound.
  pub made_going : (W R : ℕ) → Lawful miss → 1 ≤ W → W ≤ 24 → Going miss (made W R) (record { named = 0; accepted = 0 })
  made_going W R l low high = record { sound = record { lawful = l; low = low; high = high; fitting = none_fitting W R; phase = tt }; tells = tt }
