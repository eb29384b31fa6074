-- Each call, by its contract, leads from agreement with the model to agreement with the model.
use Rattle.std.proofs.Common.{◌≡◌, ℕ, ◌-◌, List, Some, None, Ok, Err, Option, Result, sym, refl, ap, ◌∙◌, subst}
use Rattle.rules.specs.declared.refusal.Refusal.{Refusal}
use Rattle.rules.specs.declared.server.Server.{Server}
use Rattle.rules.specs.Refusals.{first}
use Rattle.memory.specs.Holding.{Counted}
use Rattle.memory.specs.Looks.{longest}
use Rattle.plan.specs.Measures.{Misses}
use Rattle.model.specs.declared.answer.Answer.{Answer}
use Rattle.model.specs.declared.answer.Answer.TheVariants.{Done, Seen, Refused}
use Rattle.model.specs.declared.call.Call.TheVariants.{Accept, Step, Close, Look}
use Rattle.model.specs.declared.order.Order.{Order}
use Rattle.model.specs.Grounds.{step_grounds, look_grounds}
use Rattle.model.specs.Keyed.{key}
use Rattle.model.specs.Models.{Phase, at_rest, drafted, changing, Model, model, coming, unless, kept_if, model_next}
use Rattle.model.proofs.Models.{next_look}
use Rattle.switch.specs.declared.state.Changing.{Changing}
use Rattle.switch.specs.declared.state.Draft.{Draft}
use Rattle.switch.specs.declared.state.Refused as refused
use Rattle.switch.specs.declared.state.Resting.{Resting}
use Rattle.switch.specs.declared.state.State.{State}
use Rattle.switch.specs.declared.state.State.TheVariants as state
use Rattle.switch.specs.Calls.{refusal_of, accept_desk, step_refusal, step_desk, step_held, close_refusal, close_desk}
use Rattle.switch.specs.Desks.{Desk, View}
use Rattle.switch.specs.Kept.{StateKept, Under, Kept, Did, Carries}
use Rattle.switch.proofs.Follows.{accept_follows, look_follows, step_follows, close_follows}

module _ (miss : Misses) (d : Desk) (v : View) where
  -- ---- accept

  pub accepted : (draft : Draft) (c : Changing) (d' : Desk) → d' ≡ accept_desk miss d draft.forecast → Carries miss Accept (state.Drafted draft) d v Done (state.Changing c) d' v
  accepted draft c d' q m h = go m.width m.capacity m.targets m.phase h
    where
      go : (W R : ℕ) (ts : List (Option ℕ)) (ph : Phase) → Kept miss (model W R ts ph) (state.Drafted draft) d v
          → Did miss (model W R ts ph) Accept Done (state.Changing c) d' v
      go W R ts at_rest h = absurd h.state
      go W R ts (drafted o) h = record {
        answered = refl;
        kept = record {
          under = subst (λ (D : Desk). Under miss (model_next miss (model W R ts (drafted o)) Accept) D v) (sym q)
              (accept_follows miss W R ts o draft.forecast d v h.state h.under);
          state = tt;
        };
      }
      go W R ts (changing o left) h = absurd h.state

  -- ---- step and close

  -- what a result answers
  abbrev pub done_answer : Result Changing (refused.Refused Changing) → Answer
  done_answer (Ok c) = Done
  done_answer (Err e) = Refused e.why

  answer_is : (r : Result Changing (refused.Refused Changing)) → done_answer r ≡ unless (refusal_of r) Done
  answer_is (Ok c) = refl
  answer_is (Err e) = refl

  pub stepped : (c c' : Changing) (d' : Desk) (v' : View) (res : Result Changing (refused.Refused Changing)) → ∥ Counted v.held v.size ∥₁
      → refusal_of res ≡ step_refusal d v → d' ≡ step_desk d v → ((x l : ℕ) → v'.held x l ≡ step_held d v x l) → v'.limit ≡ v.limit
      → Carries miss Step (state.Changing c) d v (done_answer res) (state.Changing c') d' v'
  stepped c c' d' v' res counted e q held limit m h = go m.width m.capacity m.targets m.phase h
    where
      state_of : (W R : ℕ) (ts : List (Option ℕ)) (o : Order) (left : ℕ) (g : Option Refusal)
          → StateKept miss (kept_if g (model W R ts (changing o left)) (model W R ts (changing o (left - 1))))
          (kept_if g (model W R ts (changing o left)) (model W R ts (changing o (left - 1)))).phase (state.Changing c')
      state_of W R ts o left None = tt
      state_of W R ts o left (Some why) = tt

      go : (W R : ℕ) (ts : List (Option ℕ)) (ph : Phase) → Kept miss (model W R ts ph) (state.Changing c) d v
          → Did miss (model W R ts ph) Step (done_answer res) (state.Changing c') d' v'
      go W R ts at_rest h = absurd h.state
      go W R ts (drafted o) h = absurd h.state
      go W R ts (changing o left) h =
          let f = step_follows miss W R ts o left d v h.under counted v' limit held in
          record {
            answered = answer_is res ∙ ap (λ (x : Option Refusal). unless x Done) e ∙ f.answered;
            kept = record {
              under = subst (λ (D : Desk). Under miss (model_next miss (model W R ts (changing o left)) Step) D v') (sym q) f.under;
              state = state_of W R ts o left (first (step_grounds left));
            };
          }

  pub closed_by : (c : Changing) (r : Resting) (d' : Desk) → None ≡ close_refusal d → d' ≡ close_desk d
      → Carries miss Close (state.Changing c) d v Done (state.Resting r) d' v
  closed_by c r d' e q m h = go m.width m.capacity m.targets m.phase h
    where
      go : (W R : ℕ) (ts : List (Option ℕ)) (ph : Phase) → Kept miss (model W R ts ph) (state.Changing c) d v
          → Did miss (model W R ts ph) Close Done (state.Resting r) d' v
      go W R ts at_rest h = absurd h.state
      go W R ts (drafted o) h = absurd h.state
      go W R ts (changing o left) h =
          let f = close_follows miss W R ts o left d v h.under in
          record {
            answered = ap (λ (x : Option Refusal). unless x Done) e ∙ f.answered;
            kept = record {
              under = subst (λ (D : Desk). Under miss (model_next miss (model W R ts (changing o left)) Close) D v) (sym q) f.under;
              state = subst (λ (g : Option Refusal). StateKept miss (kept_if g (model W R ts (changing o left)) (model W R (coming o ts) at_rest))
                  (kept_if g (model W R ts (changing o left)) (model W R (coming o ts) at_rest)).phase (state.Resting r))
                  (e ∙ ap close_refusal h.under.register) tt;
            };
          }

  -- ---- look

  pub looked : (s : State) (t a : ℕ) (x : Option Server) → None ≡ first (look_grounds d.width t a) → x ≡ longest v.held (key d.width t a)
      → Carries miss (Look t a) s d v (Seen x) s d v
  looked s t a x e c m h = record {
    answered = ap Seen c ∙ ap (λ (g : Option Refusal). unless g (Seen (longest v.held (key d.width t a)))) e ∙ look_follows miss m t a d v h.under;
    kept = subst (λ (x : Model). Kept miss x s d v) (sym (next_look miss m m.phase t a)) h;
  }
