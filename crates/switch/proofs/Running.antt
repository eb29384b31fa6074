-- A chain of calls, one call after the other, and where it starts.
use Rattle.std.proofs.Common.{◌≡◌, ℕ, ◌+◌, ◌<◌, ◌≤◌, ltb, List, [], ◌∷◌, ◌++◌, length, get_or, take, set, replicate, is_some, Some, None, Ok, Err, Option, Result, sym, refl, ap, ◌∙◌, ap₂, arith}
use Rattle.std.proofs.lemmas.List.{take_more, take_more_set}
use Rattle.std.proofs.lemmas.Bool.{ltb-false, or_parts, false≢true}
use Rattle.rules.specs.declared.refusal.Refusal.{Refusal}
use Rattle.rules.specs.declared.refusal.Refusal.TheVariants.{WidthOutOfRange, MemoryNotEmpty}
use Rattle.rules.specs.declared.server.Server.{Server}
use Rattle.rules.specs.Grounds.{bad_width}
use Rattle.rules.specs.Refusals.{first}
use Rattle.memory.specs.Holding.{Held, listed, Counted}
use Rattle.memory.specs.declared.key.KeyRule.{KeyRule}
use Rattle.memory.proofs.Counting.{held_among}
use Rattle.plan.specs.Measures.{Misses, Lawful}
use Rattle.model.specs.declared.answer.Answer.{Answer}
use Rattle.model.specs.declared.call.Call.{Call}
use Rattle.model.specs.Grounds.{making_grounds}
use Rattle.model.specs.Keyed.{key_rules}
use Rattle.model.specs.Laws.{Law}
use Rattle.model.specs.Models.{Model, made, model_after, model_answers}
use Rattle.model.proofs.Changing.{no_rules}
use Rattle.model.proofs.Laws.{alike}
use Rattle.model.proofs.Models.{after_snoc, answers_snoc, made_going}
use Rattle.model.proofs.Orders.{past}
use Rattle.model.proofs.Plans.{no_weights}
use Rattle.switch.specs.declared.state.Resting.{Resting}
use Rattle.switch.specs.declared.state.State.{State}
use Rattle.switch.specs.declared.state.State.TheVariants as state
use Rattle.switch.specs.Calls.{fresh}
use Rattle.switch.specs.Desks.{Desk, View}
use Rattle.switch.specs.Kept.{Kept, Carries, Followed}
use Rattle.switch.specs.Runs.{Ran, EndAlike}

-- ---- one call more

pub one_more : (miss : Misses) (calls : List Call) (i : ℕ) (call : Call) → i < length calls → (m : Model) (answers : List Answer) (a : Answer) → i < length answers
    → {s s' : State} {d d' : Desk} {v v' : View} → Followed miss m (take i calls) (take i answers) s d v → Carries miss (get_or calls i call) s d v a s' d' v'
    → Followed miss m (take (i + 1) calls) (take (i + 1) (set answers i a)) s' d' v'
one_more miss calls i call within m answers a room f carries =
    let here = carries (model_after miss m (take i calls)) f.kept in
    let longer : take (i + 1) calls ≡ take i calls ++ (get_or calls i call ∷ []) = take_more calls i call within in
    record {
      answers_are = take_more_set answers i a room ∙ ap₂ (λ (xs : List Answer) (x : Answer). xs ++ (x ∷ [])) f.answers_are here.answered
          ∙ sym (answers_snoc miss m (take i calls) (get_or calls i call)) ∙ ap (model_answers miss m) (sym longer);
      kept = rw (longer, after_snoc) here.kept;
    }

-- ---- the start

-- What an accepted making has seen: a width in range and no rule.
pub record Admits (W count : ℕ) : Type 0 where
  pub low : 1 ≤ W
  pub high : W ≤ 24
  pub empty : count ≡ 0

pub admits : (W count : ℕ) → None ≡ first (making_grounds W count) → Admits W count
admits W count e =
    let (a, e₁) = past (bad_width W) WidthOutOfRange _ (sym e) in
    let (b, e₂) = past (ltb 0 count) MemoryNotEmpty _ e₁ in
    let (x, y) = or_parts (ltb W 1) (ltb 24 W) a in
    record { low = ltb-false W 1 x; high = ltb-false 24 W y; empty = omega (arith, ltb-false 0 count b) }

empty_held : (h : Held) (n : ℕ) → n ≡ 0 → ∥ Counted h n ∥₁ → (v l : ℕ) → h v l ≡ None
empty_held h n e c v l = go (h v l) refl
  where
    go : (o : Option Server) → h v l ≡ o → o ≡ None
    go None q = refl
    go (Some s) q =
        let x = held_among h n [] c refl (sym e) (λ w k z. absurd (false≢true z)) v l (ap is_some q) in
        absurd (false≢true x)

pub start_kept : (miss : Misses) (W R : ℕ) → Lawful miss → 1 ≤ W → W ≤ 24 → (d : Desk) (v : View) (resting : Resting) → d ≡ fresh W R → v.limit ≡ R → v.size ≡ 0
    → ∥ Counted v.held v.size ∥₁ → Kept miss (made W R) (state.Resting resting) d v
start_kept miss W R lawful low high d v resting e limit none counted = record {
  under = record {
    sound = (made_going miss W R lawful low high).sound;
    register = e ∙ ap (λ (ds : List (Option ℕ)). record { width = W; capacity = R; targets = replicate 64 None; weights = ds; change = None }) (sym (no_weights miss W R 64));
    limit = limit;
    holds = λ x l. empty_held v.held v.size none counted x l ∙ sym (ap (λ (rs : List KeyRule). listed rs x l) (ap (key_rules W) (no_weights miss W R 64) ∙ no_rules W));
  };
  state = tt;
}

-- ---- two runs

pub end_alike : (miss : Misses) (W : ℕ) (calls calls₂ : List Call) {xs xs' ys : List Answer} (ys' : List Answer) {d d' e e' : Desk} (v : View) {v' w : View} (w' : View) (r r₂ : Result State Refusal)
    → Ran miss W calls xs xs' d d' v v' r → Ran miss W calls₂ ys ys' e e' w w' r₂ → EndAlike miss W calls v v' calls₂ w w' r r₂
end_alike miss W calls calls₂ ys' v w' (Err x) r₂ a b = tt
end_alike miss W calls calls₂ ys' v w' (Ok x) (Err y) a b = tt
end_alike miss W calls calls₂ ys' v w' (Ok x) (Ok y) a b = λ same.
    let law : Law miss W v.limit calls₂ (take (length calls₂) ys') w'.held w'.size = rw same b.law in
    alike miss W v.limit calls calls₂ _ _ _ _ _ _ a.law law
