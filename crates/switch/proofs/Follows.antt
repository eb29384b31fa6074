-- Each call, doing what its own contract says, follows the model.
use Rattle.std.proofs.Common.{◌≡◌, ℕ, zero, suc, ◌-◌, ◌<◌, Bool, true, false, cond, not, ◌&&◌, eqb, ltb, leb, List, [], ◌∷◌, ◌++◌, length, take, drop, is_some, Some, None, Option, sym, refl, ap, ◌∙◌, subst, ap₂, arith}
use Rattle.std.specs.List.{AllByRecursion}
use Rattle.std.proofs.ByRecursion.{All-drop}
use Rattle.std.proofs.lemmas.List.{take_all}
use Rattle.std.proofs.lemmas.Bool.{eqb-false, eq-eqb, ltb-false, lt-leb, and_from, not_from_false}
use Rattle.rules.specs.declared.refusal.Refusal.{Refusal}
use Rattle.rules.specs.declared.refusal.Refusal.TheVariants.{StateMismatch, StepsMismatch, BrokenLayout, MemoryFull, NothingToRemove}
use Rattle.rules.specs.declared.server.Server.{Server}
use Rattle.rules.specs.Refusals.{first}
use Rattle.memory.specs.Holding.{Held, at, same_prefix, Counted}
use Rattle.plan.specs.Measures.{Misses}
use Rattle.plan.specs.Plans.{plan_weights}
use Rattle.model.specs.declared.answer.Answer.{Answer}
use Rattle.model.specs.declared.answer.Answer.TheVariants.{Done, Seen}
use Rattle.model.specs.declared.answer.Forecast.{Forecast}
use Rattle.model.specs.declared.call.Call.{Call}
use Rattle.model.specs.declared.call.Call.TheVariants.{Accept, Step, Close, Look}
use Rattle.model.specs.declared.order.Order.{Order}
use Rattle.model.specs.declared.write.Write.{Write}
use Rattle.model.specs.declared.write.Write.TheVariants.{Remove, Put}
use Rattle.model.specs.Changes.{steps, write_at, after_write, altered}
use Rattle.model.specs.Grounds.{order_grounds, look_grounds}
use Rattle.model.specs.Keyed.{key, contents}
use Rattle.model.specs.Models.{at_rest, drafted, changing, Model, model, coming, order_steps, forecast, unless, kept_if, look_answer, model_contents, model_answer, model_next}
use Rattle.model.proofs.Changing.{Formed, one_more, writes_formed, same_looks}
use Rattle.model.proofs.Laws.{plan_A, plan_B, finds, has_room, arrives}
use Rattle.model.proofs.Models.{next_sound, answer_look}
use Rattle.switch.specs.Calls.{current, accept_desk, write_grounds, write_refusal, step_refusal, step_desk, held_after, step_held, close_refusal, close_desk}
use Rattle.switch.specs.Desks.{Desk, View}
use Rattle.switch.specs.Kept.{model_desk, Under}

-- What a call answers and leaves is what the model says.
pub record Follows (miss : Misses) (m : Model) (call : Call) (answer : Answer) (d : Desk) (v : View) : Type 0 where
  pub answered : answer ≡ model_answer miss m call
  pub under : Under miss (model_next miss m call) d v

module _ (miss : Misses) (W R : ℕ) (ts : List (Option ℕ)) where
  -- ---- accept

  is_current : (o : Order) → first (order_grounds W R ts o) ≡ None → current miss (model_desk miss (model W R ts (drafted o))) (forecast miss (model W R ts (drafted o)) o) ≡ true
  is_current o e =
      let f : Forecast = forecast miss (model W R ts (drafted o)) o in
      and_from _ _ (not_from_false _ (ap is_some e))
      (and_from _ _ (eq-eqb f.worst f.worst refl) (and_from _ _ (eq-eqb f.rules f.rules refl) (eq-eqb f.steps f.steps refl)))

  none_yet : (h : Held) (ws : List Write) (v l : ℕ) → altered h (take (length ws - length ws) ws) v l ≡ h v l
  unfolding altered
  none_yet h ws v l = let z : length ws - length ws ≡ 0 = omega arith in ap (λ (k : ℕ). altered h (take k ws) v l) z

  pub accept_follows : (o : Order) (f : Forecast) (d : Desk) (v : View) → f ≡ forecast miss (model W R ts (drafted o)) o → Under miss (model W R ts (drafted o)) d v
      → Under miss (model W R ts (changing o (length (order_steps miss (model W R ts at_rest) o)))) (accept_desk miss d f) v
  accept_follows o f d v e u = record {
    sound = next_sound miss (model W R ts (drafted o)) Accept u.sound;
    register = ap₂ (λ (x : Desk) (y : Forecast). accept_desk miss x y) u.register e
        ∙ ap (λ (c : Bool). kept_if (cond (not c) (Some StateMismatch) None) (model_desk miss (model W R ts (drafted o)))
        (model_desk miss (model W R ts (changing o (length (order_steps miss (model W R ts at_rest) o)))))) now;
    limit = u.limit;
    holds = λ x l. u.holds x l ∙ sym (none_yet (contents W (plan_weights miss W R ts)) (order_steps miss (model W R ts at_rest) o) x l);
  }
    where
      now : current miss (model_desk miss (model W R ts (drafted o))) (forecast miss (model W R ts (drafted o)) o) ≡ true
      now = is_current o u.sound.phase

-- ---- look

pub look_follows : (miss : Misses) (m : Model) (t a : ℕ) (d : Desk) (v : View) → Under miss m d v → look_answer d.width v.held t a ≡ model_answer miss m (Look t a)
look_follows miss m t a d v u =
    ap (λ (x : Desk). look_answer x.width v.held t a) u.register
    ∙ ap (λ (y : Option Server). unless (first (look_grounds m.width t a)) (Seen y)) (same_looks v.held (model_contents miss m) u.holds (key m.width t a))
    ∙ sym (answer_look miss m m.phase t a)

-- ---- step

-- The write at a place, those before it and those behind.
pick : (k : ℕ) (ws : List Write) → k < length ws
    → (w : Write) × (write_at ws k ≡ Some w) × (drop k ws ≡ w ∷ drop (suc k) ws) × (take (suc k) ws ≡ take k ws ++ (w ∷ []))
pick k [] h = absurd (omega arith)
pick zero (x ∷ ws) h = (x, refl, refl, refl)
pick (suc k) (x ∷ ws) h = let (w, e, f, g) = pick k ws (omega arith) in (w, e, f, ap (λ (z : List Write). x ∷ z) g)

same_written : (h g : Held) (w : Write) → ((x l : ℕ) → h x l ≡ g x l) → (x l : ℕ) → after_write h w x l ≡ after_write g w x l
same_written h g (Remove p) e x l = ap (λ (z : Option Server). cond (same_prefix p x l) None z) (e x l)
same_written h g (Put r) e x l = ap (λ (z : Option Server). cond (same_prefix r.prefix x l) (Some r.server) z) (e x l)

module _ (miss : Misses) (W R : ℕ) (ts : List (Option ℕ)) (o : Order) (left : ℕ) (d : Desk) (v : View) (u : Under miss (model W R ts (changing o left)) d v) where
  abbrev A : List (Option ℕ)
  A = plan_weights miss W R ts

  abbrev B : List (Option ℕ)
  B = plan_weights miss W R (coming o ts)

  abbrev all : List Write
  all = steps W A B

  abbrev k : ℕ
  k = length all - left

  -- The write that is next is not refused.
  not_refused : ∥ Counted v.held v.size ∥₁ → (w : Write) (back : List Write) → drop k all ≡ w ∷ back → Formed w → first (write_grounds v w) ≡ None
  not_refused counted (Remove p) back e f =
      let there : is_some (at v.held p) ≡ true = ap is_some (u.holds p.value p.length) ∙ finds miss W R ts o left u.sound k p back e in
      ap₂ (λ (x y : Bool). cond (not x) (Some BrokenLayout) (cond (not y) (Some NothingToRemove) None)) f there
  not_refused counted (Put r) back e f =
      ap (λ (x : Bool). cond (not x) (Some BrokenLayout) (cond (not (is_some (at v.held r.prefix)) && leb v.limit v.size) (Some MemoryFull) None)) f
      ∙ go (at v.held r.prefix) refl
    where
      go : (x : Option Server) → at v.held r.prefix ≡ x → cond (not (is_some x) && leb v.limit v.size) (Some MemoryFull) None ≡ None
      go (Some s) q = refl
      go None q =
          let less : v.size < R
          = has_room miss W R ts o left u.sound k r back e (sym (u.holds r.prefix.value r.prefix.length) ∙ q) v.size
          (subst (λ (h : Held). ∥ Counted h v.size ∥₁) (λ i x l. u.holds x l i) counted) in
          ap (λ (y : Bool). cond y (Some MemoryFull) None) (lt-leb v.limit v.size (omega (arith, u.limit)))

  next_held : (w : Write) → take (suc k) all ≡ take k all ++ (w ∷ []) → 0 < left → (x l : ℕ) → after_write v.held w x l ≡ altered (contents W A) (take (length all - (left - 1)) all) x l
  next_held w e pos x l =
      let n : length all - (left - 1) ≡ suc k = omega (arith, u.sound.phase.1, pos) in
      same_written v.held (altered (contents W A) (take k all)) w u.holds x l
      ∙ ap (λ (h : Held). h x l) (sym (one_more (contents W A) (take k all) w))
      ∙ ap (λ (ws : List Write). altered (contents W A) ws x l) (sym e)
      ∙ ap (λ (j : ℕ). altered (contents W A) (take j all) x l) (sym n)

  -- There is a next write, and it keeps its layout.
  next : 0 < left → (w : Write) × (write_at all k ≡ Some w) × (drop k all ≡ w ∷ drop (suc k) all) × (take (suc k) all ≡ take k all ++ (w ∷ [])) × Formed w
  next pos =
      let (w, e, f, g) = pick k all (omega (arith, pos, u.sound.phase.1)) in
      let formed_all = writes_formed W A B (plan_A miss W R ts o left u.sound).in_range (plan_B miss W R ts o left u.sound).in_range u.sound.high in
      (w, e, f, g, (subst (λ (ws : List Write). AllByRecursion (λ x. Formed x) ws) f (All-drop (λ x. Formed x) k all formed_all)).0)

  refusal_is : ∥ Counted v.held v.size ∥₁ → (z : Bool) → eqb left 0 ≡ z → write_refusal v (cond z None (write_at all k)) ≡ cond z (Some StepsMismatch) None
  refusal_is counted true e = refl
  refusal_is counted false e =
      let n : left ≡ 0 → ⊥ = eqb-false left 0 e in
      let (w, p, f, g, h) = next (omega (arith, n)) in
      ap (write_refusal v) p ∙ not_refused counted w (drop (suc k) all) f h

  held_is : ∥ Counted v.held v.size ∥₁ → (z : Bool) → eqb left 0 ≡ z → (x l : ℕ)
      → held_after v (cond z None (write_at all k)) x l
      ≡ model_contents miss (kept_if (cond z (Some StepsMismatch) None) (model W R ts (changing o left)) (model W R ts (changing o (left - 1)))) x l
  held_is counted true e x l = u.holds x l
  held_is counted false e x l =
      let n : left ≡ 0 → ⊥ = eqb-false left 0 e in
      let (w, p, f, g, h) = next (omega (arith, n)) in
      ap (λ (y : Option Write). held_after v y x l) p
      ∙ ap (λ (y : Option Refusal). kept_if y v.held (after_write v.held w) x l) (not_refused counted w (drop (suc k) all) f h)
      ∙ next_held w g (omega (arith, n)) x l

  desk_is : (z : Bool) → kept_if (cond z (Some StepsMismatch) None) (model_desk miss (model W R ts (changing o left))) (model_desk miss (model W R ts (changing o (left - 1))))
      ≡ model_desk miss (kept_if (cond z (Some StepsMismatch) None) (model W R ts (changing o left)) (model W R ts (changing o (left - 1))))
  desk_is true = refl
  desk_is false = refl

  capacity_is : (z : Bool) (m : Model) → m.capacity ≡ R → R ≡ (kept_if (cond z (Some StepsMismatch) None) (model W R ts (changing o left)) m).capacity
  capacity_is true m e = refl
  capacity_is false m e = sym e

  -- A step that does what its contract says.
  pub step_follows : ∥ Counted v.held v.size ∥₁ → (v' : View) → v'.limit ≡ v.limit → ((x l : ℕ) → v'.held x l ≡ step_held d v x l)
      → Follows miss (model W R ts (changing o left)) Step (unless (step_refusal d v) Done) (step_desk d v) v'
  step_follows counted v' kept =
      subst (λ (D : Desk). ((x l : ℕ) → v'.held x l ≡ step_held D v x l)
      → Follows miss (model W R ts (changing o left)) Step (unless (step_refusal D v) Done) (step_desk D v) v')
      (sym u.register)
      (λ h. record {
        answered = ap (λ (y : Option Refusal). unless y Done) (refusal_is counted (eqb left 0) refl);
        under = record {
          sound = next_sound miss (model W R ts (changing o left)) Step u.sound;
          register = ap (λ (y : Option Refusal). kept_if y (model_desk miss (model W R ts (changing o left))) (model_desk miss (model W R ts (changing o (left - 1)))))
              (refusal_is counted (eqb left 0) refl) ∙ desk_is (eqb left 0);
          limit = kept ∙ u.limit ∙ capacity_is (eqb left 0) (model W R ts (changing o (left - 1))) refl;
          holds = λ x l. h x l ∙ held_is counted (eqb left 0) refl x l;
        };
      })

  -- ---- close

  closed_held : (z : Bool) → ltb 0 left ≡ z → (x l : ℕ)
      → v.held x l ≡ model_contents miss (kept_if (cond z (Some StepsMismatch) None) (model W R ts (changing o left)) (model W R (coming o ts) at_rest)) x l
  closed_held true e x l = u.holds x l
  closed_held false e x l =
      u.holds x l
      ∙ ap (λ (ws : List Write). altered (contents W A) ws x l) (take_all (length all - left) all (omega (arith, ltb-false 0 left e)))
      ∙ arrives miss W R ts o left u.sound x l

  closed_desk : (z : Bool) → kept_if (cond z (Some StepsMismatch) None) (model_desk miss (model W R ts (changing o left))) (model_desk miss (model W R (coming o ts) at_rest))
      ≡ model_desk miss (kept_if (cond z (Some StepsMismatch) None) (model W R ts (changing o left)) (model W R (coming o ts) at_rest))
  closed_desk true = refl
  closed_desk false = refl

  pub close_follows : Follows miss (model W R ts (changing o left)) Close (unless (close_refusal d) Done) (close_desk d) v
  close_follows =
      subst (λ (D : Desk). Follows miss (model W R ts (changing o left)) Close (unless (close_refusal D) Done) (close_desk D) v) (sym u.register)
      (record {
        answered = refl;
        under = record {
          sound = next_sound miss (model W R ts (changing o left)) Close u.sound;
          register = closed_desk (ltb 0 left);
          limit = u.limit ∙ capacity_is (ltb 0 left) (model W R (coming o ts) at_rest) refl;
          holds = closed_held (ltb 0 left) refl;
        };
      })
