-- The law over runs, from what every call keeps.
use Rattle.std.proofs.Common.{◌≡◌, ℕ, ◌+◌, ◌-◌, ◌/◌, ◌^◌, ◌<◌, ◌≤◌, Bool, true, false, cond, eqb, ltb, ◌⊎◌, ◌↔◌, List, ◌∷◌, map, length, get_or, take, drop, is_some, Some, None, Option, sym, refl, ap, ◌∙◌, subst, inl, inr, arith}
use Rattle.std.proofs.lemmas.List.{get_or_past}
use Rattle.std.proofs.lemmas.Bool.{both_ways, cases_lt, eqb-true, eqb-false, ltb-true, ltb-false}
use Rattle.rules.specs.declared.refusal.Refusal.TheVariants.{StepsMismatch}
use Rattle.rules.specs.declared.server.Server.{Server}
use Rattle.rules.specs.Refusals.{first}
use Rattle.rules.specs.Tables.{table}
use Rattle.memory.specs.declared.key.KeyRule.{KeyRule}
use Rattle.memory.specs.declared.key.Prefix.{Prefix}
use Rattle.memory.specs.Holding.{Held, at, listed, Counted}
use Rattle.plan.specs.Measures.{Misses, Lawful}
use Rattle.plan.specs.Plans.{worst_miss, plan_weights, rule_total}
use Rattle.plan.specs.Rivals.{Best}
use Rattle.model.specs.declared.answer.Answer.{Answer}
use Rattle.model.specs.declared.answer.Answer.TheVariants.{Done, Seen}
use Rattle.model.specs.declared.call.Call.{Call}
use Rattle.model.specs.declared.call.Call.TheVariants.{Step, Close, Look}
use Rattle.model.specs.declared.order.Order.{Order}
use Rattle.model.specs.declared.write.Write.{Write}
use Rattle.model.specs.declared.write.Write.TheVariants.{Remove, Put}
use Rattle.model.specs.Changes.{steps, altered}
use Rattle.model.specs.Grounds.{look_grounds}
use Rattle.model.specs.Keyed.{key, keyed, table_of, rules_of, key_rules, contents}
use Rattle.model.specs.Laws.{Progress, progress, Outside, Settled, During, Moving, Law, Alike}
use Rattle.model.specs.Models.{Phase, at_rest, drafted, changing, Model, model, made, coming, standing_weights, unless, look_answer, answer_in, contents_in, model_contents, model_after, model_answers}
use Rattle.model.specs.Sound.{Sound}
use Rattle.model.proofs.AtRest.{served}
use Rattle.model.proofs.Changing.{keys_at, key_count, exact_count, staying, never_more, removal_finds, put_has_room, all_steps, same_looks}
use Rattle.model.proofs.Models.{Tells, Going, going_after, after_width, after_capacity, next_look, answer_look, after_snoc, last_answer, made_going}
use Rattle.model.proofs.Orders.{order_fitting}
use Rattle.model.proofs.Plans.{Planned, planned}

-- The plan of the standing services of a sound model, and of those that its order brings.
pub standing_plan : (miss : Misses) (m : Model) → Sound miss m → Planned miss m.width m.capacity m.targets
standing_plan miss m s = planned miss s.lawful m.width m.capacity s.low s.high m.targets s.fitting

-- A tag that has something is below 64.
tag_low : {X : Type 0} (xs : List (Option X)) (t : ℕ) → length xs ≡ 64 → is_some (get_or xs t None) ≡ true → t < 64
tag_low xs t e h = go (cases_lt t 64)
  where
    go : (t < 64) ⊎ (64 ≤ t) → t < 64
    go (inl k) = k
    go (inr k) = absurd (both_ways _ (ap is_some (get_or_past xs t None (omega arith))) h)

-- ---- outside a change

module _ (miss : Misses) (m : Model) (s : Sound miss m) (held : Held) (size : ℕ) (counted : ∥ Counted held size ∥₁) where
  abbrev ws : List (Option ℕ)
  ws = standing_weights miss m

  settled : ((v l : ℕ) → held v l ≡ contents m.width ws v l) → Settled miss m held size
  unfolding rules_of
  settled h = record {
    holds = h;
    count = count;
    worst = p.worst;
    best = subst (λ (n : ℕ). Best miss m.width m.capacity m.targets ws (worst_miss miss m.width m.capacity m.targets) n) (sym count) p.best;
    planned = p.same_tags;
    split = λ t d a e low. served m.width t d a s.high (tag_low ws t p.long (ap is_some e)) (p.in_range t d e) low held (own t d e);
  }
    where
      p : Planned miss m.width m.capacity m.targets
      p = standing_plan miss m s

      count : size ≡ rule_total m.width ws
      count = exact_count m.width ws p.in_range held size counted h ∙ key_count m.width ws p.in_range p.long

      own : (t d : ℕ) → get_or ws t None ≡ Some d → (v l : ℕ) → v / 2 ^ m.width ≡ t → held v l ≡ listed (map (keyed m.width t) (table m.width d)) v l
      own t d e v l q =
          h v l ∙ keys_at m.width ws p.in_range t v l q (tag_low ws t p.long (ap is_some e))
          ∙ ap (λ (o : Option ℕ). listed (map (keyed m.width t) (table_of m.width o)) v l) e

outside_law : (miss : Misses) (W R : ℕ) (ts : List (Option ℕ)) (held : Held) (size : ℕ) → ∥ Counted held size ∥₁ → (ph : Phase) → Sound miss (model W R ts ph)
    → ((v l : ℕ) → held v l ≡ contents_in miss (model W R ts ph) ph v l) → Outside ph → Settled miss (model W R ts ph) held size
outside_law miss W R ts held size counted at_rest s h x = settled miss (model W R ts at_rest) s held size counted h
outside_law miss W R ts held size counted (drafted o) s h x = settled miss (model W R ts (drafted o)) s held size counted h
outside_law miss W R ts held size counted (changing o left) s h x = absurd x

-- ---- during a change

module _ (miss : Misses) (W R : ℕ) (ts : List (Option ℕ)) (o : Order) (left : ℕ) (s : Sound miss (model W R ts (changing o left))) where
  abbrev A : List (Option ℕ)
  A = plan_weights miss W R ts

  abbrev B : List (Option ℕ)
  B = plan_weights miss W R (coming o ts)

  pub plan_A : Planned miss W R ts
  plan_A = planned miss s.lawful W R s.low s.high ts s.fitting

  pub plan_B : Planned miss W R (coming o ts)
  plan_B = planned miss s.lawful W R s.low s.high (coming o ts) (order_fitting W R ts o s.fitting s.phase.0)

  rules_A : length (key_rules W A) ≤ R
  rules_A = omega (arith, key_count W A plan_A.in_range plan_A.long, plan_A.room)

  rules_B : length (key_rules W B) ≤ R
  rules_B = omega (arith, key_count W B plan_B.in_range plan_B.long, plan_B.room)

  -- the ground of a step that finds nothing to remove never comes
  pub finds : (k : ℕ) (p : Prefix) (back : List Write) → drop k (steps W A B) ≡ Remove p ∷ back → is_some (at (altered (contents W A) (take k (steps W A B))) p) ≡ true
  finds k p back e = removal_finds W A B plan_A.in_range plan_B.in_range k p back e

  -- and that of a put on a full memory
  pub has_room : (k : ℕ) (r : KeyRule) (back : List Write) → drop k (steps W A B) ≡ Put r ∷ back → at (altered (contents W A) (take k (steps W A B))) r.prefix ≡ None
      → (n : ℕ) → ∥ Counted (altered (contents W A) (take k (steps W A B))) n ∥₁ → n < R
  has_room k r back e new n c = omega (arith, rules_B, put_has_room W A B plan_A.in_range plan_B.in_range k r back e new n c)

  -- after all steps the coming tables are held
  pub arrives : (v l : ℕ) → altered (contents W A) (steps W A B) v l ≡ contents W B v l
  arrives v l = all_steps W A B plan_A.in_range plan_B.in_range v l

  moving : (accepted : ℕ) (held : Held) (size : ℕ) → ∥ Counted held size ∥₁ → accepted + left ≡ length (steps W A B)
      → ((v l : ℕ) → held v l ≡ contents_in miss (model W R ts (changing o left)) (changing o left) v l) → Moving miss (model W R ts (changing o left)) o accepted held size
  moving accepted held size counted e h = record {
    holds = now;
    within = omega arith;
    room = never_more W A B plan_A.in_range plan_B.in_range accepted size R rules_A rules_B (counted_as counted);
    served = λ t a here there low.
        staying W A B plan_A.in_range plan_B.in_range s.high accepted t a (tag_low ts t s.fitting.long here)
        (plan_A.same_tags t ∙ here) (plan_B.same_tags t ∙ there) low held now;
  }
    where
      n : length (steps W A B) - left ≡ accepted
      n = omega arith

      now : (v l : ℕ) → held v l ≡ altered (contents W A) (take accepted (steps W A B)) v l
      now v l = h v l ∙ ap (λ (k : ℕ). altered (contents W A) (take k (steps W A B)) v l) n

      counted_as : ∥ Counted held size ∥₁ → ∥ Counted (altered (contents W A) (take accepted (steps W A B))) size ∥₁
      counted_as c = subst (λ (g : Held). ∥ Counted g size ∥₁) (λ i v l. now v l i) c

during_law : (miss : Misses) (W R : ℕ) (ts : List (Option ℕ)) (held : Held) (size : ℕ) → ∥ Counted held size ∥₁ → (ph : Phase) (p : Progress) → Going miss (model W R ts ph) p
    → ((v l : ℕ) → held v l ≡ contents_in miss (model W R ts ph) ph v l) → (o : Order) → During ph o → Moving miss (model W R ts ph) o p.accepted held size
during_law miss W R ts held size counted at_rest p g h o x = absurd x
during_law miss W R ts held size counted (drafted o') p g h o x = absurd x
during_law miss W R ts held size counted (changing o' left) p g h o x =
    subst (λ (q : Order). Moving miss (model W R ts (changing o' left)) q p.accepted held size) x
    (moving miss W R ts o' left g.sound p.accepted held size counted (g.tells.1 ∙ g.tells.0) h)

-- ---- steps and closes

step_iff : (left accepted named : ℕ) (b : Bool) → eqb left 0 ≡ b → accepted + left ≡ named → (unless (cond b (Some StepsMismatch) None) Done ≡ Done) ↔ (accepted < named)
step_iff left accepted named true e h = ((λ q. cc), (λ k. absurd (omega (arith, eqb-true left 0 e))))
step_iff left accepted named false e h = let n : left ≡ 0 → ⊥ = eqb-false left 0 e in ((λ q. omega (arith, n)), (λ k. refl))

close_iff : (left accepted named : ℕ) (b : Bool) → ltb 0 left ≡ b → accepted + left ≡ named → (unless (cond b (Some StepsMismatch) None) Done ≡ Done) ↔ (accepted ≡ named)
close_iff left accepted named true e h = ((λ q. cc), (λ k. absurd (omega (arith, ltb-true 0 left e))))
close_iff left accepted named false e h = ((λ q. omega (arith, ltb-false 0 left e)), (λ k. refl))

step_exactly : (miss : Misses) (m : Model) (ph : Phase) (p : Progress) (o : Order) → Tells miss m ph p → During ph o → (answer_in miss m ph Step ≡ Done) ↔ (p.accepted < p.named)
step_exactly miss m at_rest p o g x = absurd x
step_exactly miss m (drafted o') p o g x = absurd x
step_exactly miss m (changing o' left) p o g x = step_iff left p.accepted p.named (eqb left 0) refl g.1

close_exactly : (miss : Misses) (m : Model) (ph : Phase) (p : Progress) (o : Order) → Tells miss m ph p → During ph o → (answer_in miss m ph Close ≡ Done) ↔ (p.accepted ≡ p.named)
close_exactly miss m at_rest p o g x = absurd x
close_exactly miss m (drafted o') p o g x = absurd x
close_exactly miss m (changing o' left) p o g x = close_iff left p.accepted p.named (ltb 0 left) refl g.1

-- ---- looks

same_look : (W : ℕ) (h g : Held) → ((v l : ℕ) → h v l ≡ g v l) → (t a : ℕ) → look_answer W h t a ≡ look_answer W g t a
same_look W h g e t a = ap (λ (y : Option Server). unless (first (look_grounds W t a)) (Seen y)) (same_looks h g e (key W t a))

-- ---- the law

module _ (miss : Misses) (lawful : Lawful miss) (W R : ℕ) (low : 1 ≤ W) (high : W ≤ 24) where
  start : Model
  start = made W R

  going_to : (ks : List Call) → Going miss (model_after miss start ks) (progress ks (model_answers miss start ks))
  unfolding start
  going_to ks = going_after miss (made W R) ks (record { named = 0; accepted = 0 }) (made_going miss W R lawful low high)

  pub law : (calls : List Call) (answers : List Answer) (held : Held) (size : ℕ) → answers ≡ model_answers miss (made W R) calls
      → ((v l : ℕ) → held v l ≡ model_contents miss (model_after miss (made W R) calls) v l) → ∥ Counted held size ∥₁ → Law miss W R calls answers held size
  unfolding start
  law calls answers held size said holds counted = record {
    as_the_model = said;
    look = λ ks xs t a x last.
        let m = model_after miss (made W R) ks in
        let same_model : model_after miss (made W R) calls ≡ m
        = ap (model_after miss (made W R)) last.call_is ∙ after_snoc miss (made W R) ks (Look t a) ∙ next_look miss m m.phase t a in
        (last_answer miss (made W R) calls answers ks (Look t a) xs x said last).1 ∙ answer_look miss m m.phase t a
        ∙ ap (λ (k : ℕ). look_answer k (model_contents miss m) t a) (after_width miss (made W R) ks)
        ∙ same_look W (model_contents miss m) held (λ v l. sym (holds v l ∙ ap (λ (n : Model). model_contents miss n v l) same_model)) t a;
    outside = λ x. let m = model_after miss (made W R) calls in
        outside_law miss m.width m.capacity m.targets held size counted m.phase (going_to calls).sound holds x;
    during = λ o x. let m = model_after miss (made W R) calls in
        rw said
        (during_law miss m.width m.capacity m.targets held size counted m.phase (progress calls (model_answers miss (made W R) calls)) (going_to calls) holds o x);
    step = λ ks xs x last o d.
        let (g, h) = last_answer miss (made W R) calls answers ks Step xs x said last in
        let m = model_after miss (made W R) ks in
        rw (g, h) (step_exactly miss m m.phase (progress ks (model_answers miss (made W R) ks)) o (going_to ks).tells d);
    close = λ ks xs x last o d.
        let (g, h) = last_answer miss (made W R) calls answers ks Close xs x said last in
        let m = model_after miss (made W R) ks in
        rw (g, h) (close_exactly miss m m.phase (progress ks (model_answers miss (made W R) ks)) o (going_to ks).tells d);
  }

-- Two switches.
pub alike : (miss : Misses) (W R : ℕ) (calls calls' : List Call) (answers answers' : List Answer) (held held' : Held) (size size' : ℕ)
    → Law miss W R calls answers held size → Law miss W R calls' answers' held' size' → Alike miss W R calls held calls' held'
alike miss W R calls calls' answers answers' held held' size size' law law' out out' same t a =
    same_look W held held' (λ v l. (law.outside out).holds v l ∙ ap (λ (h : Held). h v l) tables ∙ sym ((law'.outside out').holds v l)) t a
  where
    m : Model
    m = model_after miss (made W R) calls

    m' : Model
    m' = model_after miss (made W R) calls'

    widths : m.width ≡ m'.width
    widths = after_width miss (made W R) calls ∙ sym (after_width miss (made W R) calls')

    capacities : m.capacity ≡ m'.capacity
    capacities = after_capacity miss (made W R) calls ∙ sym (after_capacity miss (made W R) calls')

    tables : contents m.width (standing_weights miss m) ≡ contents m'.width (standing_weights miss m')
    tables = λ i. contents (widths i) (plan_weights miss (widths i) (capacities i) (same i))
