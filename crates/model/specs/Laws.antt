-- The law of a switch over every run: a making, and any calls behind it.
use Rattle.std.specs.Prelude.{◌≡◌, ℕ, suc, ◌^◌, ◌<◌, ◌≤◌, true, ◌↔◌, List, [], ◌∷◌, ◌++◌, length, take, is_some, Some, None, slice_index_or}
use Rattle.rules.specs.Tables.{side}
use Rattle.memory.specs.Holding.{Held}
use Rattle.memory.specs.Looks.{longest}
use Rattle.plan.specs.Measures.{Misses}
use Rattle.plan.specs.Plans.{worst_miss, rule_total, largest_miss}
use Rattle.plan.specs.Rivals.{Best}
use Rattle.model.specs.declared.answer.Answer.{Answer}
use Rattle.model.specs.declared.answer.Answer.TheVariants.{Done, Drafted, Seen, Refused, NotTaken}
use Rattle.model.specs.declared.call.Call.{Call}
use Rattle.model.specs.declared.call.Call.TheVariants.{Place, Accept, Discard, Step, Close, Look}
use Rattle.model.specs.declared.order.Order.{Order}
use Rattle.model.specs.Changes.{altered}
use Rattle.model.specs.Grounds.{registered}
use Rattle.model.specs.Keyed.{key, contents}
use Rattle.model.specs.Models.{Phase, at_rest, drafted, changing, Model, made, coming, standing_weights, order_steps, look_answer, model_after, model_answers}

-- ---- what the calls and answers alone tell

-- How many steps the last draft named, and how many steps were accepted since.
pub record Progress : Type 0 where
  pub named : ℕ
  pub accepted : ℕ

abbrev pub progress_by : Progress → Call → Answer → Progress
progress_by s call (Drafted f) = record { named = f.steps; accepted = 0 }
progress_by s Step Done = record { named = s.named; accepted = suc s.accepted }
progress_by s (Place o) Done = s
progress_by s Accept Done = s
progress_by s Discard Done = s
progress_by s Close Done = s
progress_by s (Look t a) Done = s
progress_by s call (Seen x) = s
progress_by s call (Refused why) = s
progress_by s call NotTaken = s

abbrev pub progress_from : Progress → List Call → List Answer → Progress
progress_from s [] answers = s
progress_from s (call ∷ calls) [] = s
progress_from s (call ∷ calls) (answer ∷ answers) = progress_from (progress_by s call answer) calls answers

abbrev pub progress : List Call → List Answer → Progress
progress calls answers = progress_from (record { named = 0; accepted = 0 }) calls answers

-- ---- outside a change

-- At rest, or with a draft that is not accepted yet.
abbrev pub Outside : Phase → Type 0
Outside at_rest = Unit {0}
Outside (drafted o) = Unit {0}
Outside (changing o left) = ⊥

-- The memory holds exactly the tables of the plan, at every prefix, and its count is theirs. The worst miss is the largest of the services'; no
-- rival plan has a smaller one or, with the same, fewer rules than the memory holds. Every address of a service goes to server 1 exactly if it lies
-- below the service's weight.
pub record Settled (miss : Misses) (m : Model) (held : Held) (size : ℕ) : Type 0 where
  pub holds : (v l : ℕ) → held v l ≡ contents m.width (standing_weights miss m) v l
  pub count : size ≡ rule_total m.width (standing_weights miss m)
  pub worst : largest_miss miss m.width m.targets (standing_weights miss m) ≡ worst_miss miss m.width m.capacity m.targets
  pub best : Best miss m.width m.capacity m.targets (standing_weights miss m) (worst_miss miss m.width m.capacity m.targets) size
  pub planned : (t : ℕ) → registered (standing_weights miss m) t ≡ registered m.targets t
  pub split : (t d a : ℕ) → slice_index_or (standing_weights miss m) t None ≡ Some d → a < 2 ^ m.width → longest held (key m.width t a) ≡ Some (side d a)

-- ---- during a change

abbrev pub During : Phase → Order → Type 0
During at_rest o = ⊥
During (drafted o') o = ⊥
During (changing o' left) o = o' ≡ o

-- The memory holds the standing tables as altered by the steps accepted so far, one rule each in their set order, and never more rules than its
-- capacity. Every address of a staying service, one that stands and comes, has a server.
pub record Moving (miss : Misses) (m : Model) (o : Order) (accepted : ℕ) (held : Held) (size : ℕ) : Type 0 where
  pub holds : (v l : ℕ) → held v l ≡ altered (contents m.width (standing_weights miss m)) (take accepted (order_steps miss m o)) v l
  pub within : accepted ≤ length (order_steps miss m o)
  pub room : size ≤ m.capacity
  pub served : (t a : ℕ) → registered m.targets t ≡ true → registered (coming o m.targets) t ≡ true → a < 2 ^ m.width
      → is_some (longest held (key m.width t a)) ≡ true

-- ---- the law

-- A call that ends a run of calls with answers, and its answer.
pub record Last (calls : List Call) (answers : List Answer) (ks : List Call) (xs : List Answer) (call : Call) (x : Answer) : Type 0 where
  pub call_is : calls ≡ ks ++ (call ∷ [])
  pub answer_is : answers ≡ xs ++ (x ∷ [])

-- After a making at width W over a memory of capacity R, and the calls behind it with their answers: `held` and `size` are what the memory then
-- holds and counts. The answers are those of the model, refusals and drafts too. A look answers as the memory does. Outside a change the switch is
-- settled, during one it is moving. In a change a step is accepted exactly before the steps that the draft named are done, a close exactly then.
pub record Law (miss : Misses) (W R : ℕ) (calls : List Call) (answers : List Answer) (held : Held) (size : ℕ) : Type 0 where
  pub as_the_model : answers ≡ model_answers miss (made W R) calls
  pub look : (ks : List Call) (xs : List Answer) (t a : ℕ) (x : Answer) → Last calls answers ks xs (Look t a) x → x ≡ look_answer W held t a
  pub outside : Outside (model_after miss (made W R) calls).phase → Settled miss (model_after miss (made W R) calls) held size
  pub during : (o : Order) → During (model_after miss (made W R) calls).phase o
      → Moving miss (model_after miss (made W R) calls) o (progress calls answers).accepted held size
  pub step : (ks : List Call) (xs : List Answer) (x : Answer) → Last calls answers ks xs Step x → (o : Order) → During (model_after miss (made W R) ks).phase o
      → (x ≡ Done) ↔ ((progress ks xs).accepted < (progress ks xs).named)
  pub close : (ks : List Call) (xs : List Answer) (x : Answer) → Last calls answers ks xs Close x → (o : Order) → During (model_after miss (made W R) ks).phase o
      → (x ≡ Done) ↔ ((progress ks xs).accepted ≡ (progress ks xs).named)

-- Two runs under one measure, at one width and capacity, that both end outside a change with the same services and targets: every look at one is
-- answered as at the other.
abbrev pub Alike : Misses → ℕ → ℕ → List Call → Held → List Call → Held → Type 0
Alike miss W R calls held calls' held' =
    Outside (model_after miss (made W R) calls).phase → Outside (model_after miss (made W R) calls').phase
    → (model_after miss (made W R) calls).targets ≡ (model_after miss (made W R) calls').targets
    → (t a : ℕ) → look_answer W held t a ≡ look_answer W held' t a
