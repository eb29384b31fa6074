-- What `from_fn` gives of an array by tag, where no call changes the closure.
use Rattle.std.proofs.Common.{◌≡◌, ℕ, zero, suc, ◌+◌, ◌<◌, ◌≤◌, List, length, get_or, None, Option, IfSome, refl, sym, subst, arith}
use native.Mathlib.Decide.{dec_le}
use denote.Param.Members.{Mut, Called}
use Rattle.std.specs.Array.{IsFromFnResultFrom, IsFromFnResult}
use Rattle.plan.specs.ByTag.{on, by_tag, Every, Both, Each}
use Rattle.plan.proofs.ByTags.{every_if, each_by, by_tag_by}

module _ {F B : Type 0} (g : Mut F (ℕ × Unit {0}) B) (R : ℕ → B → Type 0) (f : F)
    (call : (i : ℕ) (y : B) (q : F) → Called g f (i, tt) y q → (q ≡ f) × R i y) where
  filled_from : (ys : List B) (i n : ℕ) (p : F) → p ≡ f → IsFromFnResultFrom g p ys i n → (j : ℕ) (e : B) → i ≤ j → j < i + n → R j (get_or ys j e)
  filled_from ys i zero p s m j e h k = absurd (omega arith)
  filled_from ys i (suc n) p s (q, y, b, made, rest) j e h k =
      go (dec_le j i) (λ l. filled_from ys (i + 1) n q here.0 rest j e l (omega arith))
    where
      here : (q ≡ f) × R i y
      here = call i y q (subst (λ (v : F). Called g v (i, tt) y q) s made)

      go : Dec (j ≤ i) → (i + 1 ≤ j → R j (get_or ys j e)) → R j (get_or ys j e)
      go (yes l) more = let z : i ≡ j = omega arith in subst (λ (v : ℕ). R v (get_or ys v e)) z (subst (λ (v : B). R i v) (sym (b.1 e)) here.1)
      go (no l) more = more (omega arith)

  pub filled_at : (ys : List B) (n : ℕ) → IsFromFnResult g f ys n → (e : B) (j : ℕ) → j < n → R j (get_or ys j e)
  filled_at ys n m e j h = filled_from ys 0 n f refl m.each j e (omega arith) (omega arith)

-- each service's place is made from what stands at the same tag
module _ {F X Y : Type 0} (g : Mut F (ℕ × Unit {0}) (Option Y)) (f : F) (xs : List (Option X)) (ys : List (Option Y)) (n : ℕ)
    (l : length xs ≡ n) (m : IsFromFnResult g f ys n) where
  pub filled_each : (P : X → Y → Type 0) → ((i : ℕ) (y : Option Y) (q : F) → Called g f (i, tt) y q → (q ≡ f) × Both P (get_or xs i None) y) → Each P xs ys
  filled_each P call =
      each_by P xs ys (omega (arith, m.long)) (λ i h. filled_at g (λ j y. Both P (get_or xs j None) y) f call ys n m None i (omega arith))

  -- where the calls may count on what holds of every service
  pub filled_every : (Q : X → Type 0) (P : X → Y → Type 0) → Every Q xs
      → ((i : ℕ) (y : Option Y) (q : F) → Called g f (i, tt) y q → (q ≡ f) × (IfSome (get_or xs i None) Q → Both P (get_or xs i None) y)) → Each P xs ys
  filled_every Q P every call =
      each_by P xs ys (omega (arith, m.long))
      (λ i h. filled_at g (λ j y. IfSome (get_or xs j None) Q → Both P (get_or xs j None) y) f call ys n m None i (omega arith) (every_if Q xs i every))

  pub filled_by_tag : (h : X → Y) → ((i : ℕ) (y : Option Y) (q : F) → Called g f (i, tt) y q → (q ≡ f) × (y ≡ on h (get_or xs i None))) → ys ≡ by_tag h xs
  filled_by_tag h call =
      by_tag_by h xs ys (omega (arith, m.long)) (λ i k. filled_at g (λ j y. y ≡ on h (get_or xs j None)) f call ys n m None i (omega arith))
