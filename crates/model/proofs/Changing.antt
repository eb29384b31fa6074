-- The laws of a change between the tables of two lists of weights.
use Rattle.std.proofs.Common.{◌≡◌, ℕ, ◌-◌, ◌^◌, ◌<◌, ◌≤◌, true, List, [], ◌∷◌, ◌++◌, length, get_or, take, drop, is_some, None, Option, sym, ap, ◌∙◌, subst, inl, inr}
use Rattle.std.proofs.lemmas.Bool.{cases_eq}
use Rattle.memory.specs.declared.key.Prefix.{Prefix}
use Rattle.memory.specs.declared.key.KeyRule.{KeyRule}
use Rattle.memory.specs.Holding.{Held, at, apart, prefixes_of, Counted}
use Rattle.memory.specs.Looks.{longest}
use Rattle.memory.proofs.Exact.{not_many}
use Rattle.model.specs.declared.write.Write.{Write}
use Rattle.model.specs.declared.write.Write.TheVariants.{Remove, Put}
use Rattle.model.specs.Keyed.{key, key_rules, contents}
use Rattle.model.specs.Changes.{steps, after_write, altered}
use Rattle.model.proofs.Sets.{apart_holds}
use Rattle.model.proofs.Moves.{altered_append, moves, all_done, never_gone, never_above, removed_there, new_below}
use Rattle.model.proofs.Keys.{apart_all, steps_are}
use Rattle.model.proofs.Served.{look_served, whole_held}
pub use Rattle.model.proofs.Keys.{InRange, keys_at, no_rules}
pub use Rattle.model.proofs.Served.{same_looks}
pub use Rattle.model.proofs.Formed.{Formed, writes_formed}
pub use Rattle.model.proofs.Counts.{key_count, steps_few}

-- ---- what the tables of some weights hold

-- No two key rules have one prefix.
pub apart_keys : (W : ℕ) (ds : List (Option ℕ)) → InRange W ds → apart (prefixes_of (key_rules W ds)) ≡ true
apart_keys W ds h = apart_holds (key_rules W ds) (apart_all W ds h)

-- A reader that holds just the key rules counts them.
pub exact_count : (W : ℕ) (ds : List (Option ℕ)) → InRange W ds → (held : Held) (n : ℕ) → ∥ Counted held n ∥₁
    → ((v l : ℕ) → held v l ≡ contents W ds v l) → n ≡ length (key_rules W ds)
exact_count W ds h held n all same =
    elim (cases_eq n (length (key_rules W ds))) [
      | inl e ↦ e
      | inr other ↦ absurd (not_many held n (key_rules W ds) all other (record { once = apart_keys W ds h; exact = same }))
    ]

-- ---- the steps of a change

-- One write more is done after the others.
pub one_more : (h : Held) (ws : List Write) (w : Write) → altered h (ws ++ (w ∷ [])) ≡ after_write (altered h ws) w
unfolding altered
one_more h ws w = altered_append h ws (w ∷ [])

module _ (W : ℕ) (A B : List (Option ℕ)) (a : InRange W A) (b : InRange W B) where
  -- After all steps the coming key rules are held.
  pub all_steps : (v l : ℕ) → altered (contents W A) (steps W A B) v l ≡ contents W B v l
  all_steps v l =
      ap (λ (ws : List Write). altered (contents W A) ws v l) (steps_are W A B a b)
      ∙ all_done (key_rules W A) (key_rules W B) (apart_all W A a) (apart_all W B b) v l

  module _ (k : ℕ) where
    so_far : take k (steps W A B) ≡ take k (moves (key_rules W A) (key_rules W B))
    so_far = ap (take k) (steps_are W A B a b)

    to_come : drop k (moves (key_rules W A) (key_rules W B)) ≡ drop k (steps W A B)
    to_come = ap (drop k) (sym (steps_are W A B a b))

    counted : (n : ℕ) → ∥ Counted (altered (contents W A) (take k (steps W A B))) n ∥₁ → ∥ Counted (altered (contents W A) (take k (moves (key_rules W A) (key_rules W B)))) n ∥₁
    counted n all = subst (λ (ws : List Write). ∥ Counted (altered (contents W A) ws) n ∥₁) so_far all

    -- A removal finds its prefix.
    pub removal_finds : (p : Prefix) (back : List Write) → drop k (steps W A B) ≡ Remove p ∷ back → is_some (at (altered (contents W A) (take k (steps W A B))) p) ≡ true
    removal_finds p back d =
        ap (λ (ws : List Write). is_some (at (altered (contents W A) ws) p)) so_far
        ∙ removed_there (key_rules W A) (key_rules W B) (apart_all W A a) (apart_all W B b) k p back (to_come ∙ d)

    -- A put of a new prefix comes before as many are held as the coming key rules are.
    pub put_has_room : (r : KeyRule) (back : List Write) → drop k (steps W A B) ≡ Put r ∷ back → at (altered (contents W A) (take k (steps W A B))) r.prefix ≡ None
        → (n : ℕ) → ∥ Counted (altered (contents W A) (take k (steps W A B))) n ∥₁ → n < length (key_rules W B)
    put_has_room r back d new n all =
        new_below (key_rules W A) (key_rules W B) (apart_all W A a) (apart_all W B b) k r back (to_come ∙ d)
        (ap (λ (ws : List Write). at (altered (contents W A) ws) r.prefix) (sym so_far) ∙ new) n (counted n all)

    -- The count is never above what holds the key rules of both.
    pub never_more : (n m : ℕ) → length (key_rules W A) ≤ m → length (key_rules W B) ≤ m → ∥ Counted (altered (contents W A) (take k (steps W A B))) n ∥₁ → n ≤ m
    never_more n m la lb all = never_above (key_rules W A) (key_rules W B) (apart_all W A a) (apart_all W B b) k n m la lb (counted n all)

  -- A service that both have is answered at every address after any number of steps.
  pub staying : W ≤ 24 → (k t x : ℕ) → t < 64 → is_some (get_or A t None) ≡ true → is_some (get_or B t None) ≡ true → x < 2 ^ W
      → (held : Held) → ((v l : ℕ) → held v l ≡ altered (contents W A) (take k (steps W A B)) v l) → is_some (longest held (key W t x)) ≡ true
  staying w k t x i p q low held same =
      look_served held W t x w low (ap is_some (same (key W t 0) (32 - W) ∙ ap (λ (ws : List Write). altered (contents W A) ws (key W t 0) (32 - W)) (so_far k))
      ∙ never_gone (key_rules W A) (key_rules W B) (apart_all W A a) (apart_all W B b) k (key W t 0) (32 - W) (whole_held W A a t i p) (whole_held W B b t i q))
