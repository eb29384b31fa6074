-- The longest match as a function answers what the longest match means.
use Rattle.std.proofs.Common.{◌≡◌, ℕ, zero, suc, ◌^◌, ◌<◌, ◌≤◌, Some, None, Option, sym, refl, ap, ◌∙◌, subst, inl, inr, arith}
use Rattle.std.proofs.lemmas.Bool.{cases_eq}
use Rattle.std.specs.Option.{option_or}
use Rattle.rules.specs.declared.server.Server.{Server}
use Rattle.memory.specs.Keys.{Covers, cut}
use Rattle.memory.specs.Holding.{Held}
use Rattle.memory.specs.Looks.{longest, down_from, Answered}
use Rattle.memory.specs.Covering.{formed_parts, covers_cut, cut_covers}

-- the greatest length up to n that has an answer
abbrev Top : ℕ → (ℕ → Option Server) → Option Server → Type 0
Top n f None = (l : ℕ) → l ≤ n → f l ≡ None
Top n f (Some s) = (l : ℕ) × (l ≤ n) × (f l ≡ Some s) × ((k : ℕ) → l < k → k ≤ n → f k ≡ None)

first_step : (n : ℕ) (f : ℕ → Option Server) (a b : Option Server) → f (suc n) ≡ a → Top n f b → Top (suc n) f (option_or a b)
first_step n f (Some s) b e t = (suc n, omega arith, e, λ k up le. absurd (omega arith))
first_step n f None None e t = λ l le. elim (cases_eq l (suc n)) [ inl same ↦ ap f same ∙ e | inr other ↦ t l (omega arith) ]
first_step n f None (Some s) e t = (t.0, omega (arith, t.1), t.2, λ k up le. elim (cases_eq k (suc n)) [ inl same ↦ ap f same ∙ e | inr other ↦ t.3 k up (omega arith) ])

first_zero : (f : ℕ → Option Server) (a : Option Server) → f 0 ≡ a → Top 0 f a
first_zero f None e = λ l le. let z : l ≡ 0 = omega arith in ap f z ∙ e
first_zero f (Some s) e = (0, omega arith, e, λ k up le. absurd (omega arith))

top_is : (n : ℕ) (f : ℕ → Option Server) → Top n f (down_from n f)
unfolding down_from
top_is zero f = first_zero f (f 0) refl
top_is (suc n) f = first_step n f (f (suc n)) (down_from n f) refl (top_is n f)

low : (v l key : ℕ) → Covers v l key → l ≤ 32
low v l key c = (formed_parts v l c.0).0

answered_by : (h : Held) (key : ℕ) (o : Option Server) → key < 2 ^ 32 → Top 32 (λ l. h (cut key l) l) o → Answered h key o
answered_by h key None small t = λ v l c. ap (λ x. h x l) (covers_cut v l key c) ∙ t l (low v l key c)
answered_by h key (Some s) small t = (
  cut key t.0,
  t.0,
  record {
    covers = cut_covers key t.0 small t.1;
    holds = t.2;
    none_longer = λ w k up c. ap (λ x. h x k) (covers_cut w k key c) ∙ t.3 k up (low w k key c);
  },
)

pub longest_answered : (h : Held) (key : ℕ) → key < 2 ^ 32 → Answered h key (longest h key)
longest_answered h key small = answered_by h key (longest h key) small (top_is 32 (λ l. h (cut key l) l))

-- what a look owes, from the one equation
pub looked : (held : Held) (key : ℕ) (r : Option Server) → r ≡ longest held key → key < 2 ^ 32 → Answered held key r
looked held key r e small = subst (λ o. Answered held key o) (sym e) (longest_answered held key small)
