-- Laws of the first answer from a length down.
use Rattle.std.specs.Prelude.{◌≡◌, ℕ, zero, suc, ◌<◌, ◌≤◌, Some, None, Option, refl}
use Rattle.std.proofs.Common.{ap, ◌∙◌, inl, inr, arith}
use Rattle.std.proofs.lemmas.Bool.{cases_eq}
use Rattle.std.specs.Option.{option_or}
use Rattle.rules.specs.declared.server.Server.{Server}
use Rattle.memory.specs.Looks.{down_from}

pub down_cong : (n : ℕ) (f g : ℕ → Option Server) → ((l : ℕ) → l ≤ n → f l ≡ g l) → down_from n f ≡ down_from n g
unfolding down_from
down_cong zero f g e = e 0 (omega arith)
down_cong (suc n) f g e = ap (λ o. option_or o (down_from n f)) (e (suc n) (omega arith)) ∙ ap (option_or (g (suc n))) (down_cong n f g (λ l h. e l (omega arith)))

pub down_none : (n : ℕ) (f : ℕ → Option Server) → ((l : ℕ) → l ≤ n → f l ≡ None) → down_from n f ≡ None
unfolding down_from
down_none zero f e = e 0 (omega arith)
down_none (suc n) f e = ap (λ o. option_or o (down_from n f)) (e (suc n) (omega arith)) ∙ down_none n f (λ l h. e l (omega arith))

pub down_hit : (n : ℕ) (f : ℕ → Option Server) (s : Server) → f n ≡ Some s → down_from n f ≡ Some s
unfolding down_from
down_hit zero f s e = e
down_hit (suc n) f s e = ap (λ o. option_or o (down_from n f)) e

-- nothing above m answers
pub down_skip : (n m : ℕ) (f : ℕ → Option Server) → m ≤ n → ((l : ℕ) → m < l → l ≤ n → f l ≡ None) → down_from n f ≡ down_from m f
unfolding down_from
down_skip zero zero f h e = refl
down_skip zero (suc m) f h e = absurd (omega arith)
down_skip (suc n) m f h e =
    elim (cases_eq (suc n) m) [
      | inl same ↦ ap (λ k. down_from k f) same
      | inr less ↦ ap (λ o. option_or o (down_from n f)) (e (suc n) (omega arith) (omega arith)) ∙ down_skip n m f (omega arith) (λ l a b. e l a (omega arith))
    ]

or_assoc : (a b c : Option Server) → option_or a (option_or b c) ≡ option_or (option_or a b) c
or_assoc None b c = refl
or_assoc (Some s) b c = refl

-- the lowest number apart from the others
pub down_shift : (n : ℕ) (f : ℕ → Option Server) → down_from (suc n) f ≡ option_or (down_from n (λ l. f (suc l))) (f 0)
unfolding down_from
down_shift zero f = refl
down_shift (suc n) f = ap (option_or (f (suc (suc n)))) (down_shift n f) ∙ or_assoc (f (suc (suc n))) (down_from n (λ l. f (suc l))) (f 0)
