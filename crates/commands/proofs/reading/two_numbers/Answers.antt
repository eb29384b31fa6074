use Rattle.std.proofs.Common.{◌≡◌, ℕ, ◌^◌, ◌<◌, List, ◌∷◌, ◌++◌, decimal, sym, refl, ◌∙◌, subst, lit<}
use Rattle.std.proofs.lemmas.Result.{err_from_is_err_and}
use Rattle.commands.specs.Lines.{Without}
use Rattle.commands.proofs.Parting.{decimal_without, same_parts, not_without}
use Rattle.commands.proofs.reading.two_numbers.Goals as goal

-- a text with its parts spells two numbers only where the parts spell them
parts : (text front back : List ℕ) (m n : ℕ) → text ≡ front ++ 32 ∷ back → Without 32 front → m < 2 ^ 32 → text ≡ decimal m ++ 32 ∷ decimal n → (front ≡ decimal m) × (back ≡ decimal n)
parts text front back m n e w h f = same_parts 32 front back (decimal m) (decimal n) w (decimal_without 32 m (lit< tt) h) (sym e ∙ f)

pub returns-in_err-front : goal.returns-in_err-front
returns-in_err-front c =
    let p = err_from_is_err_and c.from_residual.result c.from_residual.ensures.1 in
    rw p.1 (
      p.2 ∙ c.in_err-front.ensures.0,
      λ m n h k e. not_without 32 (decimal m) (decimal n) (subst (Without 32) e c.in_err-front.ensures.1),
    )

pub returns-in_default : goal.returns-in_default
returns-in_default c =
    let s = c.in_ok-front.ensures in
    (refl, λ m n h k e. c.in_default.ensures m h (parts _ _ _ m n s.0 s.1 h e).0)

pub returns-in_default-read_number : goal.returns-in_default-read_number
returns-in_default-read_number c =
    let s = c.in_ok-front.ensures in
    (refl, λ m n h k e. c.in_default-read_number.ensures n k (parts _ _ _ m n s.0 s.1 h e).1)
