-- Lists by tag: at each tag Some where there is a service, None where there is none.
use Rattle.std.specs.Prelude.{ℕ, ◌+◌, Bool, false, ◌||◌, List, [], ◌∷◌, Some, None, Option}

-- The sum over all services.
abbrev pub total : {X : Type 0} → (X → ℕ) → List (Option X) → ℕ
total f [] = 0
total f (None ∷ xs) = total f xs
total f (Some x ∷ xs) = f x + total f xs

-- Some service passes the test.
abbrev pub any : {X : Type 0} → (X → Bool) → List (Option X) → Bool
any p [] = false
any p (None ∷ xs) = any p xs
any p (Some x ∷ xs) = p x || any p xs

-- The same for each service.
abbrev pub on : {X Y : Type 0} → (X → Y) → Option X → Option Y
on f None = None
on f (Some x) = Some (f x)

abbrev pub by_tag : {X Y : Type 0} → (X → Y) → List (Option X) → List (Option Y)
by_tag f [] = []
by_tag f (x ∷ xs) = on f x ∷ by_tag f xs

-- P holds of every service.
abbrev pub Every : {X : Type 0} → (X → Type 0) → List (Option X) → Type 0
Every P [] = Unit {0}
Every P (None ∷ xs) = Every P xs
Every P (Some x ∷ xs) = P x × Every P xs

-- Two lists have their services at the same tags, and P holds of each pair.
abbrev pub Both : {X Y : Type 0} → (X → Y → Type 0) → Option X → Option Y → Type 0
Both P None None = Unit {0}
Both P None (Some y) = ⊥
Both P (Some x) None = ⊥
Both P (Some x) (Some y) = P x y

abbrev pub Each : {X Y : Type 0} → (X → Y → Type 0) → List (Option X) → List (Option Y) → Type 0
Each P [] [] = Unit {0}
Each P [] (y ∷ ys) = ⊥
Each P (x ∷ xs) [] = ⊥
Each P (x ∷ xs) (y ∷ ys) = Both P x y × Each P xs ys
