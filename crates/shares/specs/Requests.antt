-- The requests that a command line can spell.
use Rattle.std.specs.Prelude.{◌≡◌, ℕ, ◌^◌, ◌<◌, List, [], ◌∷◌, map, codes, decimal, ◌≢◌}
use Rattle.std.specs.List.{AllByRecursion}
use Rattle.shares.specs.declared.request.Request.{Request}
use Rattle.shares.specs.declared.request.Request.TheVariants.{Table, Nearest, Plan}

-- The words of a request, each a list of bytes.
abbrev pub spelling : Request → List (List ℕ)
spelling (Table width weight) = codes "table" ∷ decimal width ∷ decimal weight ∷ []
spelling (Nearest width target limit) = codes "nearest" ∷ decimal width ∷ decimal target ∷ decimal limit ∷ []
spelling (Plan width capacity targets) = codes "plan" ∷ decimal width ∷ decimal capacity ∷ map decimal targets.items

-- Its numbers are below 2 ^ 32.
abbrev pub Small : Request → Type 0
Small (Table width weight) = (width < 2 ^ 32) × (weight < 2 ^ 32)
Small (Nearest width target limit) = (width < 2 ^ 32) × (target < 2 ^ 32) × (limit < 2 ^ 32)
Small (Plan width capacity targets) = (width < 2 ^ 32) × (capacity < 2 ^ 32) × AllByRecursion (λ n. n < 2 ^ 32) targets.items

-- The words are those of q; they are those of no request.
abbrev pub Spelled : List (List ℕ) → Request → Type 0
Spelled words q = words ≡ spelling q

abbrev pub Unspelled : List (List ℕ) → Type 0
Unspelled words = (q : Request) → Small q → words ≢ spelling q

-- The words are the numbers ns in decimal digits; they are not any numbers below 2 ^ 32.
abbrev pub Numbers : List (List ℕ) → List ℕ → Type 0
Numbers words ns = words ≡ map decimal ns

abbrev pub NoNumbers : List (List ℕ) → Type 0
NoNumbers words = (ns : List ℕ) → AllByRecursion (λ n. n < 2 ^ 32) ns → words ≢ map decimal ns
