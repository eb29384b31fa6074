-- Words and the numbers that they spell.
use Rattle.std.proofs.Common.{◌≡◌, ℕ, ◌^◌, ◌<◌, List, [], ◌∷◌, map, length, get_or, vec_items, decimal, sym, ap, ◌∙◌, arith}
use Rattle.std.specs.List.{AllByRecursion}
use Rattle.std.proofs.ByRecursion.{All-get_or}
use Rattle.std.proofs.lemmas.List.{length-map, get_or-map}
use Rattle.shares.specs.declared.request.Request.{Request}
use Rattle.shares.specs.declared.request.Request.TheVariants.{Table, Nearest, Plan}
use Rattle.shares.specs.Requests.{spelling, Small, Unspelled, NoNumbers}

-- one word that is no number, and the words are no numbers
pub not_numbers : {X : Type 0} (f : X → List ℕ) (xs : List X) (i : ℕ) (x : X) → i < length xs → x ≡ get_or xs i x
    → ((n : ℕ) → n < 2 ^ 32 → f x ≡ decimal n → ⊥) → NoNumbers (map f xs)
not_numbers f xs i x h is no_number ns small e =
    let l : length xs ≡ length ns = sym (length-map xs f) ∙ ap length e ∙ length-map ns decimal in
    let w : f x ≡ decimal (get_or ns i 0)
    = ap f is ∙ sym (get_or-map f xs i x [] h) ∙ ap (λ (ws : List (List ℕ)). get_or ws i []) e ∙ get_or-map decimal ns i 0 [] (omega arith) in
    no_number (get_or ns i 0) (All-get_or (λ n. n < 2 ^ 32) ns i 0 (omega arith) small) w

-- every request has an order and numbers behind it
pub numbers_of : Request → List ℕ
numbers_of (Table width weight) = width ∷ weight ∷ []
numbers_of (Nearest width target limit) = width ∷ target ∷ limit ∷ []
numbers_of (Plan width capacity targets) = width ∷ capacity ∷ vec_items targets

-- the words behind the first
tail : List (List ℕ) → List (List ℕ)
tail [] = []
tail (w ∷ ws) = ws

spelled_numbers : (q : Request) (w : List ℕ) (ws : List (List ℕ)) → w ∷ ws ≡ spelling q → ws ≡ map decimal (numbers_of q)
unfolding numbers_of tail
spelled_numbers (Table width weight) w ws e = ap tail e
spelled_numbers (Nearest width target limit) w ws e = ap tail e
spelled_numbers (Plan width capacity targets) w ws e = ap tail e

small_numbers : (q : Request) → Small q → AllByRecursion (λ n. n < 2 ^ 32) (numbers_of q)
unfolding numbers_of
small_numbers (Table width weight) (h, k) = (h, (k, tt))
small_numbers (Nearest width target limit) (h, k, l) = (h, (k, (l, tt)))
small_numbers (Plan width capacity targets) (h, k, l) = (h, (k, l))

-- the words behind the order have to be numbers
pub no_request : (w : List ℕ) (ws : List (List ℕ)) → NoNumbers ws → Unspelled (w ∷ ws)
no_request w ws h q small e = h (numbers_of q) (small_numbers q small) (spelled_numbers q w ws e)
