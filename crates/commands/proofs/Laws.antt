-- The laws of the lines: a line is a letter with numbers, each spelled in its own way.
use Rattle.std.proofs.Common.{◌≡◌, ℕ, suc, ◌*◌, ◌^◌, ◌<◌, ◌≤◌, cond, eqb, List, [], ◌∷◌, ◌++◌, length, decimal, sym, refl, ap, ◌∙◌, subst, ap₂, arith, lit<}
use Rattle.std.specs.List.{AllByRecursion}
use Rattle.std.proofs.lemmas.Fmt.{decimal_injective, length-decimal-le}
use Rattle.std.proofs.lemmas.List.{append-nil, append_assoc, length-append, append_cancel_right}
use Rattle.model.specs.declared.order.Order.TheVariants.{Enter, Reweigh, Withdraw}
use Rattle.commands.specs.declared.command.Command.{Command}
use Rattle.commands.specs.declared.command.Command.TheVariants.{Make, Place, Look, List as Listing}
use Rattle.commands.specs.Lines.{spelled, Small, Without, Lawful}
use Rattle.commands.proofs.Parting.{decimal_without, without_more, without_append, same_parts, not_without}

abbrev letter : Command → ℕ
letter (Make width capacity) = 109
letter (Place (Enter tag target)) = 101
letter (Place (Reweigh tag target)) = 114
letter (Place (Withdraw tag)) = 119
letter (Look tag address) = 108
letter Listing = 112

abbrev numbers : Command → List ℕ
numbers (Make width capacity) = width ∷ capacity ∷ []
numbers (Place (Enter tag target)) = tag ∷ target ∷ []
numbers (Place (Reweigh tag target)) = tag ∷ target ∷ []
numbers (Place (Withdraw tag)) = tag ∷ []
numbers (Look tag address) = tag ∷ address ∷ []
numbers Listing = []

-- the command of a letter and numbers
command : ℕ → List ℕ → Command
command l [] = Listing
command l (a ∷ []) = Place (Withdraw a)
command l (a ∷ b ∷ ns) = cond (eqb l 109) (Make a b) (cond (eqb l 101) (Place (Enter a b)) (cond (eqb l 114) (Place (Reweigh a b)) (Look a b)))

again : (c : Command) → command (letter c) (numbers c) ≡ c
unfolding command
again (Make width capacity) = refl
again (Place (Enter tag target)) = refl
again (Place (Reweigh tag target)) = refl
again (Place (Withdraw tag)) = refl
again (Look tag address) = refl
again Listing = refl

-- numbers, each with a space before it
fields : List ℕ → List ℕ
fields [] = []
fields (n ∷ ns) = 32 ∷ (decimal n ++ fields ns)

two : (l m n : ℕ) → l ∷ 32 ∷ (decimal m ++ 32 ∷ [] ++ decimal n) ≡ l ∷ fields (m ∷ n ∷ [])
unfolding fields
two l m n = ap (λ (xs : List ℕ). l ∷ 32 ∷ xs) (append_assoc (decimal m) (32 ∷ []) (decimal n) ∙ ap (λ (xs : List ℕ). decimal m ++ 32 ∷ xs) (sym (append-nil (decimal n))))

front : (c : Command) → spelled c ≡ letter c ∷ fields (numbers c) ++ 10 ∷ []
unfolding fields
front (Make width capacity) = ap (λ (xs : List ℕ). xs ++ 10 ∷ []) (two 109 width capacity)
front (Place (Enter tag target)) = ap (λ (xs : List ℕ). xs ++ 10 ∷ []) (two 101 tag target)
front (Place (Reweigh tag target)) = ap (λ (xs : List ℕ). xs ++ 10 ∷ []) (two 114 tag target)
front (Place (Withdraw tag)) = ap (λ (xs : List ℕ). 119 ∷ 32 ∷ xs ++ 10 ∷ []) (sym (append-nil (decimal tag)))
front (Look tag address) = ap (λ (xs : List ℕ). xs ++ 10 ∷ []) (two 108 tag address)
front Listing = refl

small_numbers : (c : Command) → Small c → AllByRecursion (λ n. n < 2 ^ 32) (numbers c)
small_numbers (Make width capacity) (h, k) = (h, (k, tt))
small_numbers (Place (Enter tag target)) (h, k) = (h, (k, tt))
small_numbers (Place (Reweigh tag target)) (h, k) = (h, (k, tt))
small_numbers (Place (Withdraw tag)) h = (h, tt)
small_numbers (Look tag address) (h, k) = (h, (k, tt))
small_numbers Listing h = tt

few_numbers : (c : Command) → length (numbers c) ≤ 2
few_numbers (Make width capacity) = omega arith
few_numbers (Place (Enter tag target)) = omega arith
few_numbers (Place (Reweigh tag target)) = omega arith
few_numbers (Place (Withdraw tag)) = omega arith
few_numbers (Look tag address) = omega arith
few_numbers Listing = omega arith

-- a field has at most 11 bytes
fields_short : (ns : List ℕ) → AllByRecursion (λ n. n < 2 ^ 32) ns → length (fields ns) ≤ 11 * length ns
unfolding fields
fields_short [] h = omega arith
fields_short (n ∷ ns) (h, hs) =
    omega (arith, length-append (decimal n) (fields ns), length-decimal-le 10 n (lit< tt) (omega arith) (omega arith), fields_short ns hs)

fields_without : (ns : List ℕ) → AllByRecursion (λ n. n < 2 ^ 32) ns → Without 10 (fields ns)
unfolding fields
fields_without [] h = λ k l e. omega arith
fields_without (n ∷ ns) (h, hs) =
    without_more 10 32 (decimal n ++ fields ns) (λ e. omega arith)
    (without_append 10 (decimal n) (fields ns) (decimal_without 10 n (lit< tt) h) (fields_without ns hs))

not_ten : (c : Command) → letter c ≡ 10 → ⊥
not_ten (Make width capacity) e = omega arith
not_ten (Place (Enter tag target)) e = omega arith
not_ten (Place (Reweigh tag target)) e = omega arith
not_ten (Place (Withdraw tag)) e = omega arith
not_ten (Look tag address) e = omega arith
not_ten Listing e = omega arith

-- fields spell one list of numbers
same_fields : (ms ns : List ℕ) → AllByRecursion (λ n. n < 2 ^ 32) ms → AllByRecursion (λ n. n < 2 ^ 32) ns → fields ms ≡ fields ns → ms ≡ ns
unfolding fields
same_fields [] [] h k e = refl
same_fields [] (n ∷ ns) h k e = let z : ◌≡◌ {A = ℕ} 0 (suc (length (decimal n ++ fields ns))) = ap length e in absurd (omega arith)
same_fields (m ∷ ms) [] h k e = let z : ◌≡◌ {A = ℕ} (suc (length (decimal m ++ fields ms))) 0 = ap length e in absurd (omega arith)
same_fields (m ∷ []) (n ∷ []) (h, hs) (k, ks) e =
    let t : decimal m ++ [] ≡ decimal n ++ [] = cc in
    ap (λ (x : ℕ). x ∷ []) (decimal_injective m n (omega arith) (omega arith) (append_cancel_right (decimal m) (decimal n) [] t))
same_fields (m ∷ []) (n ∷ q ∷ ns) (h, hs) (k, ks) e =
    let t : decimal m ++ [] ≡ decimal n ++ fields (q ∷ ns) = cc in
    absurd (not_without 32 (decimal n) _ (subst (Without 32) (sym (append-nil (decimal m)) ∙ t) (decimal_without 32 m (lit< tt) h)))
same_fields (m ∷ p ∷ ms) (n ∷ []) (h, hs) (k, ks) e =
    let t : decimal m ++ fields (p ∷ ms) ≡ decimal n ++ [] = cc in
    absurd (not_without 32 (decimal m) _ (subst (Without 32) (sym (append-nil (decimal n)) ∙ sym t) (decimal_without 32 n (lit< tt) k)))
same_fields (m ∷ p ∷ ms) (n ∷ q ∷ ns) (h, hs) (k, ks) e =
    let t : decimal m ++ fields (p ∷ ms) ≡ decimal n ++ fields (q ∷ ns) = cc in
    let r = same_parts 32 (decimal m) _ (decimal n) _ (decimal_without 32 m (lit< tt) h) (decimal_without 32 n (lit< tt) k) t in
    ap₂ (λ (x : ℕ) (xs : List ℕ). x ∷ xs) (decimal_injective m n (omega arith) (omega arith) r.0)
    (same_fields (p ∷ ms) (q ∷ ns) hs ks (ap (λ (xs : List ℕ). 32 ∷ xs) r.1))

head : List ℕ → ℕ
head [] = 0
head (x ∷ xs) = x

tail : List ℕ → List ℕ
tail [] = []
tail (x ∷ xs) = xs

pub lawful : Lawful
unfolding head tail
lawful = record {
  once = λ c d h k e.
      let s : letter c ∷ fields (numbers c) ≡ letter d ∷ fields (numbers d)
      = append_cancel_right (letter c ∷ fields (numbers c)) (letter d ∷ fields (numbers d)) (10 ∷ []) (sym (front c) ∙ e ∙ front d) in
      sym (again c) ∙ ap₂ command (ap head s) (same_fields (numbers c) (numbers d) (small_numbers c h) (small_numbers d k) (ap tail s)) ∙ again d;
  short = λ c h.
      omega (arith, ap length (front c), length-append (letter c ∷ fields (numbers c)) (10 ∷ []), fields_short (numbers c) (small_numbers c h), few_numbers c);
  ended = λ c h.
      (letter c ∷ fields (numbers c), (front c, without_more 10 (letter c) (fields (numbers c)) (not_ten c) (fields_without (numbers c) (small_numbers c h))));
}
