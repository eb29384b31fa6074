-- A table's rules one after the other.
use Rattle.std.specs.Prelude.{◌≡◌, ℕ, ◌-◌, ◌*◌, ◌^◌, List, [], ◌∷◌, ◌++◌, take, Option, MatchOption, option_to_list}
use Rattle.rules.specs.declared.rule.Rule.{Rule}
use Rattle.rules.specs.declared.server.Server.{Server}
use Rattle.rules.specs.declared.server.Server.TheVariants.{One, Two}
use Rattle.rules.specs.declared.table.Table.{Table}
use Rattle.rules.specs.Digits.{after, digits}
use Rattle.rules.specs.Tables.{Term, terms, from_below, from_above}

-- Where server 1's addresses end once the digits of n from the place p up are worked. From below n is server 1's part, from above server 2's.
abbrev pub end_at : ℕ → Server → ℕ → ℕ → ℕ
end_at W Two n p = after p n * 2 ^ p
end_at W One n p = 2 ^ W - after p n * 2 ^ p

abbrev pub worked : ℕ → Server → ℕ → List Term → List Rule
worked W Two u q = from_below W u q
worked W One u q = from_above W u q

-- The rules of the digits below the place p.
unfoldable pub digits_left : ℕ → Server → ℕ → ℕ → List Rule
digits_left W first n p = worked W first (end_at W first n p) (terms 0 (take p (digits n)))

abbrev pub left_at : Table → ℕ → List Rule
left_at t p = digits_left t.part.width.bits t.first t.part.addresses p

-- The rules that a table has still to give.
unfoldable pub to_come : Table → List Rule
to_come t = option_to_list t.opening ++ left_at t t.place

-- One rule is taken off the front, or there was none.
abbrev pub Gives : Table → Option Rule → Table → Type 0
Gives t r t' = MatchOption r ((to_come t ≡ []) × (to_come t' ≡ [])) (λ rule. to_come t ≡ rule ∷ to_come t')
