-- The grounds for a refusal that the two calls try, each list in its order.
use Rattle.std.specs.Prelude.{ℕ, ◌*◌, ◌^◌, not, List, [], ◌∷◌, length, nat_lt}
use Rattle.rules.specs.declared.refusal.Refusal.TheVariants.{WidthOutOfRange, BeyondWidth, RuleCountOutOfRange, BrokenLayout, BufferTooShort}
use Rattle.rules.specs.Grounds.{bad_width}
use Rattle.rules.specs.Refusals.{Ground, ◌when◌}
use Rattle.rules.specs.Shortest.{L}
use Rattle.controller.specs.Records.{in_layout}

-- A width, a weight, and a buffer of n bytes: eight for each rule of the table.
abbrev pub table_grounds : ℕ → ℕ → ℕ → List Ground
table_grounds W d n =
    (WidthOutOfRange when bad_width W) ∷ (BeyondWidth when nat_lt (2 ^ W) d) ∷ (BufferTooShort when nat_lt n (8 * L W d)) ∷ []

-- A width and some records: at most 1,024 of them, where one that is cut short counts as well, and all by the layout.
abbrev pub record_grounds : ℕ → List ℕ → List Ground
record_grounds W bytes =
    (WidthOutOfRange when bad_width W) ∷ (RuleCountOutOfRange when nat_lt (8 * 1024) (length bytes)) ∷ (BrokenLayout when not (in_layout W bytes)) ∷ []
