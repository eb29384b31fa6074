-- A table is counted, never refused.
use Rattle.std.proofs.Common.{◌≡◌, ℕ, List, reverse, length, Some, None, Option, IsSome, MatchOption, refl, ap, ◌∙◌}
use Rattle.std.proofs.lemmas.List.{length-reverse}
use Rattle.rules.specs.declared.rule.Rule.{Rule}
use Rattle.rules.specs.Shortest.{L}
use Rattle.rules.specs.Tables.{ShortestTable}

-- from the back a table is as long
pub back_long : (W d : ℕ) (rs back : List Rule) → back ≡ reverse rs → ShortestTable W d rs → length back ≡ L W d
back_long W d rs back e t = ap length e ∙ length-reverse rs ∙ t.long

-- what is None only where P holds is there where P does not
pub there : {X : Type 0} (o : Option X) (P : Type 0) (Q : X → Type 0) → (P → ⊥) → MatchOption o P Q → IsSome o
there None P Q not_so p = absurd (not_so p)
there (Some x) P Q not_so p = refl
