-- The line that tells a refusal.
use Rattle.std.specs.Prelude.{ℕ, List, ◌++◌, codes, decimal}
use Rattle.rules.specs.declared.refusal.Refusal.{Refusal}
use Rattle.rules.specs.Refusals.{refusal_number}

abbrev pub refusal_line : Refusal → List ℕ
refusal_line why = codes "no " ++ (decimal (refusal_number why) ++ codes "\n")
