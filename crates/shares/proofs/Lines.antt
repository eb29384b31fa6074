-- Rule lines one behind the other.
use Rattle.std.proofs.Common.{◌≡◌, ℕ, ◌+◌, ◌<◌, List, [], ◌∷◌, ◌++◌, length, get_or, take, sym, refl, ap, ◌∙◌, append_assoc, append-nil}
use Rattle.std.proofs.lemmas.List.{take_more}
use Rattle.rules.specs.declared.rule.Rule.{Rule}
use Rattle.shares.specs.Texts.{rule_line, rule_lines}

lines_append : (ps qs : List Rule) → rule_lines (ps ++ qs) ≡ rule_lines ps ++ rule_lines qs
lines_append [] qs = refl
lines_append (p ∷ ps) qs = ap (λ (x : List ℕ). rule_line p ++ x) (lines_append ps qs) ∙ sym (append_assoc (rule_line p) (rule_lines ps) (rule_lines qs))

pub lines_more : (rs : List Rule) (i : ℕ) (d : Rule) → i < length rs
    → rule_lines (take (i + 1) rs) ≡ rule_lines (take i rs) ++ rule_line (get_or rs i d)
lines_more rs i d h =
    ap rule_lines (take_more rs i d h) ∙ lines_append (take i rs) (get_or rs i d ∷ [])
    ∙ ap (λ (x : List ℕ). rule_lines (take i rs) ++ x) (append-nil (rule_line (get_or rs i d)))
