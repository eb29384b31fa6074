use Rattle.std.proofs.Common.{List, reverse, ap, ◌∙◌, arith}
use Rattle.rules.specs.declared.rule.Rule.{Rule}
use Rattle.rules.proofs.Fewness.{L_most}
use Rattle.shares.proofs.Counting.{back_long}
use Rattle.shares.proofs.tables.table_text.Goals as goal

pub counted-given-requires-clause-few : goal.counted-given-requires-clause-few
counted-given-requires-clause-few c =
    let w = c.in-Ok.weight in
    let back = c.as_slice-2.ensures.value ∙ c.reverse.ensures.items ∙ ap (λ (rs : List Rule). reverse rs) c.in_ok-rules.ensures in
    omega (arith, back_long w.width.bits w.addresses _ _ back c.table.ensures.shortest, L_most w.width.bits w.addresses w.width.most w.inside)
