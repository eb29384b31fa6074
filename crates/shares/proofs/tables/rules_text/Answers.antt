use Rattle.std.proofs.Common.{List, ℕ, ◌++◌, get_or, sym, ap, ◌∙◌, arith}
use Rattle.rules.specs.declared.rule.Rule.{Rule}
use Rattle.rules.specs.declared.server.Server.TheVariants.{One}
use Rattle.shares.specs.Texts.{rule_line}
use Rattle.shares.proofs.Lines.{lines_more}
use Rattle.shares.proofs.tables.rules_text.Goals as goal

pub loop-rule-preserved : goal.loop-rule-preserved
loop-rule-preserved c =
    let none : Rule = record { start = 0; length = 0; server = One } in
    let rule = get_or c.args.rules.now c.loop-rule.rule-index none in
    c.in_ok-writeln.ensures.bytes ∙ ap (λ (x : List ℕ). x ++ rule_line rule) c.loop-rule.invariant
    ∙ sym (lines_more c.args.rules.now c.loop-rule.rule-index none (omega arith))
