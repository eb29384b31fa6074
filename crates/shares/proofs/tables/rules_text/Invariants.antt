use Rattle.std.proofs.Common.{◌≡◌, take, string_bytes}
use Rattle.shares.specs.Texts.{rule_lines}
use Rattle.shares.proofs.tables.rules_text.Given as goal

abbrev pub invariant-loop-rule : goal.invariant-loop-rule
invariant-loop-rule l = string_bytes l.text ≡ rule_lines (take l.rule-index l.rules)
