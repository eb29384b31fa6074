-- What a rule prints.
use Rattle.std.specs.Prelude.{ℕ, List, ◌++◌, codes, decimal}
use Rattle.rules.specs.declared.rule.Rule.{Rule}
use Rattle.rules.specs.Servers.{server_number}

-- Start, length and server, with a space between.
abbrev pub rule_text : Rule → List ℕ
rule_text r = decimal r.start ++ (codes " " ++ (decimal r.length ++ (codes " " ++ decimal (server_number r.server))))
