-- The lines that a console answers with.
use Rattle.std.specs.Prelude.{ℕ, List, ◌++◌, Some, None, codes, decimal, Option}
use Rattle.rules.specs.declared.server.Server.{Server}
use Rattle.rules.specs.Servers.{server_number}
-- The line of a refusal.
pub use Rattle.text.specs.Refused.{refusal_line}

-- An order that was run to rest: the worst miss, the rules of all services, and the steps that it took.
abbrev pub ok_line : ℕ → ℕ → ℕ → List ℕ
ok_line worst rules steps = codes "ok " ++ (decimal worst ++ (codes " " ++ (decimal rules ++ (codes " " ++ (decimal steps ++ codes "\n")))))

-- The server of a look, and 0 for none.
abbrev pub seen_number : Option Server → ℕ
seen_number None = 0
seen_number (Some s) = server_number s

abbrev pub seen_line : Option Server → List ℕ
seen_line s = codes "s " ++ (decimal (seen_number s) ++ codes "\n")
