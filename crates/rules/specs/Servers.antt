-- The servers by number.
use Rattle.std.specs.Prelude.{ℕ, cond, Some, None, Option, ◌==◌}
use Rattle.rules.specs.declared.server.Server.{Server}
use Rattle.rules.specs.declared.server.Server.TheVariants.{One, Two}

abbrev pub server_number : Server → ℕ
server_number One = 1
server_number Two = 2

-- The server of a number, if it has one.
abbrev pub server_of : ℕ → Option Server
server_of n = cond (n == 1) (Some One) (cond (n == 2) (Some Two) None)
