use Rattle.std.proofs.Common.{◌≡◌, ℕ, length, decimal, ap, arith}
use Rattle.rules.specs.Servers.{server_number}
use Rattle.switch.specs.Listings.{under}
use Rattle.switch.proofs.Spelling.{line_long}
use Rattle.switch.proofs.listing.measure_line.Goals as goal

pub returns : goal.returns
returns c =
    let e : c.from-server.result ≡ server_number c.args.rule.server = cc in
    record { value = omega (arith, line_long (under c.args.tag c.args.rule), ap (λ (n : ℕ). length (decimal n)) e); small = omega arith }
