use Rattle.std.proofs.Common.{map, string_bytes, sym, ap, ◌∙◌}
use Rattle.std.proofs.lemmas.Option.{MatchOption-at_none}
use Rattle.shares.proofs.Words.{no_request}
use Rattle.shares.proofs.request.read_request.Goals as goal

pub returns-in_default-2 : goal.returns-in_default-2
returns-in_default-2 c =
    let e = ap (λ ws. map string_bytes ws) c.in-Some.ensures.cases.0 in
    let n = MatchOption-at_none _ _ c.in_default-2.is c.in_ok-numbers.ensures in
    λ q small s. no_request (string_bytes c.in-Some.order.now) (map string_bytes c.in-Some.rest.now) n q small (sym e ∙ s)
