use Rattle.std.proofs.Common.{◌≡◌, string_bytes}
use Rattle.std.proofs.lemmas.Result.{IfOk-weaker}
use Rattle.std.proofs.lemmas.Option.{MatchOption-at_some}
use Rattle.shares.specs.Texts.{text_of, to}
use Rattle.shares.proofs.report.answer.Goals as goal

pub returns-in-Some : goal.returns-in-Some
returns-in-Some c =
    let q = MatchOption-at_some _ _ _ c.in-Some.is c.in_ok-request.ensures in
    IfOk-weaker c.request_text.result (λ text. string_bytes text ≡ text_of c.in-Some.request) _ (λ text e. to c.in-Some.request q e) c.request_text.ensures
