use Rattle.std.proofs.Common.{get_or, Some, sym, ap, ◌∙◌, arith}
use Rattle.memory.specs.RowLaws.{row_held}
use Rattle.memory.proofs.RowSearches.{found, missing}
use Rattle.memory.proofs.slots.SlotsReader.held.Goals as goal

pub returns-in_err-i : goal.returns-in_err-i
returns-in_err-i c = c.from_residual.ensures ∙ sym (missing c.args.self.now.rows.items c.args.prefix.value c.args.prefix.length (c.in_err-i.ensures))

pub returns : goal.returns
returns c =
    let rs = c.args.self.now.rows.items in
    let v = c.args.prefix.value in
    let l = c.args.prefix.length in
    let got = c.index.result.now in
    let there = found rs v l c.in_ok-i.i (c.in_ok-i.ensures) in
    ap (λ r. Some r.rule.server) c.index.ensures
    ∙ ap (λ i. Some (get_or rs i got).rule.server) there.0
    ∙ sym (row_held rs v l got (omega (arith, there.0, there.1)))
