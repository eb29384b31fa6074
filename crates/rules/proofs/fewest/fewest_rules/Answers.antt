use Rattle.std.proofs.Common.{ℕ, sym, ap₂, ◌∙◌, subst}
use Rattle.std.proofs.lemmas.Result.{err_from_is_err_and}
use Rattle.rules.specs.Shortest.{L, LeastRules}
use Rattle.rules.proofs.Bound.{least_rules}
use Rattle.rules.proofs.Minimal.{digit_laws}
use Rattle.rules.proofs.fewest.fewest_rules.Goals as goal

pub returns-in_err-weight : goal.returns-in_err-weight
returns-in_err-weight c =
    let p = err_from_is_err_and c.from_residual.result c.from_residual.ensures.1 in
    rw (p.1, p.2) (record { refused = c.in_err-weight.ensures.refused; count = tt; least = tt; digits = digit_laws })

pub returns : goal.returns
returns c =
    let k = c.in_ok-weight.ensures in
    let e = c.fewest_rules.ensures ∙ ap₂ L k.kept.0 k.kept.1 in
    record {
      refused = k.refused;
      count = e;
      least = subst (λ (n : ℕ). LeastRules c.args.width c.args.weight n) (sym e) (least_rules c.args.width c.args.weight);
      digits = digit_laws;
    }
