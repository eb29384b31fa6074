use Rattle.std.proofs.Common.{◌≡◌, ℕ, true, get_or, Some, None, sym, ap, ◌∙◌, subst, ap₂, arith}
use Rattle.std.proofs.lemmas.Grind.{common_steps}
use Rattle.rules.specs.Prefixes.{all_fit}
use Rattle.rules.specs.Tables.{table}
use Rattle.rules.specs.Walk.{to_come}
use Rattle.model.specs.Keyed.{table_of}
use Rattle.switch.proofs.Keying.{fit_at}
use Rattle.switch.proofs.tables.Tables.table.Goals as goal

pub returns : goal.returns
returns c =
    let W = c.args.self.width.bits in
    let ds = c.args.self.weights.now in
    let d = c.in_ok-weight.weight in
    let e : get_or ds c.args.tag None ≡ Some d = grind (arith, common_steps, c.in_ok-get.ensures, c.in_ok-weight.was) in
    let whole : c.capped.result.addresses ≡ d = omega (arith, c.capped.ensures.addresses, fit_at W ds c.args.tag d c.args.self.fit e) in
    let width : c.capped.result.width.bits ≡ W = ap (λ w. w.bits) c.capped.ensures.width in
    record {
      rules = c.table.ensures.rules ∙ ap₂ table width whole ∙ ap (table_of W) (sym e);
      fit = subst (λ (V : ℕ). all_fit V (to_come c.table.result) ≡ true) width c.table.ensures.shortest.fit;
      in_range = grind (arith, common_steps, c.in_ok-get.ensures);
    }
