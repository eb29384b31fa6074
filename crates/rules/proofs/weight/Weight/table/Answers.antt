use Rattle.std.proofs.Common.{ℕ, List, ◌∷◌, sym, ap, ◌∙◌, subst, arith}
use Rattle.rules.specs.declared.rule.Rule.{Rule}
use Rattle.rules.specs.declared.server.Server.TheVariants.{One}
use Rattle.rules.specs.declared.width.Width.{Width}
use Rattle.rules.specs.Digits.{D}
use Rattle.rules.specs.Tables.{all_to, ShortestTable}
use Rattle.rules.specs.Walk.{digits_left}
use Rattle.rules.proofs.Tables.{table_laws}
use Rattle.rules.proofs.Walking.{table_below, table_above}
use Rattle.rules.proofs.weight.Weight.table.Goals as goal

pub returns-then-digit_count : goal.returns-then-digit_count
returns-then-digit_count c =
    let d = c.args.self in
    let e = c.fresh.ensures ∙ table_below d.width.bits d.addresses d.inside (omega (arith, ap D c.complement-complement.ensures.addresses)) in
    record {
      rules = e;
      shortest = subst (λ (rs : List Rule). ShortestTable d.width.bits d.addresses rs) (sym e) (table_laws d.width.bits d.addresses d.inside);
    }

pub returns-else-digit_count : goal.returns-else-digit_count
returns-else-digit_count c =
    let d = c.args.self in
    let w = ap (λ (w : Width). w.bits) c.complement-complement.ensures.width in
    let e =
    c.fresh-else-digit_count.ensures
    ∙ ap (λ (W : ℕ). all_to One ∷ digits_left W One c.complement-complement.result.addresses W) w
    ∙ table_above d.width.bits d.addresses _ c.complement-complement.ensures.addresses d.inside (omega arith)
    in
    record {
      rules = e;
      shortest = subst (λ (rs : List Rule). ShortestTable d.width.bits d.addresses rs) (sym e) (table_laws d.width.bits d.addresses d.inside);
    }
