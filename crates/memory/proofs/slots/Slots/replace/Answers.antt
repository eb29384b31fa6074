use Rattle.std.proofs.Common.{◌<◌, length, set, vec_items, refl, ap, ◌∙◌, arith}
use Rattle.memory.specs.Holding.{apart}
use Rattle.memory.specs.Rows.{row_prefixes, falling, in_rows, row_of}
use Rattle.memory.specs.RowLaws.{rows_set, prefixes_set}
use Rattle.memory.proofs.slots.Slots.replace.Goals as goal

pub invariant_of-self : goal.invariant_of-self
invariant_of-self c =
    let rs = vec_items c.args.self.now.rows in
    let x = c.args.row in
    let low : row_of (vec_items c.args.self.now.rows) c.args.row.rule.prefix.value c.args.row.rule.prefix.length < length (vec_items c.args.self.now.rows) = omega (arith, c.requires.row, c.requires.within, c.args.self.now.rows.ok.0) in
    let e = ap (λ i. row_prefixes (set rs i x)) c.requires.row ∙ prefixes_set x rs low in
    record {
      ordered = ap (falling 32) e ∙ c.args.self.now.ordered;
      once = ap apart e ∙ c.args.self.now.once;
      few = c.args.self.now.few;
      reserved = c.args.self.now.reserved;
      fitted = c.args.self.now.fitted;
    }

pub returns : goal.returns
returns c =
    let rs = vec_items c.args.self.now.rows in
    let x = c.args.row in
    let low : row_of (vec_items c.args.self.now.rows) c.args.row.rule.prefix.value c.args.row.rule.prefix.length < length (vec_items c.args.self.now.rows) = omega (arith, c.requires.row, c.requires.within, c.args.self.now.rows.ok.0) in
    record { holds = λ w k. ap (λ i. in_rows (set rs i x) w k) c.requires.row ∙ rows_set x rs w k low; len = refl; capacity = refl }
