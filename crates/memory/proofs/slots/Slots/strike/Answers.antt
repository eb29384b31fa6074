use Rattle.std.proofs.Common.{vec_items, refl, ap, ◌∙◌, arith}
use Rattle.std.specs.List.{remove}
use Rattle.memory.specs.Holding.{apart}
use Rattle.memory.specs.Rows.{row_prefixes, falling, in_rows}
use Rattle.memory.specs.RowLaws.{rows_removed, apart_removed, falling_removed}
use Rattle.memory.proofs.slots.Slots.strike.Goals as goal

pub invariant_of-self : goal.invariant_of-self
invariant_of-self c =
    let rs = vec_items c.args.self.now.rows in
    record {
      ordered = ap (λ xs. falling 32 (row_prefixes xs)) c.remove.ensures.items ∙ falling_removed 32 rs c.args.i c.args.self.now.ordered;
      once = ap (λ xs. apart (row_prefixes xs)) c.remove.ensures.items ∙ apart_removed rs c.args.i c.args.self.now.once;
      few = omega (arith, c.remove.ensures.len, c.args.self.now.few);
      reserved = omega (arith, c.remove.ensures.capacity, c.args.self.now.reserved);
      fitted = c.args.self.now.fitted;
    }

pub returns : goal.returns
returns c =
    let rs = vec_items c.args.self.now.rows in
    record {
      holds = λ w k. ap (λ xs. in_rows xs w k) c.remove.ensures.items ∙ ap (λ i. in_rows (remove rs i) w k) c.requires.row
          ∙ rows_removed rs c.args.prefix w k c.args.self.now.once (omega (arith, c.requires.row, c.requires.within, c.args.self.now.rows.ok.0));
      len = c.remove.ensures.len;
      capacity = refl;
    }
