use Rattle.std.proofs.Common.{◌≡◌, ◌+◌, cond, vec_items, vec_len, refl, ap, ◌∙◌, arith}
use Rattle.std.specs.List.{insert}
use Rattle.memory.specs.Holding.{apart}
use Rattle.memory.specs.Rows.{row_prefixes, falling, in_rows, place_of}
use Rattle.memory.specs.RowLaws.{rows_inserted, apart_inserted, falling_inserted, place_le, short_enough}
use Rattle.memory.proofs.slots.Slots.add.Goals as goal

pub insert-requires : goal.insert-requires
insert-requires c = omega (arith, place_le (vec_items c.args.self.now.rows) c.args.row.rule.prefix.length, c.place_of-i.ensures, c.args.self.now.rows.ok.0)

now_rows : (c : goal.After-insert) → vec_items c.insert.new.self ≡ insert (vec_items c.args.self.now.rows) (place_of (vec_items c.args.self.now.rows) c.args.row.rule.prefix.length) c.args.row
now_rows c =
    let rs = vec_items c.args.self.now.rows in
    let ok = c.insert.ensures.succeeds (omega (arith, c.requires.room, c.args.self.now.reserved, c.args.self.now.fitted)) in
    c.insert.ensures.items ∙ ap (λ b. cond b (insert rs c.place_of-i.result c.args.row) rs) ok ∙ ap (λ i. insert rs i c.args.row) c.place_of-i.ensures

now_len : (c : goal.After-insert) → vec_len c.insert.new.self ≡ vec_len c.args.self.now.rows + 1
now_len c =
    let ok = c.insert.ensures.succeeds (omega (arith, c.requires.room, c.args.self.now.reserved, c.args.self.now.fitted)) in
    c.insert.ensures.len ∙ ap (λ b. cond b (vec_len c.args.self.now.rows + 1) (vec_len c.args.self.now.rows)) ok

pub invariant_of-self : goal.invariant_of-self
invariant_of-self c =
    let rs = vec_items c.args.self.now.rows in
    let e = now_rows c in
    record {
      ordered = ap (λ xs. falling 32 (row_prefixes xs)) e ∙ falling_inserted c.args.row 32 rs c.args.self.now.ordered (short_enough c.args.row);
      once = ap (λ xs. apart (row_prefixes xs)) e ∙ apart_inserted c.args.row rs c.args.self.now.once c.requires.fresh;
      few = omega (arith, now_len c, c.requires.room, c.args.self.now.fitted);
      reserved = omega (arith, c.insert.ensures.capacity, c.args.self.now.reserved);
      fitted = c.args.self.now.fitted;
    }

pub returns : goal.returns
returns c =
    let rs = vec_items c.args.self.now.rows in
    let ok = c.insert.ensures.succeeds (omega (arith, c.requires.room, c.args.self.now.reserved, c.args.self.now.fitted)) in
    record {
      holds = λ w k. ap (λ xs. in_rows xs w k) (c.insert.ensures.items ∙ ap (λ b. cond b (insert rs c.place_of-i.result c.args.row) rs) ok ∙ ap (λ i. insert rs i c.args.row) c.place_of-i.ensures) ∙ rows_inserted c.args.row rs w k;
      len = c.insert.ensures.len ∙ ap (λ b. cond b (vec_len c.args.self.now.rows + 1) (vec_len c.args.self.now.rows)) ok;
      capacity = refl;
    }
