use Rattle.std.proofs.Common.{◌≡◌, ℕ, sym, refl, ap, ◌∙◌, subst, arith}
use Rattle.memory.specs.declared.key.KeyRule.{KeyRule}
use Rattle.std.proofs.Common.{Some}
use Rattle.memory.specs.Holding.{at}
use Rattle.memory.specs.Rows.{in_rows, row_of}
use Rattle.memory.specs.Writes.{written}
use Rattle.memory.specs.RowLaws.{row_some}
use Rattle.memory.proofs.RowSearches.{found, missing}
use Rattle.memory.proofs.Writing.{put_full, put_new, put_old}
use Rattle.memory.proofs.slots.SlotsRuleMemory.put.Goals as goal

pub replace-requires : goal.replace-requires
replace-requires c =
    let rs = c.args.self.now.rows.items in
    let there = found rs c.args.rule.prefix.value c.args.rule.prefix.length c.in-Some.i c.in-Some.ensures in
    record {
      row = there.0 ∙ sym (ap (λ (x : KeyRule). row_of rs x.prefix.value x.prefix.length) c.new-row.ensures);
      within = omega (arith, there.1, c.args.self.now.rows.ok.0);
    }

pub returns-in-Some-clause-rules : goal.returns-in-Some-clause-rules
returns-in-Some-clause-rules c =
    let rs = c.args.self.now.rows.items in
    let there = found rs c.args.rule.prefix.value c.args.rule.prefix.length c.in-Some.i c.in-Some.ensures in
    let old = row_some rs c.args.rule.prefix.value c.args.rule.prefix.length (omega (arith, there.0, there.1)) in
    put_old c.args.self.now.capacity c.args.rule tt (sym c.if-not-is_well_formed.ensures) old.0 old.1
    (subst (λ (x : KeyRule). (v l : ℕ) → in_rows c.replace.new.self.rows.items v l ≡ written (in_rows rs) x.prefix (Some x.server) v l) c.new-row.ensures c.replace.ensures.holds)
    c.replace.ensures.len

pub returns-then-count-self-clause-rules : goal.returns-then-count-self-clause-rules
returns-then-count-self-clause-rules c =
    put_full c.args.self.now.capacity c.args.rule (sym c.if-not-is_well_formed.ensures)
    (missing c.args.self.now.rows.items c.args.rule.prefix.value c.args.rule.prefix.length c.in_default.ensures)
    (omega (arith, c.count.ensures, c.if-count-self.true)) (λ v l. refl) refl

pub add-requires-clause-fresh : goal.add-requires-clause-fresh
add-requires-clause-fresh c =
    let rs = c.args.self.now.rows.items in
    ap (λ (x : KeyRule). at (in_rows rs) x.prefix) c.new-row.ensures ∙ missing rs c.args.rule.prefix.value c.args.rule.prefix.length c.in_default.ensures

pub returns-clause-rules : goal.returns-clause-rules
returns-clause-rules c =
    let rs = c.args.self.now.rows.items in
    put_new c.args.self.now.capacity c.args.rule tt (sym c.if-not-is_well_formed.ensures)
    (missing rs c.args.rule.prefix.value c.args.rule.prefix.length c.in_default.ensures)
    (omega (arith, c.count.ensures, c.if-count-self.false))
    (subst (λ (x : KeyRule). (v l : ℕ) → in_rows c.add.new.self.rows.items v l ≡ written (in_rows rs) x.prefix (Some x.server) v l) c.new-row.ensures c.add.ensures.holds)
    c.add.ensures.len
