use Rattle.std.proofs.Common.{◌≡◌, ◌+◌, cond, length, drop, Some, None, sym, ap, ◌∙◌, arith}
use Rattle.memory.specs.Looks.{longest}
use Rattle.memory.specs.Rows.{in_rows, first_match}
use Rattle.memory.proofs.Longest.{looked}
use Rattle.memory.proofs.RowSearches.{match_at, match_none}
use Rattle.memory.specs.RowLaws.{first_longest}
use Rattle.memory.proofs.slots.SlotsReader.look.Goals as goal

pub returns-then-covers : goal.returns-then-covers
returns-then-covers c =
    let rs = c.args.self.now.rows.items in
    let s = match_at rs c.loop-row.row-index c.row-item.result c.args.key c.deref-row-items.ensures.value c.loop-row-test.true c.row-item.is in
    let value : Some c.row-item.result.rule.server ≡ longest (in_rows c.args.self.now.rows.items) c.args.key =
    sym (sym c.loop-row.invariant ∙ s ∙ ap (λ b. cond b (Some c.row-item.result.rule.server) (first_match (drop (c.loop-row.row-index + 1) rs) c.args.key)) (sym c.if-covers.ensures))
    ∙ first_longest 32 rs c.args.key (omega arith) c.args.self.now.ordered in
    record { value = value; best = looked (in_rows rs) c.args.key (Some c.row-item.result.rule.server) value (omega arith) }

pub loop-row-preserved : goal.loop-row-preserved
loop-row-preserved c =
    let rs = c.args.self.now.rows.items in
    let s = match_at rs c.loop-row.row-index c.row-item.result c.args.key c.deref-row-items.ensures.value c.loop-row-test.true c.row-item.is in
    sym (s ∙ ap (λ b. cond b (Some c.row-item.result.rule.server) (first_match (drop (c.loop-row.row-index + 1) rs) c.args.key)) (sym c.if-covers.ensures)) ∙ c.loop-row.invariant

pub returns : goal.returns
returns c =
    let rs = c.args.self.now.rows.items in
    let value : None ≡ longest (in_rows c.args.self.now.rows.items) c.args.key =
    sym (sym c.loop-row.invariant ∙ match_none rs c.loop-row.row-index c.args.key (omega (arith, ap length c.deref-row-items.ensures.value)))
    ∙ first_longest 32 rs c.args.key (omega arith) c.args.self.now.ordered in
    record { value = value; best = looked (in_rows rs) c.args.key None value (omega arith) }
