use Rattle.std.proofs.Common.{sym, ◌∙◌, arith}
use Rattle.std.proofs.lemmas.Bool.{both_ways, eqb-true}
use Rattle.memory.proofs.Exact.{not_many, when_held}
use Rattle.memory.proofs.contents.holds_exactly.Goals as goal
use Rattle.memory.proofs.contents.holds_exactly.Goals.{then-count-rules, else-count-rules}

pub returns-then-are_apart : goal.returns-then-are_apart
returns-then-are_apart g c =
    let me = c.args.reader.now in
    elim c.if-count-rules.branch [
      | then-count-rules w ↦ when_held (g.R.Reader.held_at me) (g.R.Reader.size me) c.args.rules.now (g.met.R.Reader.counted me) (omega (arith, c.count.ensures, w.if-count-rules.true)) (sym w.are_apart.ensures ∙ sym w.value-is ∙ c.if-are_apart.true) c.holds_all.result c.holds_all.ensures
      | else-count-rules w ↦ absurd (omega (arith, w.if-count-rules.false, eqb-true c.count.result _ (sym w.value-is ∙ c.if-are_apart.true)))
    ]

pub returns-else-are_apart : goal.returns-else-are_apart
returns-else-are_apart g c =
    let me = c.args.reader.now in
    rw c.if-are_apart.false
    (λ e. elim c.if-count-rules.branch [
      | then-count-rules w ↦ both_ways _ (sym w.are_apart.ensures ∙ sym w.value-is ∙ c.if-are_apart.false) e.once
      | else-count-rules w ↦ not_many (g.R.Reader.held_at me) (g.R.Reader.size me) c.args.rules.now (g.met.R.Reader.counted me) (λ same. omega (arith, same, c.count.ensures, w.if-count-rules.false)) e
    ])
