use Rattle.std.proofs.Common.{sym, ◌∙◌}
use Rattle.rules.specs.declared.rule.Rule.{Rule}
use Rattle.rules.specs.declared.server.Server.TheVariants.{One}
use Rattle.rules.proofs.Blocks.{unmet, met, decided, undecided, shared_whole, shared_halves}
use Rattle.rules.proofs.counter.RuleList.+shares.Goals as goal

abbrev none : Rule
none = record { start = 0; length = 0; server = One }

pub returns-in_default-clause-shared : goal.returns-in_default-clause-shared
returns-in_default-clause-shared t c =
    shared_whole _ _ _ _ _ _ _ c.whole.ensures c.addresses.ensures (unmet _ _ _ _ (sym c.first_meeting.ensures ∙ c.in_default.is))

pub returns-then-covers-clause-shared : goal.returns-then-covers-clause-shared
returns-then-covers-clause-shared t c =
    let m = met _ _ _ _ _ _ none (sym c.first_meeting.ensures ∙ c.in-Some.is) c.split_at.ensures.back in
    shared_whole _ _ _ _ _ _ _ c.whole-then-covers.ensures c.addresses-then-covers.ensures
    (decided _ _ _ _ _ _ c.block.result m c.block.ensures.start c.block.ensures.bits (sym c.covers.ensures ∙ c.if-covers.true))

pub halves-requires : goal.halves-requires
halves-requires t c =
    let m = met _ _ _ _ _ _ none (sym c.first_meeting.ensures ∙ c.in-Some.is) c.split_at.ensures.back in
    undecided _ _ _ _ _ _ c.block.result m c.block.ensures.start c.block.ensures.bits (sym c.covers.ensures ∙ c.if-covers.false)

pub returns-clause-shared : goal.returns-clause-shared
returns-clause-shared t c =
    let m = met _ _ _ _ _ _ none (sym c.first_meeting.ensures ∙ c.in-Some.is) c.split_at.ensures.back in
    let h = c.halves.ensures in
    shared_halves _ _ _ _ _ _ _ _ _ _ _ m.alike h.low.0 h.high.0 h.high.1 h.all c.shares-low.ensures.shared c.shares-high.ensures.shared
