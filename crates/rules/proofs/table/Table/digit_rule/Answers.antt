use Rattle.std.proofs.Common.{◌<◌, ℕ, ◌-◌, refl, ap, ◌∙◌, arith}
use Rattle.rules.proofs.Walking.{walk_rises, walk_falls, walk_stays}
use Rattle.rules.proofs.table.Table.digit_rule.Goals as goal

pub returns-then-old-new : goal.returns-then-old-new
returns-then-old-new c =
    let t = c.args.self.now in
    record {
      rule = walk_stays _ t.first _ c.args.place _ _ _ t.part.inside refl c.requires.old c.end-new.ensures c.if-old-new.true;
      stays = c.if-old-new.true ∙ c.end-new.ensures;
    }

pub returns-then-old-new-2-clause-rule : goal.returns-then-old-new-2-clause-rule
returns-then-old-new-2-clause-rule c =
    let t = c.args.self.now in
    let len = ap (λ (w : ℕ). w - c.args.place) c.bits.ensures in
    walk_rises _ t.first _ c.args.place _ _ _ t.part.inside len c.requires.old c.end-new.ensures _ _ c.if-old-new-2.true c.min.ensures refl

pub returns-else-old-new-2-clause-rule : goal.returns-else-old-new-2-clause-rule
returns-else-old-new-2-clause-rule c =
    let t = c.args.self.now in
    let len = ap (λ (w : ℕ). w - c.args.place) c.bits.ensures in
    let k : c.end-new.result < c.args.old = omega arith in
    walk_falls _ t.first _ c.args.place _ _ _ t.part.inside len c.requires.old c.end-new.ensures _ _ k c.min.ensures refl
