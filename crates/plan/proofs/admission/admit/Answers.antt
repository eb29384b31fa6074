use Rattle.std.proofs.Common.{ℕ, ◌≡◌, ◌^◌, false, ltb, sym, subst, ◌∙◌}
use Rattle.plan.specs.ByTag.{Each, any}
use Rattle.plan.proofs.ByTags.{none_above}
use Rattle.plan.proofs.admission.admit.Goals as goal

pub weights-requires : goal.weights-requires
weights-requires c =
    none_above (2 ^ c.in_ok-width.width.bits) c.args.targets.now
    (subst (λ (n : ℕ). any (λ x. ltb n x) c.args.targets.now ≡ false) c.addresses.ensures (sym c.beyond.ensures ∙ c.if-beyond.false))

pub returns-clause-kept : goal.returns-clause-kept
returns-clause-kept c = subst (λ (W : ℕ). Each (λ x w. (w.width.bits ≡ W) × (w.addresses ≡ x)) c.args.targets.now c.weights.result) c.in_ok-width.ensures.kept c.weights.ensures
