use Rattle.std.proofs.Common.{ℕ, ◌^◌, ◌≤◌, IfOk, subst}
use Rattle.std.proofs.lemmas.Result.{IfOk-weaker}
use Rattle.plan.specs.ByTag.{Every}
use Rattle.plan.specs.Even.{even}
use Rattle.plan.specs.Plans.{Plan}
use Rattle.shares.proofs.Planning.{each_inside}
use Rattle.shares.proofs.plans.plan_in_order.Goals as goal

pub returns-clause-inside : goal.returns-clause-inside
returns-clause-inside c =
    subst (λ (W : ℕ). IfOk c.plan.result (λ p. Every (λ d. d ≤ 2 ^ W) p.weights)) c.bits.ensures
    (IfOk-weaker c.plan.result (λ p. Plan even c.bits.result c.args.capacity c.by_tag.result p.weights p.worst p.rules) _
    (λ p h. each_inside even c.bits.result p.worst c.by_tag.result p.weights h.given) c.plan.ensures.words)
