use Rattle.std.proofs.Common.{None, sym}
use Rattle.std.proofs.lemmas.Result.{err_from_is_err_and}
use Rattle.switch.specs.declared.register.Register.{Register}
use Rattle.switch.proofs.Admission.{plan_refuses, plan_fits}
use Rattle.switch.proofs.Registered.{fits}
use Rattle.switch.proofs.prospect.foresee.Goals as goal

pub returns-in_err-planned-clause-refused : goal.returns-in_err-planned-clause-refused
returns-in_err-planned-clause-refused g c =
    let p = err_from_is_err_and c.from_residual-in_err-planned.result c.from_residual-in_err-planned.ensures.1 in
    let r : Register = c.args.register.now in
    rw (p.1, p.2) (
    plan_refuses r.width.bits r.capacity r.targets r.width.some r.width.most (fits r)
    (g.E.Measure.miss c.args.measure.now) (g.met.E.Measure.lawful c.args.measure.now) c.args.order (sym c.in_ok-admit.ensures)
    c.bits.result c.apply-targets.result c.bits.ensures c.apply-targets.ensures.value _ c.in_err-planned.ensures.refused)

pub new-coming-requires : goal.new-coming-requires
new-coming-requires g c =
    let r : Register = c.args.register.now in
    plan_fits r.width.bits r.capacity r.targets r.width.some r.width.most (fits r)
    (g.E.Measure.miss c.args.measure.now) (g.met.E.Measure.lawful c.args.measure.now) c.args.order (sym c.in_ok-admit.ensures)
    c.bits.result c.apply-targets.result c.bits.ensures c.apply-targets.ensures.value
    c.in_ok-planned.ensures.refused _ c.in_ok-planned.ensures.weights

pub returns-clause-refused : goal.returns-clause-refused
returns-clause-refused g c =
    let r : Register = c.args.register.now in
    plan_refuses r.width.bits r.capacity r.targets r.width.some r.width.most (fits r)
    (g.E.Measure.miss c.args.measure.now) (g.met.E.Measure.lawful c.args.measure.now) c.args.order (sym c.in_ok-admit.ensures)
    c.bits.result c.apply-targets.result c.bits.ensures c.apply-targets.ensures.value None c.in_ok-planned.ensures.refused
