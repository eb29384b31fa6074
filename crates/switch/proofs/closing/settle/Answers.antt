use Rattle.switch.proofs.Registered.{comes}
use Rattle.switch.proofs.closing.settle.Goals as goal

pub invariant_of-register-clause-targets_fit : goal.invariant_of-register-clause-targets_fit
invariant_of-register-clause-targets_fit c = rw c.apply-targets.ensures.value (comes c.args.register.now c.in-Some.change c.in-Some.is).services.fit

pub invariant_of-register-clause-weights_fit : goal.invariant_of-register-clause-weights_fit
invariant_of-register-clause-weights_fit c = (comes c.args.register.now c.in-Some.change c.in-Some.is).weights

pub invariant_of-register-clause-room : goal.invariant_of-register-clause-room
invariant_of-register-clause-room c = rw c.apply-targets.ensures.value (comes c.args.register.now c.in-Some.change c.in-Some.is).services.room
