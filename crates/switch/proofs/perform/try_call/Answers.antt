use Rattle.std.proofs.Common.{Ok, Err}
use Rattle.std.proofs.lemmas.Result.{err_from_is_err_and}
use Rattle.switch.specs.Desks.{desk}
use Rattle.switch.proofs.Carrying.{accepted, stepped, closed_by, looked}
use Rattle.switch.proofs.perform.try_call.Goals as goal

pub returns-in_ok-changing-in-Accept-Drafted : goal.returns-in_ok-changing-in-Accept-Drafted
returns-in_ok-changing-in-Accept-Drafted g c =
    rw (c.in-Accept-Drafted.is-0, c.in-Accept-Drafted.is-1)
    (accepted _ (desk c.args.register.now) _ c.in-Accept-Drafted.draft c.in_ok-changing-in-Accept-Drafted.changing (desk c.accept.new.register) c.accept.ensures.register)

pub returns-in_ok-changing-in-Step-Changing : goal.returns-in_ok-changing-in-Step-Changing
returns-in_ok-changing-in-Step-Changing g c =
    let i = c.in_ok-changing-in-Step-Changing in
    rw (c.in-Step-Changing.is-0, c.in-Step-Changing.is-1)
    (stepped _ _ _ c.in-Step-Changing.changing i.changing _ _ (Ok i.changing)
    (g.met.M.Reader.counted c.args.memory.now) i.ensures.refused c.step.ensures.register c.step.ensures.held c.step.ensures.limit)

pub returns-in_err-changing-in-Step-Changing : goal.returns-in_err-changing-in-Step-Changing
returns-in_err-changing-in-Step-Changing g c =
    let i = c.in_err-changing-in-Step-Changing in
    let f = c.from_residual-in_err-changing-in-Step-Changing in
    let p = err_from_is_err_and f.result f.ensures.1 in
    rw (p.1, p.2, c.in-Step-Changing.is-0, c.in-Step-Changing.is-1)
    (stepped _ _ _ c.in-Step-Changing.changing i.field-0.0.state _ _ (Err i.field-0.0)
    (g.met.M.Reader.counted c.args.memory.now) i.ensures.refused c.step.ensures.register c.step.ensures.held c.step.ensures.limit)

pub returns-in_ok-resting-in-Close-Changing : goal.returns-in_ok-resting-in-Close-Changing
returns-in_ok-resting-in-Close-Changing g c =
    let i = c.in_ok-resting-in-Close-Changing in
    rw (c.in-Close-Changing.is-0, c.in-Close-Changing.is-1)
    (closed_by _ _ _ c.in-Close-Changing.changing i.resting _ i.ensures.refused c.close.ensures.register)

pub returns-in_ok-server-in-Look-default : goal.returns-in_ok-server-in-Look-default
returns-in_ok-server-in-Look-default g c =
    let i = c.in_ok-server-in-Look-default in
    let (e, same) = i.ensures in
    rw (c.in-Look-default.is-0, same)
    (looked _ _ _ c.args.state c.in-Look-default.tag c.in-Look-default.address i.server
    (rw e at c.look.ensures.refused) (rw e at c.look.ensures.seen))
