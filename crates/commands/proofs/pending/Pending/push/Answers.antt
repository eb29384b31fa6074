use Rattle.std.proofs.Common.{arith}
use Rattle.commands.proofs.Keeping.{room, past}
use Rattle.commands.proofs.pending.Pending.push.Goals as goal

pub returns-then-self-lt64 : goal.returns-then-self-lt64
returns-then-self-lt64 c =
    λ p h.
    let r = room p c.args.self.now.bytes c.args.self.now.len c.args.byte _ c.args.self.now.long (omega arith) h.front h.beyond in
    record { front = r.0; beyond = r.1 }

pub returns-else-self-lt64 : goal.returns-else-self-lt64
returns-else-self-lt64 c =
    λ p h.
    let r = past p c.args.self.now.bytes c.args.self.now.len c.args.byte c.args.self.now.long c.args.self.now.within (omega arith) h.front in
    record { front = r.0; beyond = r.1 }
