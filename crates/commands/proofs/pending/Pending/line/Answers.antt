use Rattle.commands.proofs.Keeping.{whole}
use Rattle.commands.proofs.pending.Pending.line.Goals as goal

pub returns-else-self : goal.returns-else-self
returns-else-self c = λ p h. whole p c.args.self.now.bytes c.args.self.now.len _ h.front h.beyond c.if-self.false
