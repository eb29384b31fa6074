use Rattle.std.proofs.Common.{sym}
use Rattle.rules.proofs.ClosedForm.{closed_form}
use Rattle.rules.proofs.weight.Weight.digit_count.Goals as goal

pub returns : goal.returns
returns c = sym (closed_form c.args.self.addresses)
