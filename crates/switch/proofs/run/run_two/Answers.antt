use Rattle.switch.proofs.Running.{end_alike}
use Rattle.switch.proofs.run.run_two.Goals as goal

pub returns-clause-alike : goal.returns-clause-alike
returns-clause-alike g c = end_alike _ _ _ _ _ _ _ c.run-left.result c.run-right.result c.run-left.ensures c.run-right.ensures
