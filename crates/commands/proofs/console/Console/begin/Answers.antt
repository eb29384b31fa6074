use Rattle.std.proofs.Common.{arith, rules, ◌≡◌}
use Rattle.switch.specs.Calls.{fresh}
use Rattle.switch.specs.Desks.{Desk, View, desk, view}
use Rattle.commands.proofs.Talking.{begins}
use Rattle.commands.proofs.console.Console.begin.Goals as goal

pub returns-clause-made : goal.returns-clause-made
returns-clause-made g c =
    let d : Desk = desk c.args.self.now.register in
    let d' : Desk = desk c.make.new.register in
    let v : View = view g.M.Reader.held_at g.M.Reader.size g.M.RuleMemory.limit c.args.self.now.memory in
    let v' : View = view g.M.Reader.held_at g.M.Reader.size g.M.RuleMemory.limit c.fit.new.self in
    let fitted = c.in_ok-fit.ensures.fitted in
    let begun : d' ≡ fresh c.args.width c.args.capacity = search rules in
    begins (g.M.Fitting.most c.args.self.now.memory) c.args.width c.args.capacity d d' v v' c.in_ok-resting.resting
    (omega (arith, c.if-capacity-ceiling.false, c.ceiling.ensures)) c.in_ok-new.ensures.refused c.in_ok-resting.ensures.refused
    begun fitted.fits fitted.counts (g.met.M.Reader.counted c.fit.new.self)
