use Rattle.commands.proofs.console.Console.obey.Goals as goal

pub returns-in-Place : goal.returns-in-Place
returns-in-Place g c = rw c.in-Place.is (c.place.ensures (g.M.Fitting.most c.args.self.now.memory))

pub returns-in-Look : goal.returns-in-Look
returns-in-Look g c = rw c.in-Look.is (c.see.ensures (g.E.Measure.miss c.args.measure.now) (g.M.Fitting.most c.args.self.now.memory))
