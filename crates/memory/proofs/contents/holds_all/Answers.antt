use Rattle.std.proofs.Common.{rules, sym, ◌∙◌}
use Rattle.std.proofs.lemmas.Iterator.{YieldsList-from_slice}
use Rattle.std.proofs.lemmas.Iterator.Search.{all_from_yields_List}
use borrow.Author.Tests.{tests}
use Rattle.memory.specs.declared.key.KeyRule.{KeyRule}
use Rattle.memory.specs.Holding.{at, same_server}
use Rattle.memory.proofs.Exact.{held_all}
use Rattle.memory.proofs.contents.holds_all.Goals as goal

pub returns : goal.returns
returns g c =
    let held = g.R.Reader.held_at c.args.reader.now in
    all_from_yields_List (λ (r : KeyRule). same_server (at held r.prefix) r.server) _ _ _ c.all.ensures.ran (YieldsList-from_slice c.args.rules.now cc) (λ x b q k. search (rules, tests))
    ∙ sym (held_all held c.args.rules.now)
