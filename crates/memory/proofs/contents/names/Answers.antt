use Rattle.std.proofs.Common.{rules, sym, ◌∙◌}
use Rattle.std.proofs.lemmas.Iterator.{YieldsList-from_slice}
use Rattle.std.proofs.lemmas.Iterator.Search.{any_from_yields_List}
use borrow.Author.Tests.{tests}
use Rattle.memory.specs.declared.key.KeyRule.{KeyRule}
use Rattle.memory.specs.Holding.{same_prefix}
use Rattle.memory.proofs.Exact.{among_any}
use Rattle.memory.proofs.contents.names.Goals as goal

pub returns : goal.returns
returns c =
    any_from_yields_List (λ (r : KeyRule). same_prefix r.prefix c.args.prefix.value c.args.prefix.length) _ _ _ c.any.ensures.ran (YieldsList-from_slice c.args.rules.now cc) (λ x b q k. search (rules, tests))
    ∙ sym (among_any c.args.rules.now c.args.prefix.value c.args.prefix.length)
