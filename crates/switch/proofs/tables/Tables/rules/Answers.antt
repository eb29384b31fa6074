use Rattle.std.proofs.Common.{List, map, ◌++◌, ap}
use Rattle.std.specs.List.{flat_map}
use Rattle.rules.specs.declared.rule.Rule.{Rule}
use Rattle.model.specs.Keyed.{from, tags}
use Rattle.switch.specs.Tabled.{tagged, tagged_of, tagged_rules}
use Rattle.switch.specs.Walked.{rules_left}
use Rattle.switch.proofs.tables.Tables.rules.Goals as goal

pub returns : goal.returns
unfolding rules_left tagged_rules tagged_of tags from
returns c =
    let W = c.args.self.width.bits in
    ap (λ (rs : List Rule). map (tagged W 0) rs ++ flat_map (tagged_of W c.args.self.weights.now) (from 63 1)) c.table.ensures.rules
