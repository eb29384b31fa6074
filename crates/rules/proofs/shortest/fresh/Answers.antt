use Rattle.std.proofs.Common.{ℕ, ◌∷◌, ap}
use Rattle.rules.specs.Tables.{all_to}
use Rattle.rules.specs.Walk.{digits_left, to_come}
use Rattle.rules.proofs.shortest.fresh.Goals as goal

pub returns : goal.returns
unfolding to_come
returns c =
    let d = c.args.part in
    ap (λ (p : ℕ). all_to c.args.first ∷ digits_left d.width.bits c.args.first d.addresses p) c.bits.ensures
