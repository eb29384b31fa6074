-- The worked figures, by computation.
use Rattle.std.proofs.Common.{refl}
use Rattle.rules.specs.Digits.{write, digits, D}
use Rattle.rules.specs.Shortest.{L}
use Rattle.rules.specs.Tables.{from_below, from_above, table}
use Rattle.plan.specs.Even.{even}
use Rattle.plan.specs.Figures.{Figures}
use Rattle.plan.specs.Nearest.{best_up_to, nearest, least, need}
use Rattle.plan.specs.Plans.{needs, worst_miss, weights_for, plan_weights}
use Rattle.plan.specs.Relative.{relative}

pub figures : Figures
unfolding write digits D L from_below from_above table even best_up_to nearest least need needs worst_miss weights_for plan_weights relative
figures = record {
  fifteen = refl;
  fifth = refl;
  four_fifths = refl;
  nothing = refl;
  all = refl;
  half = refl;
  all_but_one = refl;
  even_steps = (refl, refl, refl, refl);
  relative_step = (refl, refl, refl);
  tie_to_smaller = (refl, refl);
  not_chopped = (refl, refl);
  none_raised = (refl, refl);
}
