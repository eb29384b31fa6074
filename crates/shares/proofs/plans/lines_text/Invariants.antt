use Rattle.std.proofs.Common.{◌≡◌, ◌^◌, ◌≤◌, ◌++◌, string_bytes}
use Rattle.std.specs.Iterator.Adapters.{zip_first, zip_second}
use Rattle.std.specs.Slice.Iter.{iter_rest}
use Rattle.plan.specs.ByTag.{Every}
use Rattle.shares.specs.Texts.{plan_lines}
use Rattle.shares.proofs.plans.lines_text.Given as goal

abbrev pub invariant-loop-target : goal.invariant-loop-target
invariant-loop-target l =
    (goal.iterator-loop-target).can_next l.target-iterator × (goal.iterator-loop-target).is_finite l.target-iterator
    × Every (λ d. d ≤ 2 ^ l.width.bits) (iter_rest (zip_second l.target-iterator))
    × (string_bytes l.text ++ plan_lines l.width.bits (iter_rest (zip_first l.target-iterator)) (iter_rest (zip_second l.target-iterator))
    ≡ plan_lines l.width.bits l.targets l.weights)
