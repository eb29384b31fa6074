use Rattle.std.proofs.Common.{◌≡◌, None}
use Rattle.rules.specs.Walk.{end_at, to_come}
use Rattle.rules.proofs.shortest.TableIterator.next.Given as goal

abbrev pub invariant-loop-place : goal.invariant-loop-place
invariant-loop-place l =
    (l.self.opening ≡ None) × (l.self.place ≡ l.place) × (l.end ≡ end_at l.self.part.width.bits l.self.first l.self.part.addresses l.place)
    × (to_come l.initial.self ≡ to_come l.self)
