use Rattle.std.proofs.Common.{take, ◌-◌, ◌≤◌, ◌<◌, IsTrue}
use Rattle.numbered_sets.specs.{Numbers.{has_number}, Pools.{values_at}, Views.{values_with}}
use Rattle.point_exits.specs.{Applying.{IsPassedSoFar}, Changing.{making}}
use Rattle.point_exits.proofs.changes.moved.Given as goal

abbrev pub decreases-loop-number : goal.decreases-loop-number
decreases-loop-number l = l.count - l.number

abbrev pub invariant-loop-number : goal.invariant-loop-number
invariant-loop-number l =
    IsPassedSoFar (making l.changes) l.initial.pool l.component l.numbers.domain (values_with (take l.number (values_at l.initial.pool l.component)) (has_number l.numbers)) l.pool l.new
    × (l.number ≤ l.count) × (l.number < l.count → IsTrue (has_number l.numbers l.number))
