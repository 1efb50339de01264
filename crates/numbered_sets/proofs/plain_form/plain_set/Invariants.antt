use Rattle.std.proofs.Common.{◌-◌, ◌≤◌, ◌<◌, IsTrue}
use Rattle.numbered_sets.specs.{Numbers.{has_number}, Pools.{values_at}}
use Rattle.numbered_sets.proofs.PlainLaws.{IsPlainUpTo}
use Rattle.numbered_sets.proofs.plain_form.plain_set.Given as goal

abbrev pub decreases-loop-number : goal.decreases-loop-number
decreases-loop-number l = l.count - l.number

abbrev pub invariant-loop-number : goal.invariant-loop-number
invariant-loop-number l =
    IsPlainUpTo (values_at l.pool l.component) l.numbers l.number l.set × (l.number ≤ l.count) × (l.number < l.count → IsTrue (has_number l.numbers l.number))
