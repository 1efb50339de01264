use Rattle.std.proofs.Common.{sym, subst, arith}
use Rattle.numbered_sets.specs.{SeenSlots.{AreSeen}}
use Rattle.numbered_sets.proofs.PoolLaws.{none_numbered}
use Rattle.numbered_sets.proofs.seen_values.SeenValues.new.Goals as goal

pub invariant_of-result : goal.invariant_of-result
invariant_of-result c =
    subst (AreSeen c.args.domain c.new.result) (sym c.new-2.ensures)
    (record { numbered = none_numbered c.args.domain; known = record { each = λ n e lt. absurd (omega (arith, lt)) }; wide = c.slot_width.ensures.is })
