use Rattle.std.proofs.Common.{subst, arith}
use Rattle.numbered_sets.specs.{Pools.{Values, IsBeside}, Slots.{IsSlot}}
use Rattle.numbered_sets.proofs.SlotLaws.{moved_beside_it, value_beside}
use Rattle.numbered_sets.proofs.seen_values.SeenValues.sample.Goals as goal

pub returns-clause-beside : goal.returns-clause-beside
returns-clause-beside c =
    let here = c.self.inside in
    let n = c.args.number in
    let m = c.at-sample.result in
    let mine = c.in_ok-load.ensures in
    let its = c.in_ok-other.ensures in
    let known = subst (IsSlot here.domain here.loads) (c.at.ensures.slot.is 0) (c.self.invariant.known.each n 0 c.at.ensures.slot.known) in
    let there = subst (IsSlot here.domain here.loads) (c.at-2.ensures.slot.is 0) (c.self.invariant.known.each m 0 c.at-2.ensures.slot.known) in
    let moved =
    moved_beside_it here.domain here.slots.width c.at-2.result c.at.result here.loads its.place mine.place c.are_distinct.ensures there known c.self.invariant.wide its.at mine.at (λ e. omega (arith, e, its.row))
    (omega (arith, mine.row, its.row, c.if-other-load.false)) in
    subst (λ (x : Values). IsBeside x.values m n) c.self.view_is (value_beside here.domain here.loads here.slots.used c.at-2.result c.at.result m n moved.0 c.at-2.ensures.slot c.at.ensures.slot moved.1)
