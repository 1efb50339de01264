use Rattle.std.proofs.Common.{length, subst}
use Rattle.point_exits.specs.Levels.{IsLeastFrom}
use Rattle.point_exits.proofs.LevelsFrom.{none_taken, more_taken, from_none, from_taken}
use Rattle.point_exits.proofs.task_levels.TaskLevels.numbers_from.Goals as goal

pub returns-in_default : goal.returns-in_default
returns-in_default c = λ app u vs h.
    let x = c.args.self.now in
    from_none app u vs x c.args.priority h c.new-from.result c.domain.result c.new-from.ensures (subst (IsLeastFrom x.levels c.args.priority (length x.levels)) c.in_default.is c.place_from.ensures)

pub loop-number-init : goal.loop-number-init
loop-number-init c = (none_taken c.at.result.now.from c.new-from.result c.domain.result c.next-number.result c.new-from.ensures c.next-number.ensures.none, c.next-number.ensures.few, c.next-number.ensures.has)

pub loop-number-preserved : goal.loop-number-preserved
loop-number-preserved c = (
  more_taken c.at.result.now.from c.loop-number.from c.put.new.self c.loop-number.number c.next-number-in-loop-number.result c.loop-number.invariant.0 c.in_ok-put.ensures.set (c.loop-number.invariant.2 c.loop-number-test.true)
      c.next-number-in-loop-number.ensures.none,
  c.next-number-in-loop-number.ensures.few,
  c.next-number-in-loop-number.ensures.has,
)

pub returns : goal.returns
returns c = λ app u vs h.
    let x = c.args.self.now in
    let above = c.at.result.now in
    let least = subst (IsLeastFrom x.levels c.args.priority (length x.levels)) c.in-Some.is c.place_from.ensures in
    from_taken app u vs x c.args.priority h c.in-Some.place above least (c.at.ensures.item above) c.loop-number.from c.loop-number.number c.loop-number-test.false c.loop-number.invariant.0
