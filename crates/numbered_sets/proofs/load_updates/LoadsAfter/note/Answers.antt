use Rattle.std.proofs.Common.{◌<◌, length, sym, subst, arith}
use Rattle.numbered_sets.specs.LoadUpdates.{AreNumbersAfter}
use Rattle.numbered_sets.proofs.LoadUpdateLaws.{numbers_stay, number_noted}
use Rattle.numbered_sets.proofs.load_updates.LoadsAfter.note.Goals as goal

pub returns-in_err-widen-clause-numbers : goal.returns-in_err-widen-clause-numbers
returns-in_err-widen-clause-numbers c = λ loads h new. numbers_stay loads c.args.self.now.update c.args.self.now.numbers c.widen.new.self c.widen.ensures.same h

pub returns-clause-numbers : goal.returns-clause-numbers
returns-clause-numbers c = λ loads h new.
    let u = c.args.self.now.update in
    let room : c.args.load < length c.widen.new.self = omega (arith, c.in_ok-widen.ensures.room) in
    subst (AreNumbersAfter loads u) (sym c.put.ensures)
    (number_noted loads u c.widen.new.self c.args.load c.args.after room new (numbers_stay loads u c.args.self.now.numbers c.widen.new.self c.widen.ensures.same h))
