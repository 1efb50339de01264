use Rattle.std.proofs.Common.{get_or, subst}
use Rattle.std.proofs.lemmas.List.Elements.{Contains-get_or}
use Rattle.numbered_sets.specs.{declared.load_updates.LoadsAfter.{LoadsAfter}, LoadUpdates.{AreNumbersAfter}}
use Rattle.numbered_sets.proofs.LoadUpdateLaws.{numbers_alike}
use Rattle.numbered_sets.proofs.load_updates.LoadUpdates.numbers.Goals as goal

pub returns-in-Some : goal.returns-in-Some
returns-in-Some c = λ loads h.
    let known = c.args.self.now.known in
    let place = c.in-Some.place in
    let x = c.at.result.now in
    let there = c.in-Some.ensures in
    subst (λ (y : LoadsAfter). AreNumbersAfter loads c.args.update.now y.numbers) (c.at.ensures.item x)
    (numbers_alike loads (get_or known place x).update c.args.update.now (there.is x) (get_or known place x).numbers (h (get_or known place x) (Contains-get_or known place x there.known)))
