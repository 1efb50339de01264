use Rattle.std.proofs.Common.{sym, subst}
use Rattle.numbered_sets.specs.LoadUpdates.{AreNumbersAfter}
use Rattle.numbered_sets.proofs.LoadUpdateLaws.{none_noted}
use Rattle.numbered_sets.proofs.load_updates.LoadsAfter.new.Goals as goal

pub returns-clause-numbers : goal.returns-clause-numbers
returns-clause-numbers c = λ loads. subst (AreNumbersAfter loads c.args.update) (sym c.new.ensures) (none_noted loads c.args.update)
