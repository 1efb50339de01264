use Rattle.std.proofs.{Common.{List, subst}, lemmas.Option.{IfSome_then}}
use Rattle.std.specs.Prelude.{IfSome}
use Rattle.numbered_sets.specs.{declared.loads.Load.{Load}, LoadUpdates.{AreNumbersAfter}}
use Rattle.numbered_sets.proofs.loads.Loads.numbers_after.Goals as goal

pub returns : goal.returns
returns c =
    subst (λ (loads : List Load). IfSome c.numbers.result (λ numbers. AreNumbersAfter loads c.args.update.now numbers.now)) c.self.view_is
    (IfSome_then c.numbers.result c.numbers.ensures (λ numbers known. known c.self.inside.seen.keys c.self.invariant.2))
