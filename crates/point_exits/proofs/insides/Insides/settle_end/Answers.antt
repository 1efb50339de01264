use Rattle.std.proofs.Common.{◌∙◌, sym}
use Rattle.point_exits.proofs.SettlingSteps.{end_beside, end_there}
use Rattle.point_exits.proofs.insides.Insides.settle_end.Goals as goal

pub returns-then-end-index : goal.returns-then-end-index
returns-then-end-index c = λ pool inside size. end_beside c.args.self.now.task.0 pool c.args.end.now (λ same. c.if-end-index.true (same ∙ sym c.index.ensures))

pub returns : goal.returns
returns c = λ pool inside size. end_there c.args.self.now.task.0 pool c.args.end.now c.in_ok-inside.inside (c.if-end-index.false ∙ c.index.ensures) (c.in_ok-inside.ensures.made _ inside size)
