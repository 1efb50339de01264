use Rattle.std.proofs.Common.{ℕ, ◌+◌, List, sym, subst}
use Rattle.std.specs.Prelude.{OnOk}
use Rattle.numbered_sets.specs.Pools.{Values, IsLonger}
use Rattle.state_flow.specs.Numbering.{AreNumberedCells, HasProgress}
use Rattle.state_flow.proofs.evaluation.turn.Goals as goal

pub evaluate_point-requires-clause-cells : goal.evaluate_point-requires-clause-cells
evaluate_point-requires-clause-cells c = subst (λ (pool : List Values). AreNumberedCells c.args.numbering.now.app.now pool c.args.cells.now.list.items) (sym c.turn_to.ensures) c.requires.cells

pub returns-clause-grown : goal.returns-clause-grown
returns-clause-grown c =
    let grown = c.evaluate_point.ensures.grown in
    record { app = grown.app; pool = subst (λ (pool : List Values). IsLonger pool c.evaluate_point.new.numbering.pool) c.turn_to.ensures grown.pool }

pub returns-clause-progress : goal.returns-clause-progress
returns-clause-progress c =
    let app = c.args.numbering.now.app.now in
    let end = c.evaluate_point.new.cells.list.items in
    subst (λ (pool : List Values). OnOk c.evaluate_point.result ((n : ℕ) → HasProgress app pool c.args.cells.now.list.items n → HasProgress app c.evaluate_point.new.numbering.pool end (n + 1)))
    c.turn_to.ensures c.evaluate_point.ensures.progress
