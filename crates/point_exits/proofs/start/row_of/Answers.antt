use Rattle.std.proofs.Common.{sym, ap₂, subst}
use Rattle.numbered_sets.specs.PlainTables.{row_at}
use Rattle.point_exits.specs.Rows.{IsProperRow}
use Rattle.point_exits.proofs.StartEntry.{row_proper}
use Rattle.point_exits.proofs.start.row_of.Goals as goal

pub returns-clause-proper : goal.returns-clause-proper
returns-clause-proper c =
    subst (IsProperRow c.args.app.now) (sym (ap₂ row_at c.point_of.ensures c.in_ok-entry_of.ensures)) (row_proper c.args.app.now c.masks_are_few.ensures c.args.state.now c.requires.well c.requires.regular)
