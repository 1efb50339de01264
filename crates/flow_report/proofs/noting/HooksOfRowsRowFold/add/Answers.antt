use Rattle.std.proofs.Common.{sym, subst}
use Rattle.osek_standard.specs.declared.point.Point.{Point}
use Rattle.flow_report.specs.Noting.{AreHooks, NotesByExit}
use Rattle.flow_report.proofs.{NotedHooks.{rows_noted}, NotedRows.{hooks_in_row}}
use Rattle.flow_report.proofs.noting.HooksOfRowsRowFold.add.Goals as goal

pub returns : goal.returns
returns c = λ rows row at next so_far.
    let app = c.args.app.now in
    let exits = c.args.exits.now in
    let these = c.hooks_of_exits-of_row.result in
    let of_row = hooks_in_row app row exits next.are these (subst (λ (p : Point). AreHooks (NotesByExit app p exits) these) (sym at) c.hooks_of_exits-of_row.ensures) in
    rows_noted app rows row c.args.self.now.hooks these c.with-self.result c.with-self.ensures so_far of_row
