use Rattle.std.proofs.Common.{ap, subst}
use Rattle.osek_standard.specs.Dispatch.{Stepped}
use Rattle.abstract_state.specs.Regular.{IsRegular}
use Rattle.abstract_state.proofs.RegularLaws.{start_regular}
use Rattle.point_exits.proofs.StartEntry.{start_row_told, start_row_same}
use Rattle.point_exits.proofs.start.start_row.Goals as goal

pub row_of-requires-clause-regular : goal.row_of-requires-clause-regular
row_of-requires-clause-regular c = subst (IsRegular c.args.app.now) (ap (λ (x : Stepped). x.state) c.in_ok-state.ensures.start) (start_regular c.args.app.now c.args.mode c.requires)

pub returns-clause-start : goal.returns-clause-start
returns-clause-start c =
    start_row_told c.args.app.now c.args.mode c.requires c.in_ok-state.state c.row_of.result (ap (λ (x : Stepped). x.state) c.in_ok-state.ensures.start) c.row_of.ensures.row c.row_of.ensures.proper

pub returns-clause-row : goal.returns-clause-row
returns-clause-row c =
    start_row_same c.args.app.now c.args.mode c.requires c.in_ok-state.state c.row_of.result (ap (λ (x : Stepped). x.state) c.in_ok-state.ensures.start) c.row_of.ensures.row
