use Rattle.std.proofs.Common.{sym, subst}
use Rattle.osek_standard.specs.declared.app.App.{App}
use Rattle.abstract_state.specs.Written.{IsWritten}
use Rattle.flow_cases.proofs.checks.said_by.Goals as goal

pub check-requires : goal.check-requires
check-requires l c = subst (λ (app : App). IsWritten app c.in_ok-table.table) (sym c.in_ok-image.ensures) c.in_ok-table.ensures.written
