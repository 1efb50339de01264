-- Findings that are listed so far: all that stand before a place in the order.
use Rattle.std.specs.Prelude.{List, Contains}
use Rattle.osek_standard.specs.declared.app.App.{App}
use Rattle.abstract_state.specs.Tables.{Sets}
use Rattle.flow_report.specs.{declared.finding.Finding.{Finding}, Findings.{Holds}, FindingOrder.{Rank, rank, IsBefore, AreAscending}}

-- The findings of the table that stand before this place, and no others, in order.
pub record AreListed (app : App) (table : Sets) (end : Rank) (findings : List Finding) : Type 0 where
  pub ascending : AreAscending findings
  pub each : (f : Finding) → Contains findings f → Holds app table f × IsBefore (rank f) end
  pub whole : (f : Finding) → Holds app table f → IsBefore (rank f) end → Contains findings f
