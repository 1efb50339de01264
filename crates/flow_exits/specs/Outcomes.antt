-- Cases of what the scheduler does, one found after another.
use Rattle.std.specs.Prelude.{⊤, None}
use Rattle.flow_model.specs.declared.case.{Asked.{Asked}, Decision.{Decision}}
use Rattle.flow_model.specs.declared.case.Asked.TheVariants as asked
use Rattle.flow_model.specs.declared.case.Decision.TheVariants as decision

-- nobody has the processor
abbrev pub IsVacant : Asked → Type 0
IsVacant asked.No = ⊥
IsVacant (asked.Maybe t) = ⊥
IsVacant asked.Left = ⊤
IsVacant asked.Free = ⊤

-- what is decided where nobody has the processor and no task is Live
abbrev pub idle_decision : Asked → Decision
idle_decision asked.No = decision.Keep
idle_decision (asked.Maybe t) = decision.Keep
idle_decision asked.Left = decision.To None
idle_decision asked.Free = decision.Keep
