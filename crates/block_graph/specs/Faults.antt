-- The faults of a system and its task code, and the least of them.
use Rattle.std.specs.Prelude.{ℕ, Option}
use Rattle.osek_values.specs.declared.refusal.CodeRule.{CodeRule, TheVariants.{C1, C2, C3, C4, C6, C7, C8, C9, C10}}
use Rattle.oil_system.specs.declared.system.System.{System}
use Rattle.osek_values.specs.LeastFaults as faults
use Rattle.task_code.specs.declared.tree.Code.{Code}
use Rattle.osek_values.specs.declared.refused.LineFault.{LineFault}
use Rattle.block_graph.specs.Rules.{lines}

-- the number of a rule
abbrev pub order : CodeRule → ℕ
order C1 = 1
order C2 = 2
order C3 = 3
order C4 = 4
order C6 = 6
order C7 = 7
order C8 = 8
order C9 = 9
order C10 = 10

abbrev pub HasNoFault : System → Code → Type 0
HasNoFault s code = faults.HasNoFault order (λ (rule : CodeRule). lines rule s code)

-- the least pair of a rule and a line
abbrev pub IsLeastFault : System → Code → CodeRule → ℕ → Type 0
IsLeastFault s code = faults.IsLeastFault order (λ (rule : CodeRule). lines rule s code)

-- the least fault, or none where there is no fault
abbrev pub IsLeastOrNone : Option (LineFault CodeRule) → System → Code → Type 0
IsLeastOrNone fault s code = faults.IsLeastOrNone order (λ (rule : CodeRule). lines rule s code) fault
