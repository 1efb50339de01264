-- The application of a system and its code, or their least fault.
use Rattle.std.specs.Prelude.{Result, Ok, Err}
use Rattle.osek_standard.specs.declared.app.App.{App}
use Rattle.oil_system.specs.declared.system.System.{System}
use Rattle.task_code.specs.declared.tree.Code.{Code}
use Rattle.osek_values.specs.declared.{refused.LineFault.{LineFault}, refusal.CodeRule.{CodeRule}}
use Rattle.block_graph.specs.{Faults.{IsLeastFault}, Apps.{HasApp}}

abbrev pub IsAnswer : Result App (LineFault CodeRule) → System → Code → Type 0
IsAnswer (Ok app) s code = HasApp s code app
IsAnswer (Err fault) s code = IsLeastFault s code fault.rule fault.line
