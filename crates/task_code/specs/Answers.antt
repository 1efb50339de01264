-- The code of the tokens of a task code text, or their first fault.
use Rattle.std.specs.Prelude.{List, Result, Ok, Err}
use Rattle.osek_values.specs.declared.{refused.LineFault.{LineFault}, refusal.Rule.{Rule}}
use Rattle.oil_lexer.specs.declared.token.Token.{Token}
use Rattle.task_code.specs.{declared.tree.Code.{Code}, Faults.{HasCode, IsFirstFault}}

abbrev pub IsAnswer : Result Code (LineFault Rule) → List Token → Type 0
IsAnswer (Ok code) tokens = HasCode tokens code
IsAnswer (Err fault) tokens = IsFirstFault tokens fault.rule fault.line
