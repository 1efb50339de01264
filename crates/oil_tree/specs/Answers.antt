-- The tree of the tokens of a file, or their first fault.
use Rattle.std.specs.Prelude.{List, Result, Ok, Err}
use Rattle.osek_values.specs.declared.{refused.LineFault.{LineFault}, refusal.SyntaxRule.{SyntaxRule}}
use Rattle.oil_lexer.specs.declared.token.Token.{Token}
use Rattle.oil_tree.specs.{declared.tree.Tree.{Tree}, Faults.{HasTree, IsFirstFault}}

abbrev pub IsAnswer : Result Tree (LineFault SyntaxRule) → List Token → Type 0
IsAnswer (Ok tree) tokens = HasTree tokens tree
IsAnswer (Err fault) tokens = IsFirstFault tokens fault.rule fault.line
