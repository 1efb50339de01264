-- The tree of the tokens of an OIL file, or their first fault (this project's profile: at most 16 open braces).
use Rattle.std.specs.Prelude.{ℕ, List}
use Rattle.osek_values.specs.declared.{limits.TheConstants.{MAX_OIL_DEPTH}, refusal.SyntaxRule.{SyntaxRule}}
use Rattle.oil_lexer.specs.declared.token.Token.{Token}
use Rattle.oil_lexer.specs.Faults as faults
use Rattle.oil_tree.specs.{declared.tree.Tree.{Tree}, Grammar.{IsSentence}}

-- the tokens are a sentence of the grammar with this tree, and no brace is nested too deeply
abbrev pub HasTree : List Token → Tree → Type 0
HasTree tokens tree = faults.HasTree Tree IsSentence MAX_OIL_DEPTH tokens tree

-- the first fault of the tokens, and its line
abbrev pub IsFirstFault : List Token → SyntaxRule → ℕ → Type 0
IsFirstFault = faults.IsFirstFault Tree IsSentence MAX_OIL_DEPTH
