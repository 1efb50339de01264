-- The tokens of a text, or its first fault.
use Rattle.std.specs.Prelude.{ℕ, List, Result, Ok, Err}
use Rattle.osek_values.specs.declared.{refused.LineFault.{LineFault}, refusal.LexRule.{LexRule}}
use Rattle.oil_lexer.specs.{declared.token.Token.{Token}, Text.{AreTokens, IsFirstFault}}

abbrev pub IsAnswer : Result (List Token) (LineFault LexRule) → List ℕ → Type 0
IsAnswer (Ok tokens) bytes = AreTokens bytes tokens
IsAnswer (Err fault) bytes = IsFirstFault bytes fault
