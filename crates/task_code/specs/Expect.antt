-- What may still come, as a stack of phrases, and what a token makes of it. Below the stack any bodies may come.
use Rattle.std.specs.Prelude.{ℕ, List, [], ◌∷◌, ◌++◌, Bool, true, false, ◌==◌, if◌then◌else◌, Option, Some, None}
use Rattle.oil_lexer.specs.declared.token.{TokenKind.{TokenKind, TheVariants.{Name, Number, Mark}}, Mark.TheVariants.{OpenBrace, CloseBrace, OpenParen, CloseParen, Comma, Semicolon, Question, Bar}, Token.{Token}}
use Rattle.oil_lexer.specs.declared.fault.Stop.{Stop}
use Rattle.oil_lexer.specs.Scan as scans
use Rattle.osek_values.specs.declared.{limits.TheConstants.{MAX_CODE_DEPTH}, status.Status.{Status}}
use Rattle.task_code.specs.declared.{tree.BodyKind.{BodyKind}, words.{Service.{Service}, StatementWord.{StatementWord}}}
use Rattle.task_code.specs.declared.words.Service.TheVariants as service
use Rattle.task_code.specs.declared.words.StatementWord.TheVariants as word
use Rattle.task_code.specs.Words.{body_kind, is_else, status_of, statement_word}

-- a phrase of the grammar; each begins with a token
pub data Phrase : Type 0 where
  some_statements after_if mask_rest a_name a_number a_status a_condition : Phrase
  open_paren close_paren open_brace a_comma a_semicolon a_question : Phrase

abbrev pub Stack : Type 0
Stack = List Phrase

-- what stands between a call's parentheses, and )
abbrev pub operands : Service → Stack
operands (service.Plain _) = close_paren ∷ []
operands (service.Object _) = a_name ∷ (close_paren ∷ [])
operands (service.Mask _) = a_name ∷ (mask_rest ∷ [])
operands service.SetEvent = a_name ∷ (a_comma ∷ (a_name ∷ (mask_rest ∷ [])))
operands (service.Alarm _) = a_name ∷ (a_comma ∷ (a_number ∷ (a_comma ∷ (a_number ∷ (close_paren ∷ [])))))
operands service.ShutdownOs = a_status ∷ (close_paren ∷ [])

-- what stands behind the first word of a statement, and the statements behind it
abbrev pub statement_phrases : StatementWord → Stack
statement_phrases word.Work = a_number ∷ (a_semicolon ∷ (some_statements ∷ []))
statement_phrases word.If = open_paren ∷ (a_question ∷ (close_paren ∷ (open_brace ∷ (some_statements ∷ (after_if ∷ [])))))
statement_phrases word.While = open_paren ∷ (a_condition ∷ (close_paren ∷ (open_brace ∷ (some_statements ∷ (some_statements ∷ [])))))
statement_phrases (word.Service s) = open_paren ∷ (operands s ++ (a_semicolon ∷ (some_statements ∷ [])))

abbrev pub statement_step : Option StatementWord → Option Stack
statement_step None = None
statement_step (Some w) = Some (statement_phrases w)

abbrev pub else_step : Bool → Option StatementWord → Option Stack
else_step true w = Some (open_brace ∷ (some_statements ∷ (some_statements ∷ [])))
else_step false w = statement_step w

abbrev pub status_step : Option Status → Option Stack
status_step None = None
status_step (Some s) = Some []

-- what is left of a phrase behind its first token
abbrev pub step : Phrase → TokenKind → Option Stack
step some_statements (Name n) = statement_step (statement_word n)
step some_statements (Mark CloseBrace) = Some []
step after_if (Name n) = else_step (is_else n) (statement_word n)
step after_if (Mark CloseBrace) = Some []
step mask_rest (Mark Bar) = Some (a_name ∷ (mask_rest ∷ []))
step mask_rest (Mark CloseParen) = Some []
step a_name (Name n) = Some []
step a_number (Number v) = Some []
step a_status (Name n) = status_step (status_of n)
step a_condition (Mark Question) = Some []
step a_condition (Number v) = if v == 1 then Some [] else None
step open_paren (Mark OpenParen) = Some []
step close_paren (Mark CloseParen) = Some []
step open_brace (Mark OpenBrace) = Some []
step a_comma (Mark Comma) = Some []
step a_semicolon (Mark Semicolon) = Some []
step a_question (Mark Question) = Some []
step _ _ = None

-- what stands behind the first word of a body
abbrev pub body_stack : Stack
body_stack = open_paren ∷ (a_name ∷ (close_paren ∷ (open_brace ∷ (some_statements ∷ []))))

abbrev pub body_phrases : Option BodyKind → Option Stack
body_phrases None = None
body_phrases (Some kind) = Some body_stack

abbrev pub body_step : TokenKind → Option Stack
body_step (Name n) = body_phrases (body_kind n)
body_step _ = None

-- what may come behind a token
abbrev pub step_all : Stack → TokenKind → Option Stack
step_all = scans.step_all Phrase step body_step

-- what may come behind the tokens
abbrev pub run : Stack → List Token → Option Stack
run = scans.run Phrase step_all

-- where reading stops, from a depth on
abbrev pub scan : ℕ → Stack → List Token → Option Stop
scan = scans.scan Phrase step_all MAX_CODE_DEPTH
