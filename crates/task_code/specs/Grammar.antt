-- The grammar of task code (this project's profile). A relation with two lists of tokens says that the first list begins
-- with such a phrase, and that the second is what is left behind it. A list of statements has its closing brace with it,
-- and what stands between a call's parentheses the closing one.
use Rattle.std.specs.Prelude.{◌≡◌, ℕ, true, List, [], ◌∷◌, Some}
use Rattle.osek_values.specs.declared.status.Status.{Status}
use Rattle.oil_lexer.specs.declared.token.{Mark.TheVariants.{OpenBrace, CloseBrace, OpenParen, CloseParen, Comma, Semicolon, Question, Bar}, Token.{Token}}
use Rattle.oil_lexer.specs.Tokens.{name, number, mark}
use Rattle.task_code.specs.declared.call.{Reference.{Reference}, Call.{Call}}
use Rattle.task_code.specs.declared.call.Call.TheVariants as call
use Rattle.task_code.specs.declared.tree.{BodyKind.{BodyKind}, Body.{Body}, Code.{Code}, Condition.{Condition, TheVariants.{Choice, Always}}}
use Rattle.task_code.specs.declared.words.{PlainService.{PlainService}, ObjectService.{ObjectService}, MaskService.{MaskService}, AlarmService.{AlarmService}, Service.{Service, TheVariants.{Plain, Object, Mask, SetEvent, Alarm, ShutdownOs}}, StatementWord.TheVariants.{Work, If, While, Service as a_service}}
use Rattle.task_code.specs.{Statements.{Statements, closed, work_then, if_then, if_else_then, while_then, call_then}, Words.{body_kind, is_else, status_of, statement_word}}
use Rattle.task_code.specs.Services.{plain_call, object_call, mask_call, alarm_call}

abbrev pub reference : List ℕ → ℕ → Reference
reference n line = record { name = n; line = line }

-- mask: name { | name } )
pub data IsMask : List Reference → List Token → List Token → Type 0 where
  last_event : {n : List ℕ} {l l' : ℕ} {rest : List Token} → IsMask (reference n l ∷ []) (name n l ∷ (mark CloseParen l' ∷ rest)) rest
  more_events : {n : List ℕ} {l l' : ℕ} {mask : List Reference} {a rest : List Token} → IsMask mask a rest → IsMask (reference n l ∷ mask) (name n l ∷ (mark Bar l' ∷ a)) rest

-- the call of a service: what stands between its parentheses, and )
pub data IsCall : Service → Call → List Token → List Token → Type 0 where
  plain : {s : PlainService} {l : ℕ} {rest : List Token} → IsCall (Plain s) (plain_call s) (mark CloseParen l ∷ rest) rest
  object : {s : ObjectService} {n : List ℕ} {l l' : ℕ} {rest : List Token} → IsCall (Object s) (object_call s (reference n l)) (name n l ∷ (mark CloseParen l' ∷ rest)) rest
  mask : {s : MaskService} {mask : List Reference} {a rest : List Token} → IsMask mask a rest → IsCall (Mask s) (mask_call s mask) a rest
  set_event : {n : List ℕ} {l l' : ℕ} {mask : List Reference} {a rest : List Token} → IsMask mask a rest → IsCall SetEvent (call.SetEvent (reference n l) mask) (name n l ∷ (mark Comma l' ∷ a)) rest
  alarm : {s : AlarmService} {n : List ℕ} {l l1 l2 l3 l4 l5 x y : ℕ} {rest : List Token} → IsCall (Alarm s) (alarm_call s (reference n l) x y) (name n l ∷ (mark Comma l1 ∷ (number x l2 ∷ (mark Comma l3 ∷ (number y l4 ∷ (mark CloseParen l5 ∷ rest)))))) rest
  shutdown : {s : Status} {n : List ℕ} {l l' : ℕ} {rest : List Token} → status_of n ≡ Some s → IsCall ShutdownOs (call.ShutdownOs s) (name n l ∷ (mark CloseParen l' ∷ rest)) rest

-- the condition of a loop: ? or 1
pub data IsCondition : Condition → Token → Type 0 where
  choice : {l : ℕ} → IsCondition Choice (mark Question l)
  always : {l : ℕ} → IsCondition Always (number 1 l)

-- statements: statement* }
pub data IsStatements : Statements → List Token → List Token → Type 0 where
  -- }
  no_more : {l : ℕ} {rest : List Token} → IsStatements (closed l) (mark CloseBrace l ∷ rest) rest
  -- work number ;
  a_work : {w : List ℕ} {l l1 l2 v : ℕ} {next : Statements} {a rest : List Token} → statement_word w ≡ Some Work → IsStatements next a rest → IsStatements (work_then l v next) (name w l ∷ (number v l1 ∷ (mark Semicolon l2 ∷ a))) rest
  -- if ( ? ) { statements
  an_if : {w : List ℕ} {l l1 l2 l3 l4 : ℕ} {branch next : Statements} {a b rest : List Token} → statement_word w ≡ Some If → IsStatements branch a b → IsStatements next b rest → IsStatements (if_then l branch next) (name w l ∷ (mark OpenParen l1 ∷ (mark Question l2 ∷ (mark CloseParen l3 ∷ (mark OpenBrace l4 ∷ a))))) rest
  -- if ( ? ) { statements else { statements
  an_if_else : {w w' : List ℕ} {l l1 l2 l3 l4 l5 l6 : ℕ} {branch otherwise next : Statements} {a b c rest : List Token} → statement_word w ≡ Some If → IsStatements branch a (name w' l5 ∷ (mark OpenBrace l6 ∷ b)) → is_else w' ≡ true → IsStatements otherwise b c → IsStatements next c rest → IsStatements (if_else_then l branch otherwise next) (name w l ∷ (mark OpenParen l1 ∷ (mark Question l2 ∷ (mark CloseParen l3 ∷ (mark OpenBrace l4 ∷ a))))) rest
  -- while ( condition ) { statements
  a_while : {w : List ℕ} {l l1 l3 l4 : ℕ} {condition : Condition} {t : Token} {body next : Statements} {a b rest : List Token} → statement_word w ≡ Some While → IsCondition condition t → IsStatements body a b → IsStatements next b rest → IsStatements (while_then l condition body next) (name w l ∷ (mark OpenParen l1 ∷ (t ∷ (mark CloseParen l3 ∷ (mark OpenBrace l4 ∷ a))))) rest
  -- service ( call ;
  a_call : {w : List ℕ} {l l1 l2 : ℕ} {s : Service} {call : Call} {next : Statements} {a b rest : List Token} → statement_word w ≡ Some (a_service s) → IsCall s call a (mark Semicolon l2 ∷ b) → IsStatements next b rest → IsStatements (call_then l call next) (name w l ∷ (mark OpenParen l1 ∷ a)) rest

-- bodies: body*   with body: TASK or ISR ( name ) { statements
pub data AreBodies : List Body → List Token → Type 0 where
  no_body : AreBodies [] []
  a_body : {w n : List ℕ} {kind : BodyKind} {l l1 l2 l3 l4 : ℕ} {statements : Statements} {bodies : List Body} {a b : List Token} → body_kind w ≡ Some kind → IsStatements statements a b → AreBodies bodies b → AreBodies (record { kind = kind; line = l; owner = reference n l2; statements = statements } ∷ bodies) (name w l ∷ (mark OpenParen l1 ∷ (name n l2 ∷ (mark CloseParen l3 ∷ (mark OpenBrace l4 ∷ a)))))

-- a sentence, with its tree
abbrev pub IsSentence : List Token → Code → Type 0
IsSentence tokens code = AreBodies code.bodies tokens
