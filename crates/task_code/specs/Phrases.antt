-- What reading a phrase did.
use Rattle.std.specs.Prelude.{◌≡◌, ℕ, ◌+◌, ◌-◌, ◌≤◌, ◌<◌, List, [], ◌∷◌, ◌++◌, length, All, Some, None}
use Rattle.osek_values.specs.declared.limits.TheConstants.{MAX_CODE_DEPTH}
use Rattle.oil_lexer.specs.{declared.{token.{Token.{Token}, Mark.TheVariants.{OpenBrace}}, fault.Stop.{Stop}}, Tokens.{name, mark}}
use Rattle.task_code.specs.declared.{tree.{Statement.{Statement}, Body.{Body}, BodyKind.{BodyKind}}, call.Reference.{Reference}, words.StatementWord.{StatementWord}}
use Rattle.task_code.specs.{Statements.{Statements}, StatementLists.{statement_before}, Fit.{depth}, Words.{body_kind, statement_word}, Grammar.{IsStatements, AreBodies}}
use Rattle.task_code.specs.Expect.{Stack, scan, some_statements, open_brace, statement_phrases, body_stack}

-- reading went on behind the phrases
abbrev pub TakesAll : Stack → ℕ → List Token → List Token → Type 0
TakesAll phrases d tokens rest = (stack : Stack) → scan d (phrases ++ stack) tokens ≡ scan d stack rest

-- reading stops in the phrases
abbrev pub StopsIn : Stack → ℕ → List Token → Stop → Type 0
StopsIn phrases d tokens stop = (stack : Stack) → scan d (phrases ++ stack) tokens ≡ Some stop

-- braces nest within the limit in each list that begins with the statement, if they do behind it
abbrev pub IsWithin : ℕ → Statement → Type 0
IsWithin d s = (next : Statements) → depth next + d ≤ MAX_CODE_DEPTH → depth (statement_before s next) + d ≤ MAX_CODE_DEPTH

-- what stands behind a statement's first word was read, with so many braces open
pub record ReadsRest (word : StatementWord) (d line : ℕ) (tokens : List Token) (s : Statement) (rest : List Token) : Type 0 where
  pub joins : (w : List ℕ) (next : Statements) (last : List Token) → statement_word w ≡ Some word → IsStatements next rest last → IsStatements (statement_before s next) (name w line ∷ tokens) last
  pub takes : (stack : Stack) → scan d (statement_phrases word ++ stack) tokens ≡ scan d (some_statements ∷ stack) rest
  pub shorter : length rest < length tokens
  pub within : IsWithin d s

-- a statement was read
pub record ReadsStatement (d : ℕ) (tokens : List Token) (s : Statement) (rest : List Token) : Type 0 where
  pub joins : (next : Statements) (last : List Token) → IsStatements next rest last → IsStatements (statement_before s next) tokens last
  pub takes : (stack : Stack) → scan d (some_statements ∷ stack) tokens ≡ scan d (some_statements ∷ stack) rest
  pub shorter : length rest < length tokens
  pub within : IsWithin d s

-- a list of statements was read, and its closing brace
pub record ReadsStatements (d : ℕ) (tokens : List Token) (s : Statements) (rest : List Token) : Type 0 where
  pub are_statements : IsStatements s tokens rest
  pub takes : (stack : Stack) → scan d (some_statements ∷ stack) tokens ≡ scan (d - 1) stack rest
  pub within : depth s + d ≤ MAX_CODE_DEPTH

abbrev pub block_phrases : Stack
block_phrases = open_brace ∷ (some_statements ∷ [])

-- a list of statements was read with both its braces
pub record ReadsBlock (d : ℕ) (tokens : List Token) (s : Statements) (rest : List Token) : Type 0 where
  pub line : ℕ
  pub inside : List Token
  pub opens : tokens ≡ mark OpenBrace line ∷ inside
  pub are_statements : IsStatements s inside rest
  pub takes : TakesAll block_phrases d tokens rest
  pub within : depth s + d + 1 ≤ MAX_CODE_DEPTH

-- what stands behind the first word of a body was read
pub record ReadsOwned (tokens : List Token) (owner : Reference) (s : Statements) (rest : List Token) : Type 0 where
  pub joins : (w : List ℕ) (kind : BodyKind) (line : ℕ) (more : List Body) → body_kind w ≡ Some kind → AreBodies more rest → AreBodies (record { kind = kind; line = line; owner = owner; statements = s } ∷ more) (name w line ∷ tokens)
  pub takes : scan 0 body_stack tokens ≡ scan 0 [] rest
  pub shorter : length rest < length tokens
  pub within : depth s < MAX_CODE_DEPTH

-- a body was read
pub record ReadsBody (tokens : List Token) (b : Body) (rest : List Token) : Type 0 where
  pub joins : (more : List Body) → AreBodies more rest → AreBodies (b ∷ more) tokens
  pub takes : scan 0 [] tokens ≡ scan 0 [] rest
  pub shorter : length rest < length tokens
  pub within : depth b.statements < MAX_CODE_DEPTH

-- the whole was read
pub record ReadsAll (tokens : List Token) (bodies : List Body) : Type 0 where
  pub are_bodies : AreBodies bodies tokens
  pub taken : scan 0 [] tokens ≡ None
  pub within : All (λ b. depth b.statements < MAX_CODE_DEPTH) bodies
