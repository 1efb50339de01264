-- The code of a list of tokens, and the first fault of one that has none (this project's profile): of its grammar, and
-- behind that of the numbers of its `work` statements.
use Rattle.std.specs.Prelude.{◌≡◌, ℕ, Bool, ◌&&◌, nat_le, if◌then◌else◌, List, [], ◌∷◌, ◌++◌}
use Rattle.osek_values.specs.declared.limits.TheConstants.{MAX_CODE_DEPTH}
use Rattle.osek_values.specs.declared.refusal.{Rule.{Rule, TheVariants.{Syntax, Code as of_code}}, SyntaxRule.{SyntaxRule}, CodeRule.TheVariants.{C9}}
use Rattle.oil_lexer.specs.declared.token.Token.{Token}
use Rattle.oil_lexer.specs.Faults as faults
use Rattle.task_code.specs.{declared.tree.{Body.{Body}, Code.{Code}}, Statements.{Statements, closed, work_then, if_then, if_else_then, while_then, call_then}}
use Rattle.task_code.specs.Grammar.{IsSentence}

-- a sentence with its tree, within the depth
abbrev pub HasTree : List Token → Code → Type 0
HasTree = faults.HasTree Code IsSentence MAX_CODE_DEPTH

-- the first fault of the grammar
abbrev pub IsSyntaxFault : List Token → SyntaxRule → ℕ → Type 0
IsSyntaxFault = faults.IsFirstFault Code IsSentence MAX_CODE_DEPTH

-- how many instructions `work` may take
abbrev pub is_count : ℕ → Bool
is_count n = nat_le 1 n && nat_le n 65535

-- the lines of each `work` outside that range, in the order of the text
abbrev pub wrong_works : Statements → List ℕ
wrong_works (closed line) = []
wrong_works (work_then line count next) = if is_count count then wrong_works next else line ∷ wrong_works next
wrong_works (if_then line branch next) = wrong_works branch ++ wrong_works next
wrong_works (if_else_then line branch otherwise next) = wrong_works branch ++ (wrong_works otherwise ++ wrong_works next)
wrong_works (while_then line condition body next) = wrong_works body ++ wrong_works next
wrong_works (call_then line call next) = wrong_works next

abbrev pub wrong_works_in : List Body → List ℕ
wrong_works_in [] = []
wrong_works_in (body ∷ more) = wrong_works body.statements ++ wrong_works_in more

-- the code of the tokens
pub record HasCode (tokens : List Token) (code : Code) : Type 0 where
  pub tree : HasTree tokens code
  pub works : wrong_works_in code.bodies ≡ []

-- a sentence, with a first `work` that is outside its range
pub record HasWrongWork (tokens : List Token) (line : ℕ) : Type 0 where
  pub code : Code
  pub tree : HasTree tokens code
  pub others : List ℕ
  pub works : wrong_works_in code.bodies ≡ line ∷ others

-- the first fault: of the grammar, else the first `work` outside its range; no other rule is judged here
abbrev pub IsFirstFault : List Token → Rule → ℕ → Type 0
IsFirstFault tokens (Syntax rule) line = IsSyntaxFault tokens rule line
IsFirstFault tokens (of_code C9) line = HasWrongWork tokens line
IsFirstFault tokens _ line = ⊥
