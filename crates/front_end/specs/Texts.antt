-- What an OIL text declares and what a task code text makes of it, and the first fault of each.
use Rattle.std.specs.Prelude.{◌⊎◌, ℕ, List}
use Rattle.osek_values.specs.declared.refusal.Rule.{Rule}
use Rattle.osek_values.specs.declared.refusal.Rule.TheVariants as rule
use Rattle.osek_standard.specs.declared.app.App.{App}
use Rattle.oil_system.specs.declared.system.System.{System}
use Rattle.oil_lexer.specs.declared.token.Token.{Token}
use Rattle.oil_lexer.specs.Text as lexer
use Rattle.oil_lexer.specs.Text.{AreTokens}
use Rattle.oil_tree.specs.declared.tree.Tree.{Tree}
use Rattle.oil_tree.specs.Faults as oil
use Rattle.oil_model.specs.Answers.{HasSystem}
use Rattle.oil_model.specs.Faults as model
use Rattle.task_code.specs.declared.tree.Code.{Code}
use Rattle.task_code.specs.Faults as task_code
use Rattle.block_graph.specs.Apps.{HasApp}
use Rattle.block_graph.specs.Faults as graph

-- the OIL text has these tokens, they have this tree, and its objects declare the system
pub record DeclaresSystem (text : List ℕ) (s : System) : Type 0 where
  pub tokens : List Token
  pub tree : Tree
  pub are_tokens : AreTokens text tokens
  pub has_tree : oil.HasTree tokens tree
  pub has_system : HasSystem tree s

-- The first fault of an OIL text: of its bytes, else of its tokens, else the least fault of its tree.
abbrev pub IsOilFault : List ℕ → Rule → ℕ → Type 0
IsOilFault text (rule.Lex r) line = lexer.IsFirstFault text (record { line = line; rule = r })
IsOilFault text (rule.Syntax r) line = (tokens : List Token) × AreTokens text tokens × oil.IsFirstFault tokens r line
IsOilFault text (rule.Oil r) line = (tokens : List Token) × (tree : Tree) × AreTokens text tokens × oil.HasTree tokens tree × model.IsLeastFault tree r line
IsOilFault text (rule.Code r) line = ⊥

-- the task code text has these tokens, they have this tree, and with the system it has the application
pub record GivesApp (s : System) (text : List ℕ) (app : App) : Type 0 where
  pub tokens : List Token
  pub code : Code
  pub are_tokens : AreTokens text tokens
  pub has_code : task_code.HasCode tokens code
  pub has_app : HasApp s code app

-- The first fault of a task code text beside a system: of its bytes, else of its tokens, `work` outside its range being
-- the last of these, else the least fault of system and code.
abbrev pub IsCodeFault : System → List ℕ → Rule → ℕ → Type 0
IsCodeFault s text (rule.Lex r) line = lexer.IsFirstFault text (record { line = line; rule = r })
IsCodeFault s text (rule.Syntax r) line = (tokens : List Token) × AreTokens text tokens × task_code.IsFirstFault tokens (rule.Syntax r) line
IsCodeFault s text (rule.Oil r) line = ⊥
IsCodeFault s text (rule.Code r) line =
    (tokens : List Token) × AreTokens text tokens
    × (task_code.IsFirstFault tokens (rule.Code r) line ⊎ ((code : Code) × task_code.HasCode tokens code × graph.IsLeastFault s code r line))
