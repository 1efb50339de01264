-- Each text has an answer.
use Rattle.std.proofs.Common.{ℕ, ◌⊎◌, inl, inr, List, refl, sym, subst}
use Rattle.std.specs.Prelude.{Result, Ok, Err}
use Rattle.osek_values.specs.declared.refusal.{Refusal.{Refusal}, Rule.{Rule}, SyntaxRule.{SyntaxRule}, LexRule.{LexRule}, OilRule.{OilRule}, CodeRule.{CodeRule}}
use Rattle.osek_values.specs.declared.refusal.TextFile.TheVariants as file
use Rattle.osek_values.specs.declared.refusal.Rule.TheVariants as rule
use Rattle.osek_standard.specs.declared.app.App.{App}
use Rattle.oil_system.specs.declared.system.System.{System}
use Rattle.osek_values.specs.declared.refused.LineFault.{LineFault}
use Rattle.oil_lexer.specs.{declared.token.Token.{Token}, Text.{AreTokens}}
use Rattle.oil_lexer.specs.Answers as lexer
use Rattle.oil_lexer.proofs.EachText as lexer_law
use Rattle.oil_lexer.proofs.NamedTokens.{are_named}
use Rattle.oil_tree.specs.declared.tree.Tree.{Tree}
use Rattle.oil_tree.specs.Faults as oil
use Rattle.oil_tree.proofs.Prefixes as tree_law
use Rattle.oil_tree.proofs.NamedObjects.{file_named}
use Rattle.oil_model.specs.Answers as model
use Rattle.oil_model.specs.Linkable.{IsLinkable}
use Rattle.oil_model.proofs.OneAnswer as model_law
use Rattle.oil_model.proofs.Linking.{linkable}
use Rattle.task_code.specs.declared.tree.Code.{Code}
use Rattle.task_code.specs.Answers as code_answer
use Rattle.task_code.specs.Faults as task_code
use Rattle.task_code.proofs.Depths.{has_fit}
use Rattle.task_code.proofs.Viable as code_law
use Rattle.block_graph.specs.Answers as graph
use Rattle.block_graph.proofs.SomeAnswer as graph_law
use Rattle.front_end.specs.{Texts.{DeclaresSystem, IsCodeFault}, Answers.{IsOilAnswer, IsCodeAnswer}}
use Rattle.front_end.proofs.OneAnswer.{lex_refusal, oil_refusal, model_refusal, code_refusal, link_refusal}

-- an OIL text, stage by stage

abbrev Oil : List ℕ → Type 0
Oil text = (answer : Result System Refusal) × IsOilAnswer answer text

of_tree : (text : List ℕ) (tokens : List Token) (tree : Tree) → AreTokens text tokens → oil.HasTree tokens tree → (a : Result System (LineFault OilRule)) → model.IsAnswer a tree → Oil text
of_tree text tokens tree are has (Ok s) is = (Ok s, record { tokens = tokens; tree = tree; are_tokens = are; has_tree = has; has_system = is })
of_tree text tokens tree are has (Err f) is = (Err (model_refusal f), (refl, (tokens, tree, are, has, is)))

of_tokens : (text : List ℕ) (tokens : List Token) → AreTokens text tokens → ((tree : Tree) × oil.HasTree tokens tree) ⊎ ((f : LineFault SyntaxRule) × oil.IsFirstFault tokens f.rule f.line) → Oil text
of_tokens text tokens are (inl (tree, has)) = let (a, is) = model_law.some tree in of_tree text tokens tree are has a is
of_tokens text tokens are (inr (f, is)) = (Err (oil_refusal f), (refl, (tokens, are, is)))

of_text : (text : List ℕ) (a : Result (List Token) (LineFault LexRule)) → lexer.IsAnswer a text → Oil text
of_text text (Ok tokens) are = of_tokens text tokens are (tree_law.some_answer tokens)
of_text text (Err f) is = (Err (lex_refusal file.Oil f), (refl, is))

pub some_oil : (text : List ℕ) → (answer : Result System Refusal) × IsOilAnswer answer text
some_oil text = let (a, is) = lexer_law.some_answer text in of_text text a is

-- what a text declares can be linked
pub declared_is_linkable : (text : List ℕ) (s : System) → DeclaresSystem text s → IsLinkable s
declared_is_linkable text s d = subst IsLinkable (sym d.has_system.is) (linkable d.tree (file_named d.has_tree.sentence (are_named text d.tokens d.are_tokens)) d.has_system.no_fault)

-- a task code text beside a system, stage by stage

module _ (s : System) (text : List ℕ) where
  abbrev Given : Type 0
  Given = (answer : Result App Refusal) × IsCodeAnswer answer s text

  faulty : (tokens : List Token) → AreTokens text tokens → (r : Rule) (line : ℕ) → task_code.IsFirstFault tokens r line → IsCodeFault s text r line
  faulty tokens are (rule.Lex r) line is = absurd is
  faulty tokens are (rule.Syntax r) line is = (tokens, are, is)
  faulty tokens are (rule.Oil r) line is = absurd is
  faulty tokens are (rule.Code r) line is = (tokens, are, inl is)

  of_code : (tokens : List Token) (code : Code) → AreTokens text tokens → task_code.HasCode tokens code → (a : Result App (LineFault CodeRule)) → graph.IsAnswer a s code → Given
  of_code tokens code are has (Ok app) is = (Ok app, record { tokens = tokens; code = code; are_tokens = are; has_code = has; has_app = is })
  of_code tokens code are has (Err f) is = (Err (link_refusal f), (refl, (tokens, are, inr (code, has, is))))

  of_code_tokens : IsLinkable s → (tokens : List Token) → AreTokens text tokens → (a : Result Code (LineFault Rule)) → code_answer.IsAnswer a tokens → Given
  of_code_tokens can tokens are (Ok code) has = let (a, is) = graph_law.some s code can (has_fit tokens code has) in of_code tokens code are has a is
  of_code_tokens can tokens are (Err f) is = (Err (code_refusal f), (refl, faulty tokens are f.rule f.line is))

  of_code_text : IsLinkable s → (a : Result (List Token) (LineFault LexRule)) → lexer.IsAnswer a text → Given
  of_code_text can (Ok tokens) are = let (a, is) = code_law.some_answer tokens in of_code_tokens can tokens are a is
  of_code_text can (Err f) is = (Err (lex_refusal file.Code f), (refl, is))

  pub some_code : IsLinkable s → (answer : Result App Refusal) × IsCodeAnswer answer s text
  some_code can = let (a, is) = lexer_law.some_answer text in of_code_text can a is
