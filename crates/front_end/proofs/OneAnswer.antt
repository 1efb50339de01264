-- A text has one answer and no other.
use Rattle.std.proofs.Common.{◌≡◌, ℕ, List, sym, ap, subst, inl, inr}
use Rattle.std.specs.Prelude.{Result, Ok, Err}
use Rattle.osek_values.specs.declared.refusal.{Refusal.{Refusal}, TextFile.{TextFile}, Rule.{Rule}, SyntaxRule.{SyntaxRule}, LexRule.{LexRule}, OilRule.{OilRule}, CodeRule.{CodeRule}}
use Rattle.osek_values.specs.declared.refusal.TextFile.TheVariants as file
use Rattle.osek_values.specs.declared.refusal.Rule.TheVariants as rule
use Rattle.osek_standard.specs.declared.app.App.{App}
use Rattle.oil_system.specs.declared.system.System.{System}
use Rattle.osek_values.specs.declared.refused.LineFault.{LineFault}
use Rattle.oil_lexer.specs.{declared.token.Token.{Token}, Text.{AreTokens, IsFirstFault}}
use Rattle.oil_lexer.proofs.Unique as lexer_law
use Rattle.oil_tree.specs.declared.tree.Tree.{Tree}
use Rattle.oil_tree.specs.Faults as oil
use Rattle.oil_tree.specs.Answers as tree
use Rattle.oil_tree.proofs.OneAnswer as tree_law
use Rattle.oil_model.specs.Answers as model
use Rattle.oil_model.proofs.OneAnswer as model_law
use Rattle.task_code.specs.declared.tree.Code.{Code}
use Rattle.task_code.specs.Answers as code_answer
use Rattle.task_code.specs.Faults as task_code
use Rattle.task_code.proofs.OneAnswer as code_law
use Rattle.block_graph.specs.Answers as graph
use Rattle.block_graph.proofs.OneAnswer as graph_law
use Rattle.front_end.specs.{Texts.{IsOilFault, IsCodeFault}, Answers.{IsOilAnswer, IsCodeAnswer}}

-- what a stage answers, where its fault ends all and its value goes on
abbrev goes_on : {X F Y : Type 0} → (F → Refusal) → (X → Result Y Refusal) → Result X F → Result Y Refusal
goes_on refuse next (Ok x) = next x
goes_on refuse next (Err e) = Err (refuse e)

abbrev pub refusal : TextFile → Rule → ℕ → Refusal
refusal f q line = record { file = f; line = line; rule = q }

abbrev pub lex_refusal : TextFile → (LineFault LexRule) → Refusal
lex_refusal f e = refusal f (rule.Lex e.rule) e.line

-- An answer of an OIL text, stage by stage: of its bytes, of its tokens, of its tree.
abbrev pub model_refusal : (LineFault OilRule) → Refusal
model_refusal e = refusal file.Oil (rule.Oil e.rule) e.line

abbrev of_tree : Result System (LineFault OilRule) → Result System Refusal
of_tree a = goes_on model_refusal (λ s. Ok s) a

abbrev pub oil_refusal : (LineFault SyntaxRule) → Refusal
oil_refusal e = refusal file.Oil (rule.Syntax e.rule) e.line

data IsOilStage (text : List ℕ) : Result System Refusal → Type 0 where
  at_bytes : (f : LineFault LexRule) → IsFirstFault text f → IsOilStage text (Err (lex_refusal file.Oil f))
  at_tokens : (tokens : List Token) (f : LineFault SyntaxRule) → AreTokens text tokens → oil.IsFirstFault tokens f.rule f.line → IsOilStage text (Err (oil_refusal f))
  at_tree : (tokens : List Token) (tree : Tree) (a : Result System (LineFault OilRule)) → AreTokens text tokens → oil.HasTree tokens tree → model.IsAnswer a tree → IsOilStage text (of_tree a)

oil_refused : (text : List ℕ) (f : TextFile) (line : ℕ) (q : Rule) → f ≡ file.Oil → IsOilFault text q line → IsOilStage text (Err (refusal f q line))
oil_refused text f line (rule.Lex r) e h = subst (λ (k : TextFile). IsOilStage text (Err (refusal k (rule.Lex r) line))) (sym e) (at_bytes (record { line = line; rule = r }) h)
oil_refused text f line (rule.Syntax r) e h = subst (λ (k : TextFile). IsOilStage text (Err (refusal k (rule.Syntax r) line))) (sym e) (at_tokens h.0 (record { line = line; rule = r }) h.1 h.2)
oil_refused text f line (rule.Oil r) e h = subst (λ (k : TextFile). IsOilStage text (Err (refusal k (rule.Oil r) line))) (sym e) (at_tree h.0 h.1 (Err (record { line = line; rule = r })) h.2 h.3 h.4)
oil_refused text f line (rule.Code r) e h = absurd h

oil_stage : (text : List ℕ) (a : Result System Refusal) → IsOilAnswer a text → IsOilStage text a
oil_stage text (Ok s) h = at_tree h.tokens h.tree (Ok s) h.are_tokens h.has_tree h.has_system
oil_stage text (Err r) h = oil_refused text r.file r.line r.rule h.0 h.1

same_tokens : (text : List ℕ) (a b : List Token) → AreTokens text a → AreTokens text b → a ≡ b
same_tokens text a b x y = let e = lexer_law.one_answer text (Ok a) (Ok b) x y in cc e

no_tokens : (text : List ℕ) (f : LineFault LexRule) (a : List Token) → IsFirstFault text f → AreTokens text a → ⊥
no_tokens text f a x y = let e = lexer_law.one_answer text (Err f) (Ok a) x y in absurd (cc e)

same_lex_fault : (text : List ℕ) (f g : LineFault LexRule) → IsFirstFault text f → IsFirstFault text g → f ≡ g
same_lex_fault text f g x y = let e = lexer_law.one_answer text (Err f) (Err g) x y in cc e

-- the answers of the same tokens are the same
parsed : (text : List ℕ) (t u : List Token) (a b : Result Tree (LineFault SyntaxRule)) → AreTokens text t → AreTokens text u → tree.IsAnswer a t → tree.IsAnswer b u → a ≡ b
parsed text t u a b x y p q = tree_law.one_answer t a b p (subst (λ (k : List Token). tree.IsAnswer b k) (sym (same_tokens text t u x y)) q)

resolved : (t u : Tree) (a b : Result System (LineFault OilRule)) → t ≡ u → model.IsAnswer a t → model.IsAnswer b u → a ≡ b
resolved t u a b e p q = model_law.one t a b p (subst (λ (k : Tree). model.IsAnswer b k) (sym e) q)

same_oil : (text : List ℕ) (a b : Result System Refusal) → IsOilStage text a → IsOilStage text b → a ≡ b
same_oil text _ _ (at_bytes f x) (at_bytes g y) = ap (λ (e : LineFault LexRule). Err (lex_refusal file.Oil e)) (same_lex_fault text f g x y)
same_oil text _ _ (at_bytes f x) (at_tokens u g y q) = absurd (no_tokens text f u x y)
same_oil text _ _ (at_bytes f x) (at_tree u v b y q w) = absurd (no_tokens text f u x y)
same_oil text _ _ (at_tokens t f x p) (at_bytes g y) = absurd (no_tokens text g t y x)
same_oil text _ _ (at_tokens t f x p) (at_tokens u g y q) =
    let e = parsed text t u (Err f) (Err g) x y p q in
    let same : f ≡ g = cc e in ap (λ (k : LineFault SyntaxRule). Err (oil_refusal k)) same
same_oil text _ _ (at_tokens t f x p) (at_tree u v b y q w) = let e = parsed text t u (Err f) (Ok v) x y p q in absurd (cc e)
same_oil text _ _ (at_tree t v a x p w) (at_bytes g y) = absurd (no_tokens text g t y x)
same_oil text _ _ (at_tree t v a x p w) (at_tokens u g y q) = let e = parsed text u t (Err g) (Ok v) y x q p in absurd (cc e)
same_oil text _ _ (at_tree t v a x p w) (at_tree u z b y q k) =
    let e = parsed text t u (Ok v) (Ok z) x y p q in
    let trees : v ≡ z = cc e in
    ap of_tree (resolved v z a b trees w k)

-- An answer of a task code text, stage by stage: of its bytes, of its tokens, of its code beside the system.
abbrev pub code_refusal : (LineFault Rule) → Refusal
code_refusal e = refusal file.Code e.rule e.line

abbrev pub link_refusal : (LineFault CodeRule) → Refusal
link_refusal e = refusal file.Code (rule.Code e.rule) e.line

abbrev of_code : Result App (LineFault CodeRule) → Result App Refusal
of_code a = goes_on link_refusal (λ app. Ok app) a

data IsCodeStage (s : System) (text : List ℕ) : Result App Refusal → Type 0 where
  at_code_bytes : (f : LineFault LexRule) → IsFirstFault text f → IsCodeStage s text (Err (lex_refusal file.Code f))
  at_code_tokens : (tokens : List Token) (f : LineFault Rule) → AreTokens text tokens → task_code.IsFirstFault tokens f.rule f.line → IsCodeStage s text (Err (code_refusal f))
  at_code : (tokens : List Token) (code : Code) (a : Result App (LineFault CodeRule)) → AreTokens text tokens → task_code.HasCode tokens code → graph.IsAnswer a s code → IsCodeStage s text (of_code a)

code_refused : (s : System) (text : List ℕ) (f : TextFile) (line : ℕ) (q : Rule) → f ≡ file.Code → IsCodeFault s text q line → IsCodeStage s text (Err (refusal f q line))
code_refused s text f line (rule.Lex r) e h = subst (λ (k : TextFile). IsCodeStage s text (Err (refusal k (rule.Lex r) line))) (sym e) (at_code_bytes (record { line = line; rule = r }) h)
code_refused s text f line (rule.Syntax r) e h = subst (λ (k : TextFile). IsCodeStage s text (Err (refusal k (rule.Syntax r) line))) (sym e) (at_code_tokens h.0 (record { line = line; rule = rule.Syntax r }) h.1 h.2)
code_refused s text f line (rule.Oil r) e h = absurd h
code_refused s text f line (rule.Code r) e (t, tokens, inl h) = subst (λ (k : TextFile). IsCodeStage s text (Err (refusal k (rule.Code r) line))) (sym e) (at_code_tokens t (record { line = line; rule = rule.Code r }) tokens h)
code_refused s text f line (rule.Code r) e (t, tokens, inr h) = subst (λ (k : TextFile). IsCodeStage s text (Err (refusal k (rule.Code r) line))) (sym e) (at_code t h.0 (Err (record { line = line; rule = r })) tokens h.1 h.2)

code_stage : (s : System) (text : List ℕ) (a : Result App Refusal) → IsCodeAnswer a s text → IsCodeStage s text a
code_stage s text (Ok app) h = at_code h.tokens h.code (Ok app) h.are_tokens h.has_code h.has_app
code_stage s text (Err r) h = code_refused s text r.file r.line r.rule h.0 h.1

read_code : (text : List ℕ) (t u : List Token) (a b : Result Code (LineFault Rule)) → AreTokens text t → AreTokens text u → code_answer.IsAnswer a t → code_answer.IsAnswer b u → a ≡ b
read_code text t u a b x y p q = code_law.one_answer t a b p (subst (λ (k : List Token). code_answer.IsAnswer b k) (sym (same_tokens text t u x y)) q)

linked : (s : System) (t u : Code) (a b : Result App (LineFault CodeRule)) → t ≡ u → graph.IsAnswer a s t → graph.IsAnswer b s u → a ≡ b
linked s t u a b e p q = graph_law.one s t a b p (subst (λ (k : Code). graph.IsAnswer b s k) (sym e) q)

same_code : (s : System) (text : List ℕ) (a b : Result App Refusal) → IsCodeStage s text a → IsCodeStage s text b → a ≡ b
same_code s text _ _ (at_code_bytes f x) (at_code_bytes g y) = ap (λ (e : LineFault LexRule). Err (lex_refusal file.Code e)) (same_lex_fault text f g x y)
same_code s text _ _ (at_code_bytes f x) (at_code_tokens u g y q) = absurd (no_tokens text f u x y)
same_code s text _ _ (at_code_bytes f x) (at_code u v b y q w) = absurd (no_tokens text f u x y)
same_code s text _ _ (at_code_tokens t f x p) (at_code_bytes g y) = absurd (no_tokens text g t y x)
same_code s text _ _ (at_code_tokens t f x p) (at_code_tokens u g y q) =
    let e = read_code text t u (Err f) (Err g) x y p q in
    let same : f ≡ g = cc e in ap (λ (k : LineFault Rule). Err (code_refusal k)) same
same_code s text _ _ (at_code_tokens t f x p) (at_code u v b y q w) = let e = read_code text t u (Err f) (Ok v) x y p q in absurd (cc e)
same_code s text _ _ (at_code t v a x p w) (at_code_bytes g y) = absurd (no_tokens text g t y x)
same_code s text _ _ (at_code t v a x p w) (at_code_tokens u g y q) = let e = read_code text u t (Err g) (Ok v) y x q p in absurd (cc e)
same_code s text _ _ (at_code t v a x p w) (at_code u z b y q k) =
    let e = read_code text t u (Ok v) (Ok z) x y p q in
    let codes : v ≡ z = cc e in
    ap of_code (linked s v z a b codes w k)

-- one answer at most
pub one_oil : (text : List ℕ) (a b : Result System Refusal) → IsOilAnswer a text → IsOilAnswer b text → a ≡ b
one_oil text a b x y = same_oil text a b (oil_stage text a x) (oil_stage text b y)

pub one_code : (s : System) (text : List ℕ) (a b : Result App Refusal) → IsCodeAnswer a s text → IsCodeAnswer b s text → a ≡ b
one_code s text a b x y = same_code s text a b (code_stage s text a x) (code_stage s text b y)
