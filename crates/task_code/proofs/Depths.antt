-- Task code whose braces are within the limit has bodies that nest no deeper.
use Rattle.std.proofs.{Common.{◌≡◌, ℕ, ◌+◌, ◌-◌, ◌<◌, ◌≤◌, ⊎_elim, true, List, [], ◌∷◌, ◌++◌, refl, sym, ◌∙◌, subst, append_assoc, arith}, lemmas.List.Elements.{All-nil, All-cons}}
use Rattle.std.proofs.str.Laws.{order}
use Rattle.std.specs.Prelude.{⊤, All}
use Rattle.osek_values.specs.declared.limits.TheConstants.{MAX_CODE_DEPTH}
use Rattle.oil_lexer.specs.{declared.token.{Token.{Token}, Mark.TheVariants.{CloseParen, OpenBrace}}, Depth.{deeper, depth_from}, Tokens.{is_open, mark}}
use Rattle.task_code.specs.declared.{call.{Call.{Call}, Reference.{Reference}}, tree.{Body.{Body}, Code.{Code}, Condition.{Condition}}, words.Service.{Service}}
use Rattle.task_code.specs.{Statements.{Statements}, Fit.{depth, AreFit}}
use Rattle.task_code.specs.Grammar.{IsMask, last_event, more_events, IsCall, plain, object, mask, set_event, alarm, shutdown, IsCondition, choice, always, IsStatements, no_more, a_work, an_if, an_if_else, a_while, a_call, AreBodies, no_body, a_body}
use Rattle.task_code.specs.Faults.{HasTree, HasCode}
use Rattle.oil_lexer.proofs.FirstFault.{depth_push}
use Rattle.task_code.proofs.FitLaws.{are_fit}

-- each brace is opened where fewer than 32 are open
abbrev Shallow : ℕ → List Token → Type 0
Shallow d [] = ⊤
Shallow d (t ∷ ts) = (is_open t.kind ≡ true → d < 32) × Shallow (deeper d t.kind) ts

shallow : (code : Code) (tokens : List Token) → HasTree tokens code → (prefix ts : List Token) → tokens ≡ prefix ++ ts → Shallow (depth_from 0 prefix) ts
shallow code tokens tree prefix [] e = tt
shallow code tokens tree prefix (t ∷ ts) e = (
  (λ opens. ⊎_elim (λ lt. lt) (λ le. absurd ((tree.clear prefix t ts e).1 ((ts, code, subst (λ (all : List Token). AreBodies code.bodies all) (e ∙ pushed) tree.sentence), (opens, le)))) (order (depth_from 0 prefix) MAX_CODE_DEPTH)),
  subst (λ (d : ℕ). Shallow d ts) (depth_push 0 prefix t) (shallow code tokens tree (prefix ++ t ∷ []) ts (e ∙ pushed)),
)
  where
    pushed : prefix ++ t ∷ ts ≡ (prefix ++ t ∷ []) ++ ts
    pushed = sym (append_assoc prefix (t ∷ []) ts)

-- calls have no braces

behind_mask : (d : ℕ) {m : List Reference} {a b : List Token} → IsMask m a b → Shallow d a → Shallow d b
behind_mask d last_event all = all.1.1
behind_mask d (more_events more) all = behind_mask d more all.1.1

behind_call : (d : ℕ) {s : Service} {c : Call} {a b : List Token} → IsCall s c a b → Shallow d a → Shallow d b
behind_call d plain all = all.1
behind_call d object all = all.1.1
behind_call d (mask is) all = behind_mask d is all
behind_call d (set_event is) all = behind_mask d is all.1.1
behind_call d alarm all = all.1.1.1.1.1.1
behind_call d (shutdown e) all = all.1.1

behind_condition : (d : ℕ) {c : Condition} {t : Token} (a : List Token) → IsCondition c t → Shallow d (t ∷ a) → Shallow d a
behind_condition d a choice all = all.1
behind_condition d a always all = all.1

-- what a closing brace closes
after_close : (d : ℕ) (rest : List Token) → Shallow (d + 1 - 1) rest → Shallow d rest
after_close d rest all = subst (λ (k : ℕ). Shallow k rest) (omega arith) all

-- how deep statements nest from a depth on, and what is left behind their closing brace
record Nests (d : ℕ) (s : Statements) (rest : List Token) : Type 0 where
  within : depth s + (d + 1) ≤ 32
  behind : Shallow d rest

nests : (d : ℕ) {s : Statements} {a b : List Token} → IsStatements s a b → d < 32 → Shallow (d + 1) a → Nests d s b
nests d {b = rest} no_more lt all = record { within = omega (arith, lt); behind = after_close d rest all.1 }
nests d (a_work e more) lt all = let n = nests d more lt all.1.1.1 in record { within = n.within; behind = n.behind }
nests d (an_if e branch more) lt all =
    let opened = all.1.1.1.1 in
    let b = nests (d + 1) branch (opened.0 refl) opened.1 in
    let n = nests d more lt b.behind in
    record { within = omega (arith, b.within, n.within); behind = n.behind }
nests d (an_if_else e branch is other more) lt all =
    let opened = all.1.1.1.1 in
    let b = nests (d + 1) branch (opened.0 refl) opened.1 in
    let reopened = b.behind.1 in
    let o = nests (d + 1) other (reopened.0 refl) reopened.1 in
    let n = nests d more lt o.behind in
    record { within = omega (arith, b.within, o.within, n.within); behind = n.behind }
nests d (a_while {l3 = l3} {l4 = l4} {a = a} e condition body more) lt all =
    let opened = (behind_condition (d + 1) (mark CloseParen l3 ∷ (mark OpenBrace l4 ∷ a)) condition all.1.1).1 in
    let b = nests (d + 1) body (opened.0 refl) opened.1 in
    let n = nests d more lt b.behind in
    record { within = omega (arith, b.within, n.within); behind = n.behind }
nests d (a_call e call more) lt all =
    let n = nests d more lt (behind_call (d + 1) call all.1.1).1 in
    record { within = n.within; behind = n.behind }

bodies_nest : (bodies : List Body) (tokens : List Token) → AreBodies bodies tokens → Shallow 0 tokens → All (λ (b : Body). depth b.statements < 32) bodies
bodies_nest [] tokens no_body all = All-nil (λ (b : Body). depth b.statements < 32)
bodies_nest (body ∷ bodies) tokens (a_body {b = rest} is statements more) all =
    let opened = all.1.1.1.1 in
    let n = nests 0 statements (opened.0 refl) opened.1 in
    All-cons (λ (b : Body). depth b.statements < 32) body bodies (omega (arith, n.within)) (bodies_nest bodies rest more n.behind)

-- code without a fault can be linked
pub has_fit : (tokens : List Token) (code : Code) → HasCode tokens code → AreFit code
has_fit tokens code has = are_fit code.bodies tokens has.tree.sentence has.works (bodies_nest code.bodies tokens has.tree.sentence (shallow code tokens has.tree [] tokens refl))
