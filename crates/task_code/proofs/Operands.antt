-- A call that is read operand by operand.
use Rattle.std.proofs.Common.{◌≡◌, ℕ, List, [], ◌∷◌, ◌++◌, sym, ap, ◌∙◌, subst, append_assoc}
use Rattle.oil_lexer.specs.{declared.token.{TokenKind.TheVariants.{Mark}, Mark.{Mark as AMark, TheVariants.{CloseParen, Bar}}, Token.{Token}}, Tokens.{name, mark}}
use Rattle.task_code.specs.{declared.{call.{Reference.{Reference}, Call.{Call}}, words.Service.{Service}}, Grammar.{IsMask, last_event, more_events, IsCall}}
use Rattle.task_code.specs.Expect.{Stack, scan, a_name, mask_rest}

-- whatever mask goes on behind the tokens that were read is a mask with the events so far
abbrev pub Joins : List Reference → List Token → List Token → Type 0
Joins events tokens rest = (more : List Reference) (last : List Token) → IsMask more rest last → IsMask (events ++ more) tokens last

-- an event and a mark at the front
prefix : (e : Reference) (t : Token) (m m' : AMark) (rest behind after : List Token) → rest ≡ name e.name e.line ∷ behind → behind ≡ t ∷ after → t.kind ≡ Mark m → m ≡ m' → rest ≡ name e.name e.line ∷ (mark m' t.line ∷ after)
prefix e t m m' rest behind after e1 e2 k s = e1 ∙ ap (λ (z : List Token). name e.name e.line ∷ z) (e2 ∙ (λ i. record { kind = (k ∙ ap Mark s) i; line = t.line } ∷ after))

pub mask_ends : (events items : List Reference) (e : Reference) (t : Token) (m : AMark) (tokens rest behind after : List Token) → Joins events tokens rest → rest ≡ name e.name e.line ∷ behind → behind ≡ t ∷ after → t.kind ≡ Mark m → m ≡ CloseParen → items ≡ events ++ e ∷ [] → IsMask items tokens after
mask_ends events items e t m tokens rest behind after joins e1 e2 k s same =
    subst (λ (x : List Reference). IsMask x tokens after) (sym same) (joins (e ∷ []) after (subst (λ (z : List Token). IsMask (e ∷ []) z after) (sym (prefix e t m CloseParen rest behind after e1 e2 k s)) last_event))

pub mask_joins : (events items : List Reference) (e : Reference) (t : Token) (m : AMark) (tokens rest behind after : List Token) → Joins events tokens rest → rest ≡ name e.name e.line ∷ behind → behind ≡ t ∷ after → t.kind ≡ Mark m → m ≡ Bar → items ≡ events ++ e ∷ [] → Joins items tokens after
mask_joins events items e t m tokens rest behind after joins e1 e2 k s same = λ more last is.
    let longer : IsMask (e ∷ more) rest last = subst (λ (z : List Token). IsMask (e ∷ more) z last) (sym (prefix e t m Bar rest behind after e1 e2 k s)) (more_events is) in
    subst (λ (x : List Reference). IsMask x tokens last) (sym (append_assoc events (e ∷ []) more) ∙ ap (λ (x : List Reference). x ++ more) (sym same)) (joins (e ∷ more) last longer)

pub mask_takes : (e : Reference) (t : Token) (m : AMark) (rest behind after : List Token) → rest ≡ name e.name e.line ∷ behind → behind ≡ t ∷ after → t.kind ≡ Mark m → m ≡ Bar → (d : ℕ) (stack : Stack) → scan d (a_name ∷ (mask_rest ∷ stack)) rest ≡ scan d (a_name ∷ (mask_rest ∷ stack)) after
mask_takes e t m rest behind after e1 e2 k s d stack = ap (scan d (a_name ∷ (mask_rest ∷ stack))) (prefix e t m Bar rest behind after e1 e2 k s)

pub is_call : (service service' : Service) (c c' : Call) (tokens tokens' rest : List Token) → service ≡ service' → c ≡ c' → tokens ≡ tokens' → IsCall service' c' tokens' rest → IsCall service c tokens rest
is_call service service' c c' tokens tokens' rest es ec et is =
    subst (λ (x : Service). IsCall x c tokens rest) (sym es) (subst (λ (x : Call). IsCall service' x tokens rest) (sym ec) (subst (λ (x : List Token). IsCall service' c' x rest) (sym et) is))

-- tokens put together from their fronts
pub two_tokens : (t1 t2 : Token) (ts r1 r2 : List Token) → ts ≡ t1 ∷ r1 → r1 ≡ t2 ∷ r2 → ts ≡ t1 ∷ (t2 ∷ r2)
two_tokens t1 t2 ts r1 r2 e1 e2 = e1 ∙ ap (λ (z : List Token). t1 ∷ z) e2

pub six_tokens : (t1 t2 t3 t4 t5 t6 : Token) (ts r1 r2 r3 r4 : List Token) → ts ≡ t1 ∷ r1 → r1 ≡ t2 ∷ (t3 ∷ r2) → r2 ≡ t4 ∷ (t5 ∷ r3) → r3 ≡ t6 ∷ r4 → ts ≡ t1 ∷ (t2 ∷ (t3 ∷ (t4 ∷ (t5 ∷ (t6 ∷ r4)))))
six_tokens t1 t2 t3 t4 t5 t6 ts r1 r2 r3 r4 e1 e2 e3 e4 =
    e1 ∙ ap (λ (z : List Token). t1 ∷ z) (e2 ∙ ap (λ (z : List Token). t2 ∷ (t3 ∷ z)) (e3 ∙ ap (λ (z : List Token). t4 ∷ (t5 ∷ z)) e4))
