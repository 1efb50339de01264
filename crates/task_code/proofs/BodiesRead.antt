-- Bodies that were read.
use Rattle.std.proofs.Common.{◌≡◌, ℕ, ◌<◌, List, [], ◌∷◌, ◌++◌, length, sym, ap, ◌∙◌, subst, append_assoc, arith}
use Rattle.std.specs.Prelude.{All}
use Rattle.std.proofs.lemmas.List.{append-nil, Elements.{All-push}}
use Rattle.oil_lexer.specs.{declared.token.{Mark.TheVariants.{OpenBrace, OpenParen, CloseParen}, Token.{Token}}, Tokens.{name, mark}}
use Rattle.task_code.specs.{declared.{call.Reference.{Reference}, tree.Body.{Body}}, Statements.{Statements}, Fit.{depth}, Grammar.{AreBodies, no_body, a_body}}
use Rattle.task_code.specs.{Expect.{scan, body_stack}, Phrases.{ReadsBlock, ReadsOwned, ReadsBody, ReadsAll}}
use Rattle.task_code.proofs.Scanned.{shorter_statements}

pub reads_owned : (l l' : ℕ) (owner : Reference) (s : Statements) (tokens r1 r2 r rest : List Token) → tokens ≡ mark OpenParen l ∷ r1 → r1 ≡ name owner.name owner.line ∷ r2 → r2 ≡ mark CloseParen l' ∷ r → ReadsBlock 0 r s rest → ReadsOwned tokens owner s rest
reads_owned l l' owner s tokens r1 r2 r rest e1 e2 e3 b =
    let short : tokens ≡ mark OpenParen l ∷ (name owner.name owner.line ∷ (mark CloseParen l' ∷ r)) = e1 ∙ ap (λ (z : List Token). mark OpenParen l ∷ z) (e2 ∙ ap (λ (z : List Token). name owner.name owner.line ∷ z) e3) in
    let prefix : tokens ≡ mark OpenParen l ∷ (name owner.name owner.line ∷ (mark CloseParen l' ∷ (mark OpenBrace b.line ∷ b.inside))) = short ∙ ap (λ (z : List Token). mark OpenParen l ∷ (name owner.name owner.line ∷ (mark CloseParen l' ∷ z))) b.opens in
    record {
      joins = λ w kind line more is bodies. subst (λ (z : List Token). AreBodies (record { kind = kind; line = line; owner = owner; statements = s } ∷ more) (name w line ∷ z)) (sym prefix) (a_body is b.are_statements bodies);
      takes = ap (scan 0 body_stack) short ∙ b.takes [];
      shorter = let lengths = ap length prefix in omega (arith, lengths, shorter_statements b.are_statements);
      within = let w = b.within in omega (arith, w);
    }

-- bodies so far
abbrev pub BodiesJoin : List Body → List Token → List Token → Type 0
BodiesJoin found tokens rest = (more : List Body) → AreBodies more rest → AreBodies (found ++ more) tokens

pub bodies_join : (found longer : List Body) (b : Body) (t : Token) (tokens rest behind after : List Token) → BodiesJoin found tokens rest → rest ≡ t ∷ behind → ReadsBody (t ∷ behind) b after → longer ≡ found ++ b ∷ [] → BodiesJoin longer tokens after
bodies_join found longer b t tokens rest behind after joins e read same = λ more are.
    subst (λ (x : List Body). AreBodies x tokens) (sym (append_assoc found (b ∷ []) more) ∙ ap (λ (x : List Body). x ++ more) (sym same)) (joins (b ∷ more) (subst (λ (z : List Token). AreBodies (b ∷ more) z) (sym e) (read.joins more are)))

pub bodies_take : (b : Body) (t : Token) (tokens rest behind after : List Token) → scan 0 [] tokens ≡ scan 0 [] rest → rest ≡ t ∷ behind → ReadsBody (t ∷ behind) b after → scan 0 [] tokens ≡ scan 0 [] after
bodies_take b t tokens rest behind after takes e read = takes ∙ ap (scan 0 []) e ∙ read.takes

pub bodies_within : (found longer : List Body) (b : Body) → All (λ (x : Body). depth x.statements < 32) found → depth b.statements < 32 → longer ≡ found ++ b ∷ [] → All (λ (x : Body). depth x.statements < 32) longer
bodies_within found longer b all one same =
    subst (λ (xs : List Body). All (λ (x : Body). depth x.statements < 32) xs) (sym same) (All-push (λ (x : Body). depth x.statements < 32) found b all one)

pub reads_all : (found all : List Body) (tokens rest : List Token) → BodiesJoin found tokens rest → scan 0 [] tokens ≡ scan 0 [] rest → All (λ (b : Body). depth b.statements < 32) found → rest ≡ [] → all ≡ found → ReadsAll tokens all
reads_all found all tokens rest joins takes within none same =
    subst (λ (x : List Body). ReadsAll tokens x) (sym same) (record {
      are_bodies = subst (λ (x : List Body). AreBodies x tokens) (append-nil found) (joins [] (subst (λ (z : List Token). AreBodies [] z) (sym none) no_body));
      taken = takes ∙ ap (scan 0 []) none;
      within = within;
    })
