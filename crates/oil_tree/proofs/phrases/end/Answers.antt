use Rattle.std.proofs.{Common.{◌∷◌}, lemmas.Result.{err_from_is_err_and}}
use Rattle.oil_lexer.specs.declared.token.Mark.TheVariants.{Colon}
use Rattle.oil_tree.specs.Expect.{a_semicolon}
use Rattle.oil_tree.proofs.ShortPhrases.{mark_head, end_plain, end_described}
use Rattle.oil_tree.proofs.phrases.end.Goals as goal

pub returns-in-Mark-Semicolon : goal.returns-in-Mark-Semicolon
returns-in-Mark-Semicolon c = end_plain _ _ _ _ c.in_ok-token.ensures c.in-Mark-Semicolon.is (rw c.in-Mark-Semicolon.is at c.in-Mark-Semicolon.field-0-is)

pub returns-in_ok-rest-in-Mark-Colon : goal.returns-in_ok-rest-in-Mark-Colon
returns-in_ok-rest-in-Mark-Colon c = end_described _ _ _ _ _ _ _ _ _ c.in_ok-token.ensures c.in-Mark-Colon.is (rw c.in-Mark-Colon.is at c.in-Mark-Colon.field-0-is) c.in_ok-text-in-Mark-Colon.ensures.2 c.in_ok-rest-in-Mark-Colon.ensures.1

pub returns-in_err-text-in-Mark-Colon : goal.returns-in_err-text-in-Mark-Colon
returns-in_err-text-in-Mark-Colon c =
    let p = err_from_is_err_and c.from_residual-in_err-text-in-Mark-Colon.result c.from_residual-in_err-text-in-Mark-Colon.ensures.1 in
    let e = mark_head _ _ Colon _ _ c.in_ok-token.ensures c.in-Mark-Colon.is (rw c.in-Mark-Colon.is at c.in-Mark-Colon.field-0-is) in
    rw (p.1, p.2, e) (λ d stack. c.in_err-text-in-Mark-Colon.ensures d (a_semicolon ∷ stack))
