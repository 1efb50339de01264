-- one digit, or two of which the first is that of the tens
use Rattle.std.proofs.{Common.{◌≡◌, ℕ, ◌+◌, ◌/◌, ◌%◌, ◌<◌, ◌≤◌, ◌^◌, List, [], ◌∷◌, ◌++◌, take, sym, ◌∙◌, ap, arith}, lemmas.{Fmt.{decimal_digit, decimal_step}, List.{append_assoc}}}
use Rattle.std.specs.Fmt.{decimal}
use Rattle.text_pieces.proofs.pieces.put_decimal.Goals as goal

two_digits : (n : ℕ) → 10 ≤ n → n < 100 → n < 2 ^ 64 → decimal n ≡ (48 + n / 10) ∷ (48 + n % 10) ∷ []
two_digits n many few fits = decimal_step n many fits ∙ ap (λ (l : List ℕ). l ++ (48 + n % 10) ∷ []) (decimal_digit (n / 10) (omega (arith, few)))

pub returns-then-n-lt10-clause-text : goal.returns-then-n-lt10-clause-text
returns-then-n-lt10-clause-text c =
    let before : List ℕ = take c.args.at c.args.buf.now in
    c.put_byte.ensures.text ∙ ap (λ (l : List ℕ). before ++ l) (sym (decimal_digit c.args.n c.if-n-lt10.true))

pub returns-then-n-lt100-clause-text : goal.returns-then-n-lt100-clause-text
returns-then-n-lt100-clause-text c =
    let n = c.args.n in
    let before : List ℕ = take c.args.at c.args.buf.now in
    let tens : List ℕ = (48 + n / 10) ∷ [] in
    let ones : List ℕ = (48 + n % 10) ∷ [] in
    c.put_byte-then-n-lt100.ensures.text
    ∙ ap (λ (l : List ℕ). l ++ ones) c.put_byte-at.ensures.text
    ∙ append_assoc before tens ones
    ∙ ap (λ (l : List ℕ). before ++ l) (sym (two_digits n (omega (arith, c.if-n-lt10.false)) c.if-n-lt100.true c.ranges.n.fits))
