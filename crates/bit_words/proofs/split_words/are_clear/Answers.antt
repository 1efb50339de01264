use Rattle.std.proofs.{Common.{◌∷◌, sym, ◌∙◌, arith}, lemmas.Bool.{ne_eqb}}
use Rattle.bit_words.specs.Words.{bits_of_words}
use Rattle.bit_words.proofs.FirstWords.{some_first, some_after, clear_two}
use Rattle.bit_words.proofs.split_words.are_clear.Goals as goal

pub returns-then-low-ne0 : goal.returns-then-low-ne0
returns-then-low-ne0 c =
    let rest = c.args.high ∷ c.args.more.now in
    sym (ne_eqb (bits_of_words (c.args.low ∷ rest)) 0 (some_first c.args.low rest (λ e. omega (arith, e, c.if-low-ne0.true))))

pub returns-then-high-ne0 : goal.returns-then-high-ne0
returns-then-high-ne0 c =
    let more = c.args.more.now in
    let rest = c.args.high ∷ more in
    sym (ne_eqb (bits_of_words (c.args.low ∷ rest)) 0 (some_after c.args.low rest (some_first c.args.high more (λ e. omega (arith, e, c.if-high-ne0.true)))))

pub returns : goal.returns
returns c = c.are_clear.ensures ∙ clear_two c.args.low c.args.high c.args.more.now (omega (arith, c.if-low-ne0.false)) (omega (arith, c.if-high-ne0.false))
