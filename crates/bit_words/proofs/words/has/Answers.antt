use Rattle.std.proofs.{Common.{◌<◌, ◌≤◌, ◌^◌, ◌/◌, length, sym, ◌∙◌, arith}, lemmas.{Bool.{le-ltb}, List.Elements.{All-from_get_or}}}
use Rattle.bit_words.specs.Words.{AreWords}
use Rattle.bit_words.proofs.WordLaws.{number_at, number_past, has_of_words}
use Rattle.bit_words.proofs.words.has.Goals as goal

pub returns-then-place-words : goal.returns-then-place-words
returns-then-place-words c =
    let words = c.args.words.now in
    let small : AreWords words = All-from_get_or (λ w. w < 2 ^ 64) words 0 (λ i _. let fits = c.type_inv.words i in omega (arith, fits)) in
    c.has_bit.ensures ∙ sym (number_at words c.args.number) ∙ sym (has_of_words words c.args.number small)

pub returns-else-place-words : goal.returns-else-place-words
returns-else-place-words c =
    let words = c.args.words.now in
    let small : AreWords words = All-from_get_or (λ w. w < 2 ^ 64) words 0 (λ i _. let fits = c.type_inv.words i in omega (arith, fits)) in
    let past : length words ≤ c.args.number / 64 = omega (arith, c.if-place-words.false) in
    le-ltb (c.args.number / 64) (length words) past ∙ sym (has_of_words words c.args.number small ∙ number_past words c.args.number past)
