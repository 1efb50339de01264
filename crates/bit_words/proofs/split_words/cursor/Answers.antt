use Rattle.std.proofs.Common.{◌∷◌, ◌<◌, ◌^◌}
use Rattle.std.proofs.lemmas.List.Elements.{All-cons}
use Rattle.bit_words.proofs.CursorLaws.{cut_word}
use Rattle.bit_words.proofs.split_words.cursor.Goals as goal

pub returns : goal.returns
returns c =
    let fits = All-cons (λ w. w < 2 ^ 64) c.args.low (c.args.high ∷ c.args.more.now) c.are_two_words.ensures.low (All-cons (λ w. w < 2 ^ 64) c.args.high c.args.more.now c.are_two_words.ensures.high c.are_words.ensures) in
    cut_word (c.args.low ∷ c.args.high ∷ c.args.more.now) fits c.args.from c.word_at-word.result c.word_at-word.ensures
