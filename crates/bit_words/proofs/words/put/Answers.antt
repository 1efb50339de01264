use Rattle.std.proofs.Common.{◌<◌, ◌*◌, ◌/◌, ◌%◌, ◌^◌, get_or, set, arith}
use Rattle.std.specs.Prelude.{bit_or}
use Rattle.std.proofs.lemmas.{Nat.{or_lt}, List.Elements.{All-get_or}}
use Rattle.bit_words.proofs.WordLaws.{number_put, bits_put, words_with}
use Rattle.bit_words.proofs.words.put.Goals as goal

pub returns : goal.returns
returns c =
    let words = c.args.words.now in
    let x = c.args.number in
    let old = get_or words (x / 64) 0 in
    let one = 1 * 2 ^ (x % 64) % 2 ^ 64 in
    let small : old < 2 ^ 64 = All-get_or (λ w. w < 2 ^ 64) words (x / 64) 0 c.requires c.are_words.ensures in
    bits_put words (set words (x / 64) (bit_or old one)) x c.are_words.ensures
    (words_with words (x / 64) (bit_or old one) c.are_words.ensures (or_lt 64 old one small (omega arith)))
    (λ n. number_put words x n c.requires)
