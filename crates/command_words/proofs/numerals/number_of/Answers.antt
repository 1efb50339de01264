use Rattle.std.proofs.Common.{◌≡◌, true, rules}
use Rattle.std.specs.Str.{all_ascii_digits}
use Rattle.command_words.proofs.Digits.{number-none}
use Rattle.command_words.proofs.numerals.number_of.Goals as goal

pub returns-in-Err : goal.returns-in-Err
returns-in-Err c =
    let digits : all_ascii_digits c.args.word.now ≡ true = search rules in
    number-none c.args.word.now c.in-Err.field-0 digits c.in-Err.ensures.value.0
