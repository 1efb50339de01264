use Rattle.std.proofs.Common.{◌∷◌, ap, ◌∙◌, refl}
use Rattle.bit_words.specs.Words.{bits_of_words}
use Rattle.bit_words.proofs.FirstWords.{none_first, bits_of_none}
use Rattle.numbered_sets.specs.Numbers.{numbers}
use Rattle.numbered_sets.proofs.numbered_set.NumberedSet.new.Goals as goal

pub returns : goal.returns
returns c =
    let items = c.new.result.items in
    ap (numbers c.args.domain) (none_first 0 (0 ∷ items) refl (none_first 0 items refl (ap bits_of_words c.new.ensures.items ∙ bits_of_none _ refl)))
