use Rattle.std.proofs.Common.{◌∷◌, [], ap, ◌∙◌, refl}
use Rattle.bit_words.specs.Words.{bits_of_words}
use Rattle.bit_words.proofs.{FirstWords.{none_first, bits_of_none}, WordLaws.{bits_widened}}
use Rattle.numbered_sets.specs.Numbers.{Numbers, numbers}
use Rattle.numbered_sets.proofs.numbered_set.NumberedSet.beside.Goals as goal

pub returns : goal.returns
returns c =
    let items = c.in_ok-more.more.items in
    ap (numbers c.other.inside.domain) (none_first 0 (0 ∷ items) refl (none_first 0 items refl (ap bits_of_words c.in_ok-more.ensures ∙ bits_widened [] _ ∙ bits_of_none [] refl)))
    ∙ ap (λ (x : Numbers). numbers x.domain 0) c.other.view_is
