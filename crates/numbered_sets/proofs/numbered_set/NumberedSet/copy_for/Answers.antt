use Rattle.std.proofs.Common.{◌∷◌, List, ℕ, ap, ◌∙◌}
use Rattle.bit_words.specs.Words.{bits_of_words}
use Rattle.numbered_sets.specs.Numbers.{Numbers, numbers}
use Rattle.numbered_sets.proofs.numbered_set.NumberedSet.copy_for.Goals as goal

pub returns : goal.returns
returns c =
    ap (λ (ws : List ℕ). numbers c.args.domain (bits_of_words (c.self.inside.low ∷ c.self.inside.high ∷ ws))) (c.in_ok-more.ensures ∙ c.as_slice.ensures.value)
    ∙ ap (λ (x : Numbers). numbers c.args.domain x.bits) c.self.view_is
