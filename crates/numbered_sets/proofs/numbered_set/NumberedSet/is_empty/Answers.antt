use Rattle.std.proofs.Common.{◌∷◌, List, ℕ, ap, ◌∙◌}
use Rattle.std.specs.Prelude.{◌==◌}
use Rattle.bit_words.specs.Words.{bits_of_words}
use Rattle.numbered_sets.specs.Numbers.{Numbers}
use Rattle.numbered_sets.proofs.numbered_set.NumberedSet.is_empty.Goals as goal

pub returns : goal.returns
returns c =
    c.are_clear.ensures ∙ ap (λ (ws : List ℕ). bits_of_words (c.self.inside.low ∷ c.self.inside.high ∷ ws) == 0) c.as_slice.ensures.value
    ∙ ap (λ (x : Numbers). x.bits == 0) c.self.view_is
