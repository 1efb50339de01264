use Rattle.std.proofs.Common.{◌∷◌, List, ℕ, ap, ◌∙◌}
use Rattle.bit_words.specs.Words.{bits_of_words}
use Rattle.osek_values.specs.Bits.{has_bit}
use Rattle.numbered_sets.specs.Numbers.{Numbers, has_number}
use Rattle.numbered_sets.proofs.numbered_set.NumberedSet.has.Goals as goal

pub returns : goal.returns
returns c =
    c.has.ensures ∙ ap (λ (ws : List ℕ). has_bit (bits_of_words (c.self.inside.low ∷ c.self.inside.high ∷ ws)) c.args.number) c.as_slice.ensures.value
    ∙ ap (λ (x : Numbers). has_number x c.args.number) c.self.view_is
