use Rattle.std.proofs.Common.{◌≡◌, ◌∷◌, false, List, ℕ, IsTrue, ap, subst, ◌∙◌}
use Rattle.bit_words.specs.Words.{bits_of_words}
use Rattle.osek_values.specs.Bits.{has_bit}
use Rattle.numbered_sets.specs.Numbers.{Numbers}
use Rattle.numbered_sets.proofs.numbered_set.NumberedSet.next.Goals as goal

pub returns-clause-has : goal.returns-clause-has
returns-clause-has c = λ lt.
    let bits : bits_of_words (c.self.inside.low ∷ c.self.inside.high ∷ c.as_slice.result.now) ≡ c.args.self.now.bits =
    ap (λ (ws : List ℕ). bits_of_words (c.self.inside.low ∷ c.self.inside.high ∷ ws)) c.as_slice.ensures.value ∙ ap (λ (x : Numbers). x.bits) c.self.view_is in
    subst (λ (m : ℕ). IsTrue (has_bit m c.next.result)) bits (c.next.ensures.has lt)

pub returns-clause-none : goal.returns-clause-none
returns-clause-none c = λ k above below.
    let bits : bits_of_words (c.self.inside.low ∷ c.self.inside.high ∷ c.as_slice.result.now) ≡ c.args.self.now.bits =
    ap (λ (ws : List ℕ). bits_of_words (c.self.inside.low ∷ c.self.inside.high ∷ ws)) c.as_slice.ensures.value ∙ ap (λ (x : Numbers). x.bits) c.self.view_is in
    subst (λ (m : ℕ). has_bit m k ≡ false) bits (c.next.ensures.none k above below)
