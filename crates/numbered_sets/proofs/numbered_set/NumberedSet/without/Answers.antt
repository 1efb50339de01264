use Rattle.std.proofs.Common.{◌≡◌, ◌∷◌, List, ℕ, ap, ap₂, ◌∙◌}
use Rattle.std.specs.Prelude.{bit_and, bit_xor}
use Rattle.bit_words.specs.Words.{bits_of_words}
use Rattle.bit_words.proofs.OtherWords.{alone_two}
use Rattle.numbered_sets.specs.Numbers.{Numbers, numbers}
use Rattle.numbered_sets.proofs.numbered_set.NumberedSet.without.Goals as goal

pub returns : goal.returns
returns c =
    let a = c.self.inside.low in
    let b = c.self.inside.high in
    let ws = c.self.inside.more.items in
    let x = c.other.inside.low in
    let y = c.other.inside.high in
    let us = c.other.inside.more.items in
    let vs = c.leave_out_trimmed.new.words.items in
    let rest : bits_of_words vs ≡ bit_xor (bits_of_words ws) (bit_and (bits_of_words ws) (bits_of_words us)) =
    c.leave_out_trimmed.ensures ∙ ap₂ (λ (m n : List ℕ). bit_xor (bits_of_words m) (bit_and (bits_of_words m) (bits_of_words n))) (c.in_ok-more.ensures ∙ c.as_slice.ensures.value) c.as_slice-2.ensures.value in
    ap₂ (λ (m n : ℕ). numbers c.self.inside.domain (bits_of_words (m ∷ n ∷ vs))) c.without.ensures c.without-2.ensures
    ∙ ap (numbers c.self.inside.domain) (alone_two a b x y ws us vs c.are_two_words.ensures.low c.are_two_words.ensures.high c.are_two_words-2.ensures.low c.are_two_words-2.ensures.high rest)
    ∙ ap₂ (λ (m n : Numbers). numbers m.domain (bit_xor m.bits (bit_and m.bits n.bits))) c.self.view_is c.other.view_is
