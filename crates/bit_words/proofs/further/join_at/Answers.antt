use Rattle.std.proofs.Common.{List, ℕ, sym, ap, ap₂, ◌∙◌}
use Rattle.std.specs.Prelude.{bit_or}
use Rattle.bit_words.specs.Words.{bits_of_words}
use Rattle.bit_words.proofs.further.join_at.Goals as goal

pub returns-then-have_all-clause-bits : goal.returns-then-have_all-clause-bits
returns-then-have_all-clause-bits c =
    ap bits_of_words (sym c.of.ensures) ∙ c.if-have_all.ensures.bits ∙ ap₂ (λ (ws us : List ℕ). bit_or (bits_of_words ws) (bits_of_words us)) c.of.ensures c.as_slice.ensures
