use Rattle.std.proofs.Common.{◌≡◌, ◌*◌, ℕ, false, get_or, refl, subst}
use Rattle.bit_words.specs.Cursors.{IsAtWord}
use Rattle.bit_words.proofs.WordLaws.{small_at}
use Rattle.osek_values.specs.Bits.{has_bit}
use Rattle.numbered_sets.proofs.FlatLaws.{read_is}
use Rattle.numbered_sets.proofs.flat_sets.NumberedSets.next_word.Goals as goal

pub returns-clause-some : goal.returns-clause-some
returns-clause-some c = λ some.
    subst (λ (m : ℕ). IsAtWord m (64 * c.args.from) c.next_word.result)
    (read_is c.self.inside.domains.value.items c.self.inside.low.items c.self.inside.high.items c.self.inside.more c.args.self.now c.self.view_is c.self.invariant.0 c.self.invariant.1 c.self.invariant.2 c.args.component
    (get_or c.as_slice.result.now c.args.component 0) c.word_at.result c.as_slice.result.now c.as_slice-2.result.now c.of.result.now c.as_slice.ensures.value c.as_slice-2.ensures.value refl c.word_at.ensures.word c.of.ensures)
    (c.next_word.ensures.some some (get_or c.as_slice.result.now c.args.component 0) (small_at c.as_slice.result.now c.args.component c.are_words.ensures))

pub returns-clause-none : goal.returns-clause-none
returns-clause-none c = λ none k above below.
    subst (λ (m : ℕ). has_bit m k ≡ false)
    (read_is c.self.inside.domains.value.items c.self.inside.low.items c.self.inside.high.items c.self.inside.more c.args.self.now c.self.view_is c.self.invariant.0 c.self.invariant.1 c.self.invariant.2 c.args.component
    (get_or c.as_slice.result.now c.args.component 0) c.word_at.result c.as_slice.result.now c.as_slice-2.result.now c.of.result.now c.as_slice.ensures.value c.as_slice-2.ensures.value refl c.word_at.ensures.word c.of.ensures)
    (c.next_word.ensures.none none (get_or c.as_slice.result.now c.args.component 0) k (small_at c.as_slice.result.now c.args.component c.are_words.ensures) above below)
