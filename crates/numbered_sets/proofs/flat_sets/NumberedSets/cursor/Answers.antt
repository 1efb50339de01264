use Rattle.std.proofs.Common.{ℕ, subst}
use Rattle.bit_words.specs.Cursors.{IsBefore}
use Rattle.numbered_sets.proofs.FlatLaws.{read_is}
use Rattle.numbered_sets.proofs.flat_sets.NumberedSets.cursor.Goals as goal

pub returns : goal.returns
returns c =
    subst (λ (m : ℕ). IsBefore m c.args.from c.cursor.result)
    (read_is c.self.inside.domains.value.items c.self.inside.low.items c.self.inside.high.items c.self.inside.more c.args.self.now c.self.view_is c.self.invariant.0 c.self.invariant.1 c.self.invariant.2 c.args.component
    c.word_at.result c.word_at-2.result c.as_slice.result.now c.as_slice-2.result.now c.of.result.now c.as_slice.ensures.value c.as_slice-2.ensures.value c.word_at.ensures.word c.word_at-2.ensures.word c.of.ensures)
    c.cursor.ensures
