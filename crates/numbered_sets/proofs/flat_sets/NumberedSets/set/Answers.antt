use Rattle.std.proofs.Common.{ap₂, ◌∙◌}
use Rattle.numbered_sets.specs.Numbers.{numbers}
use Rattle.numbered_sets.proofs.FlatLaws.{read_is}
use Rattle.numbered_sets.proofs.flat_sets.NumberedSets.set.Goals as goal

pub returns : goal.returns
returns c =
    ap₂ numbers c.domain.ensures
    (read_is c.self.inside.domains.value.items c.self.inside.low.items c.self.inside.high.items c.self.inside.more c.args.self.now c.self.view_is c.self.invariant.0 c.self.invariant.1 c.self.invariant.2 c.args.component
    c.word_at.result c.word_at-2.result c.as_slice.result.now c.as_slice-2.result.now c.in_ok-more.more.items c.as_slice.ensures.value c.as_slice-2.ensures.value c.word_at.ensures.word c.word_at-2.ensures.word (c.in_ok-more.ensures ∙ c.of.ensures))
