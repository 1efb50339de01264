use Rattle.std.proofs.Common.{ap, ◌∙◌}
use Rattle.bit_words.proofs.FirstWords.{same_further}
use Rattle.numbered_sets.specs.Numbers.{numbers}
use Rattle.numbered_sets.proofs.numbered_set.NumberedSet.trim.Goals as goal

pub returns : goal.returns
returns c =
    ap (numbers c.self.inside.domain) (same_further c.self.inside.low c.self.inside.high c.self.inside.more.items c.trim.new.words.items c.trim.ensures) ∙ c.self.view_is
