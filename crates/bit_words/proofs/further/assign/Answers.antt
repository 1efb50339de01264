use Rattle.std.proofs.Common.{ap, ◌∙◌}
use Rattle.bit_words.specs.Words.{bits_of_words}
use Rattle.bit_words.proofs.FurtherLaws.{changed_to, bits_after}
use Rattle.bit_words.proofs.further.assign.Goals as goal

pub returns-clause-others : goal.returns-clause-others
returns-clause-others c = changed_to c.args.more.now c.put.new.self c.args.component c.in_ok-words.words c.put.ensures

pub returns-clause-bits : goal.returns-clause-bits
returns-clause-bits c =
    bits_after c.args.more.now c.put.new.self c.args.component c.in_ok-words.words c.put.ensures c.requires
    ∙ ap bits_of_words (c.in_ok-words.ensures ∙ c.in_ok-copy.ensures)
