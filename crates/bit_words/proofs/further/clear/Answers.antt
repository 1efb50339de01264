use Rattle.std.proofs.Common.{[], refl, ap, ◌∙◌, arith}
use Rattle.bit_words.specs.Words.{bits_of_words}
use Rattle.bit_words.proofs.{FirstWords.{bits_of_none}, FurtherLaws.{no_further, changed_to, bits_after}}
use Rattle.bit_words.proofs.further.clear.Goals as goal

pub returns-then-component-len-clause-bits : goal.returns-then-component-len-clause-bits
returns-then-component-len-clause-bits c = no_further c.args.more.now c.args.component (omega (arith, c.if-component-len.true, c.len.ensures))

pub returns-clause-others : goal.returns-clause-others
returns-clause-others c = changed_to c.args.more.now c.put.new.self c.args.component c.none.result c.put.ensures

pub returns-clause-bits : goal.returns-clause-bits
returns-clause-bits c =
    bits_after c.args.more.now c.put.new.self c.args.component c.none.result c.put.ensures (omega (arith, c.if-component-len.false, c.len.ensures))
    ∙ ap bits_of_words c.none.ensures ∙ bits_of_none [] refl
