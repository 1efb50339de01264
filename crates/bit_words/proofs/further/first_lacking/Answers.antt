use Rattle.std.proofs.Common.{[], sym, ◌∙◌, arith}
use Rattle.bit_words.proofs.FurtherLaws.{one_more_set, all_set}
use Rattle.bit_words.proofs.further.first_lacking.Goals as goal

pub loop-component-preserved : goal.loop-component-preserved
loop-component-preserved c =
    one_more_set c.args.more.now c.args.other.now c.args.from c.loop-component.component c.of.result.now c.as_slice.result.now
    c.of.ensures (c.as_slice.ensures ∙ sym (c.at.ensures.item [])) c.if-not-have_all.ensures.bits c.loop-component.invariant

pub returns-clause-all : goal.returns-clause-all
returns-clause-all c = λ le k from.
    all_set c.args.more.now c.args.other.now c.args.from c.loop-component.component (omega (arith, c.loop-component-test.false, c.len-component-end.ensures)) c.loop-component.invariant k from
