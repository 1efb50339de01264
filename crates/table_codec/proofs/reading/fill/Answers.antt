use Rattle.std.proofs.Common.{◌∙◌, ◌<◌, length, arith}
use Rattle.table_codec.proofs.KeptNumbers.{filled_begun, filled_next, filled_whole}
use Rattle.table_codec.proofs.reading.fill.Goals as goal

pub loop-component-init : goal.loop-component-init
loop-component-init c = filled_begun c.args.before.now c.args.read.now c.args.entry.now

pub fill_at-requires-clause-entry : goal.fill_at-requires-clause-entry
fill_at-requires-clause-entry c = c.loop-component.invariant.domains ∙ c.requires.entry

pub loop-component-preserved : goal.loop-component-preserved
loop-component-preserved c =
    let lt : c.loop-component.component < length c.args.read.now.sets = omega (arith, c.loop-component-test.true, c.len-component-end.ensures) in
    filled_next c.args.before.now c.args.read.now c.args.entry.now c.requires.before c.requires.entry c.loop-component.component c.loop-component.entry c.fill_at.new.entry lt c.loop-component.invariant c.in_ok-fill_at.ensures

pub returns : goal.returns
returns c = filled_whole c.args.before.now c.args.read.now c.args.entry.now c.loop-component.component c.loop-component.entry (omega (arith, c.loop-component-test.false, c.len-component-end.ensures)) c.loop-component.invariant
