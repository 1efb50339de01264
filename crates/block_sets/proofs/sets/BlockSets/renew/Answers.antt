use Rattle.std.proofs.Common.{sym, arith}
use Rattle.numbered_sets.specs.Pools.{values_at}
use Rattle.numbered_sets.proofs.MadeLaws.{value_there}
use Rattle.block_sets.proofs.sets.BlockSets.renew.Goals as goal

pub loop-number-preserved : goal.loop-number-preserved
loop-number-preserved c = λ h.
    let vs = values_at c.args.pool.now c.args.component in
    let its = value_there vs c.loop-number.number (omega (arith, c.loop-number-test.true, c.len-count.ensures)) in
    c.put.ensures vs its.0 (c.loop-number.invariant h) its.1 (sym (c.block-block.ensures its.0 its.1))

pub returns-in_err-put : goal.returns-in_err-put
returns-in_err-put c = λ h.
    let vs = values_at c.args.pool.now c.args.component in
    let its = value_there vs c.loop-number.number (omega (arith, c.loop-number-test.true, c.len-count.ensures)) in
    c.put.ensures vs its.0 (c.loop-number.invariant h) its.1 (sym (c.block-block.ensures its.0 its.1))
