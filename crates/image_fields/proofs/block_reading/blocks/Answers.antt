use Rattle.std.proofs.lemmas.Result.{err_from_is_err_and}
use Rattle.image_fields.specs.BlockReading.{blocks_at}
use Rattle.image_fields.proofs.BlockLoop.{block_ends, block_goes_on, block_done, one_more}
use Rattle.image_fields.proofs.block_reading.blocks.Goals as goal

pub returns-in_err-block-clause-gives : goal.returns-in_err-block-clause-gives
returns-in_err-block-clause-gives c =
    let p = err_from_is_err_and c.from_residual.result c.from_residual.ensures.1 in
    rw (p.1, p.2) (block_ends c.args.version c.args.tables.now c.loop-number.blocks c.loop-number.sites (blocks_at c.args.version c.args.tables.now c.args.count c.args.reader.now) c.args.count c.loop-number.number c.loop-number.reader
    c.in_err-block.field-0.0 c.loop-number.invariant.first c.loop-number-test.true c.in_err-block.ensures c.loop-number.invariant.reads)

pub loop-number-preserved : goal.loop-number-preserved
loop-number-preserved c = record {
  first = one_more c.loop-number.blocks c.loop-number.sites c.loop-number.number _ _ c.in_ok-block.block c.in_ok-block.site c.loop-number.invariant.first c.in_ok-push.ensures.ok c.in_ok-push-2.ensures.ok;
  reads = rw (c.in_ok-push.ensures.ok, c.in_ok-push-2.ensures.ok)
      (block_goes_on c.args.version c.args.tables.now c.loop-number.blocks c.loop-number.sites (blocks_at c.args.version c.args.tables.now c.args.count c.args.reader.now) c.args.count c.loop-number.number c.loop-number.reader
      c.in_ok-block.block c.in_ok-block.site c.block.new.reader c.loop-number.invariant.first c.loop-number-test.true c.in_ok-block.ensures c.loop-number.invariant.reads);
}

pub returns-clause-gives : goal.returns-clause-gives
returns-clause-gives c = block_done c.args.version c.args.tables.now c.loop-number.blocks c.loop-number.sites (blocks_at c.args.version c.args.tables.now c.args.count c.args.reader.now) c.args.count c.loop-number.number c.loop-number.reader c.loop-number-test.false c.loop-number.invariant.reads
