use Rattle.std.proofs.lemmas.Result.{err_from_is_err_and}
use Rattle.table_codec.proofs.ValueReading.{waiting_fault}
use Rattle.table_codec.proofs.values.waiting.Goals as goal

pub returns-in_err-block-clause-err : goal.returns-in_err-block-clause-err
returns-in_err-block-clause-err c =
    let p = err_from_is_err_and c.from_residual.result c.from_residual.ensures.1 in
    rw (p.1, p.2) (waiting_fault c.args.app.now c.args.shape.now c.requires.shape c.args.reader.now c.in_err-block.field-0.0 c.requires.waits c.in_err-block.ensures.err)
