use Rattle.std.proofs.lemmas.Result.{err_from_is_err_and}
use Rattle.table_codec.proofs.SourceReading.{tag_fault}
use Rattle.table_codec.proofs.source_values.source_value.Goals as goal

pub returns-in_err-tag-clause-err : goal.returns-in_err-tag-clause-err
returns-in_err-tag-clause-err c =
    let p = err_from_is_err_and c.from_residual.result c.from_residual.ensures.1 in
    rw (p.1, p.2) (tag_fault c.args.app.now c.args.shape.now c.requires c.args.reader.now c.in_err-tag.field-0.0 c.in_err-tag.ensures.err)
