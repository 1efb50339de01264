use Rattle.std.specs.Int.{to_be_bytes, w16}
use Rattle.std.proofs.lemmas.Result.{err_from_is_err_and}
use Rattle.table_codec.proofs.{SourceReading.{block_fault, size_fault, resource_fault, routine_read}, ValueReading.{further_next}}
use Rattle.table_codec.proofs.source_values.routine.Goals as goal

pub returns-in_err-block-clause-err : goal.returns-in_err-block-clause-err
returns-in_err-block-clause-err c =
    let p = err_from_is_err_and c.from_residual.result c.from_residual.ensures.1 in
    rw (p.1, p.2) (block_fault c.args.app.now c.args.shape.now c.requires.shape c.requires.may c.args.reader.now c.in_err-block.field-0.0 c.in_err-block.ensures.err)

pub returns-in_err-size-clause-err : goal.returns-in_err-size-clause-err
returns-in_err-size-clause-err c =
    let p = err_from_is_err_and c.from_residual-in_err-size.result c.from_residual-in_err-size.ensures.1 in
    let block = c.in_ok-block.ensures.ok in
    rw (p.1, p.2) (size_fault c.args.app.now c.args.shape.now c.requires.shape c.requires.may c.in_ok-block.block block.0 c.args.reader.now c.block_among.new.reader c.in_err-size.field-0.0 block.1 c.in_err-size.ensures.err)

pub returns-in_err-held-clause-err : goal.returns-in_err-held-clause-err
returns-in_err-held-clause-err c =
    let p = err_from_is_err_and c.from_residual-in_err-held.result c.from_residual-in_err-held.ensures.1 in
    let block = c.in_ok-block.ensures.ok in
    let size = c.in_ok-size.ensures.ok in
    let sized = further_next (to_be_bytes w16 c.in_ok-block.block.0) c.args.reader.now c.block_among.new.reader c.at_most.new.reader c.in_ok-size.size block.1 size.1 in
    rw (p.1, p.2) (resource_fault c.args.app.now c.args.shape.now c.requires.shape c.requires.may c.in_ok-block.block block.0 c.in_ok-size.size c.args.reader.now c.at_most.new.reader c.in_err-held.field-0.0 size.0 sized
    c.in_err-held.ensures.err)

pub returns-clause-ok : goal.returns-clause-ok
returns-clause-ok c =
    let block = c.in_ok-block.ensures.ok in
    let size = c.in_ok-size.ensures.ok in
    let sized = further_next (to_be_bytes w16 c.in_ok-block.block.0) c.args.reader.now c.block_among.new.reader c.at_most.new.reader c.in_ok-size.size block.1 size.1 in
    routine_read c.args.app.now c.args.shape.now c.requires.shape c.requires.may c.in_ok-block.block block.0 c.in_ok-size.size c.in_ok-held.held c.args.reader.now c.at_most.new.reader c.stack.new.reader size.0 sized
    c.in_ok-held.ensures.ok
