use Rattle.std.proofs.Common.{ℕ, ◌≤◌, subst, arith}
use Rattle.std.specs.Int.{to_be_bytes, w16}
use Rattle.std.proofs.lemmas.Result.{err_from_is_err_and}
use Rattle.abstract_state.specs.ValueOrder.{flag_field}
use Rattle.table_codec.specs.Faults.{IsFieldFault}
use Rattle.table_codec.proofs.ValueReading.{further_next, both_next, size_next, block_fault, further_fault, inside_fault, size_fault, resource_fault, live_read}
use Rattle.table_codec.proofs.values.live.Goals as goal

pub returns-in_err-block-clause-err : goal.returns-in_err-block-clause-err
returns-in_err-block-clause-err c =
    let p = err_from_is_err_and c.from_residual.result c.from_residual.ensures.1 in
    rw (p.1, p.2) (block_fault c.args.app.now c.args.shape.now c.requires c.args.reader.now c.in_err-block.field-0.0 c.in_err-block.ensures.err)

pub returns-in_err-further-clause-err : goal.returns-in_err-further-clause-err
returns-in_err-further-clause-err c =
    let p = err_from_is_err_and c.from_residual-in_err-further.result c.from_residual-in_err-further.ensures.1 in
    let block = c.in_ok-block.ensures.ok in
    rw (p.1, p.2) (further_fault c.args.app.now c.args.shape.now c.requires c.in_ok-block.block block.0 c.args.reader.now c.block_among.new.reader c.in_err-further.field-0.0 block.1 c.in_err-further.ensures.err)

pub returns-in_err-inside-clause-err : goal.returns-in_err-inside-clause-err
returns-in_err-inside-clause-err c =
    let p = err_from_is_err_and c.from_residual-in_err-inside.result c.from_residual-in_err-inside.ensures.1 in
    let block = c.in_ok-block.ensures.ok in
    let further = c.in_ok-further.ensures.ok in
    let word = to_be_bytes w16 c.in_ok-block.block.0 in
    let prefix = further_next word c.args.reader.now c.block_among.new.reader c.below.new.reader c.in_ok-further.further block.1 further.1 in
    rw (p.1, p.2) (inside_fault c.args.app.now c.args.shape.now c.requires c.in_ok-block.block block.0 c.in_ok-further.further further.0 c.args.reader.now c.below.new.reader c.in_err-inside.field-0.0 prefix c.in_err-inside.ensures.err)

pub returns-in_err-size-clause-err : goal.returns-in_err-size-clause-err
returns-in_err-size-clause-err c =
    let p = err_from_is_err_and c.from_residual-in_err-size.result c.from_residual-in_err-size.ensures.1 in
    let word = to_be_bytes w16 c.in_ok-block.block.0 in
    let both = both_next word c.args.reader.now c.block_among.new.reader c.below.new.reader c.flag.new.reader c.in_ok-further.further (flag_field c.in_ok-inside.inside) c.in_ok-block.ensures.ok.1 c.in_ok-further.ensures.ok.1
    c.in_ok-inside.ensures.ok.1 in
    let bad = subst (λ (m : ℕ). IsFieldFault 2 (λ n. n ≤ m) c.flag.new.reader c.in_err-size.field-0.0) c.takable_count.ensures c.in_err-size.ensures.err in
    rw (p.1, p.2) (size_fault c.args.app.now c.args.shape.now c.requires c.in_ok-block.block c.in_ok-block.ensures.ok.0 c.in_ok-further.further c.in_ok-further.ensures.ok.0 c.in_ok-inside.inside c.in_ok-inside.ensures.ok.0
    c.args.reader.now c.flag.new.reader c.in_err-size.field-0.0 both bad)

pub returns-in_err-held-clause-err : goal.returns-in_err-held-clause-err
returns-in_err-held-clause-err c =
    let p = err_from_is_err_and c.from_residual-in_err-held.result c.from_residual-in_err-held.ensures.1 in
    let word = to_be_bytes w16 c.in_ok-block.block.0 in
    let both = both_next word c.args.reader.now c.block_among.new.reader c.below.new.reader c.flag.new.reader c.in_ok-further.further (flag_field c.in_ok-inside.inside) c.in_ok-block.ensures.ok.1 c.in_ok-further.ensures.ok.1
    c.in_ok-inside.ensures.ok.1 in
    let sized = size_next word c.args.reader.now c.in_ok-further.further (flag_field c.in_ok-inside.inside) c.flag.new.reader c.at_most.new.reader c.in_ok-size.size both c.in_ok-size.ensures.ok.1 in
    rw (p.1, p.2) (resource_fault c.args.app.now c.args.shape.now c.requires c.in_ok-block.block c.in_ok-block.ensures.ok.0 c.in_ok-further.further c.in_ok-further.ensures.ok.0 c.in_ok-inside.inside c.in_ok-inside.ensures.ok.0
    c.in_ok-size.size c.args.reader.now c.at_most.new.reader c.in_err-held.field-0.0 (omega (arith, c.in_ok-size.ensures.ok.0, c.takable_count.ensures)) sized c.in_err-held.ensures.err)

pub returns-clause-ok : goal.returns-clause-ok
returns-clause-ok c =
    let word = to_be_bytes w16 c.in_ok-block.block.0 in
    let both = both_next word c.args.reader.now c.block_among.new.reader c.below.new.reader c.flag.new.reader c.in_ok-further.further (flag_field c.in_ok-inside.inside) c.in_ok-block.ensures.ok.1 c.in_ok-further.ensures.ok.1
    c.in_ok-inside.ensures.ok.1 in
    let sized = size_next word c.args.reader.now c.in_ok-further.further (flag_field c.in_ok-inside.inside) c.flag.new.reader c.at_most.new.reader c.in_ok-size.size both c.in_ok-size.ensures.ok.1 in
    live_read c.args.app.now c.args.shape.now c.requires c.in_ok-block.block c.in_ok-block.ensures.ok.0 c.in_ok-further.further c.in_ok-further.ensures.ok.0 c.in_ok-inside.inside c.in_ok-inside.ensures.ok.0
    c.in_ok-size.size c.in_ok-held.held c.args.reader.now c.at_most.new.reader c.stack.new.reader sized c.in_ok-held.ensures.ok
