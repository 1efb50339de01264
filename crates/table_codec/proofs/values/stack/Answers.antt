use Rattle.std.proofs.{Common.{◌≡◌, arith}, lemmas.Result.{err_from_is_err_and}}
use Rattle.abstract_state.proofs.HeightLaws.{takable_few}
use Rattle.table_codec.proofs.StackReads.{none_read, one_read, bad_resource, stack_read}
use Rattle.table_codec.proofs.values.stack.Goals as goal

pub loop-init : goal.loop-init
loop-init c = none_read c.args.app.now c.args.reader.now c.new-held.result c.new-held.ensures

pub resource-requires : goal.resource-requires
resource-requires c = c.loop.invariant.stack

pub push-requires : goal.push-requires
push-requires c = omega (arith, takable_few c.args.app.now, c.loop.invariant.size, c.loop-test.true, c.requires)

pub returns-in_err-next-clause-err : goal.returns-in_err-next-clause-err
returns-in_err-next-clause-err c =
    let p = err_from_is_err_and c.from_residual.result c.from_residual.ensures.1 in
    rw (p.1, p.2) (bad_resource c.args.app.now c.args.reader.now c.loop.counter c.loop.held c.loop.reader c.loop.invariant c.args.size c.in_err-next.field-0.0 c.loop-test.true c.in_err-next.ensures.err)

pub loop-preserved : goal.loop-preserved
loop-preserved c =
    one_read c.args.app.now c.args.reader.now c.loop.counter c.loop.held c.loop.reader c.loop.invariant c.in_ok-next.next c.push.new.self c.resource.new.reader c.in_ok-next.ensures.ok.0 c.in_ok-next.ensures.ok.1 c.push.ensures

pub returns : goal.returns
returns c =
    let all : c.args.size ≡ c.loop.counter = omega (arith, c.loop-test.false, c.loop.auto.counter-end) in
    record { ok = stack_read c.args.app.now c.args.reader.now c.loop.counter c.loop.held c.loop.reader c.loop.invariant c.args.size all; err = tt }
