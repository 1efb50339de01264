use Rattle.std.proofs.{Common.{[]}, lemmas.Result.{err_from_is_err_and}}
use Rattle.image_fields.specs.{Reading.{entries_at}, TableReading.{resource_at}}
use Rattle.image_fields.proofs.Loop.{goes_on, ends, is_done}
use Rattle.image_fields.proofs.table_reading.read_resources.Goals as goal

pub returns-in_err-resource : goal.returns-in_err-resource
returns-in_err-resource c =
    let p = err_from_is_err_and c.from_residual.result c.from_residual.ensures.1 in
    rw (p.1, p.2) (ends (resource_at c.args.header.version c.args.tasks.now) c.loop.resources (entries_at (resource_at c.args.header.version c.args.tasks.now) [] c.args.header.resources c.args.reader.now) c.in_err-resource.field-0.0 c.args.header.resources c.loop.counter c.loop.reader c.loop-test.true (rw c.as_slice.ensures at c.in_err-resource.ensures) c.loop.invariant)

pub loop-preserved : goal.loop-preserved
loop-preserved c =
    rw c.in_ok-push.ensures.ok
    (goes_on (resource_at c.args.header.version c.args.tasks.now) c.loop.resources (entries_at (resource_at c.args.header.version c.args.tasks.now) [] c.args.header.resources c.args.reader.now) c.args.header.resources c.loop.counter c.loop.reader c.in_ok-resource.resource _ c.loop-test.true (rw c.as_slice.ensures at c.in_ok-resource.ensures) c.loop.invariant)

pub returns : goal.returns
returns c = is_done (resource_at c.args.header.version c.args.tasks.now) c.loop.resources (entries_at (resource_at c.args.header.version c.args.tasks.now) [] c.args.header.resources c.args.reader.now) c.args.header.resources c.loop.counter c.loop.reader c.loop-test.false c.loop.invariant
