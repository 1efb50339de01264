use Rattle.std.proofs.{Common.{[]}, lemmas.Result.{err_from_is_err_and}}
use Rattle.image_fields.specs.{Reading.{entries_at}, TableReading.{alarm_at}}
use Rattle.image_fields.proofs.Loop.{goes_on, ends, is_done}
use Rattle.image_fields.proofs.table_reading.read_alarms.Goals as goal

pub returns-in_err-alarm : goal.returns-in_err-alarm
returns-in_err-alarm c =
    let p = err_from_is_err_and c.from_residual.result c.from_residual.ensures.1 in
    rw (p.1, p.2) (ends (alarm_at c.args.header c.args.counters.now) c.loop.alarms (entries_at (alarm_at c.args.header c.args.counters.now) [] c.args.header.alarms c.args.reader.now) c.in_err-alarm.field-0.0 c.args.header.alarms c.loop.counter c.loop.reader c.loop-test.true (rw c.as_slice.ensures at c.in_err-alarm.ensures) c.loop.invariant)

pub loop-preserved : goal.loop-preserved
loop-preserved c =
    rw c.in_ok-push.ensures.ok
    (goes_on (alarm_at c.args.header c.args.counters.now) c.loop.alarms (entries_at (alarm_at c.args.header c.args.counters.now) [] c.args.header.alarms c.args.reader.now) c.args.header.alarms c.loop.counter c.loop.reader c.in_ok-alarm.alarm _ c.loop-test.true (rw c.as_slice.ensures at c.in_ok-alarm.ensures) c.loop.invariant)

pub returns : goal.returns
returns c = is_done (alarm_at c.args.header c.args.counters.now) c.loop.alarms (entries_at (alarm_at c.args.header c.args.counters.now) [] c.args.header.alarms c.args.reader.now) c.args.header.alarms c.loop.counter c.loop.reader c.loop-test.false c.loop.invariant
