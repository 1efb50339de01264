use Rattle.std.proofs.Common.{[], arith}
use Rattle.image_fields.specs.TableReading.{task_at, alarm_at, resource_at}
use Rattle.image_fields.proofs.Loop.{entries_count}
use Rattle.image_fields.proofs.table_reading.tables.Goals as goal

pub returns-clause-small : goal.returns-clause-small
returns-clause-small c =
    let tasks = entries_count (task_at c.args.header) c.args.header.tasks [] c.args.reader.now c.in_ok-tasks.tasks _ c.in_ok-tasks.ensures in
    let alarms = entries_count (alarm_at c.args.header c.as_slice-4.result.now) c.args.header.alarms [] _ c.in_ok-alarms.alarms _ c.in_ok-alarms.ensures in
    let resources = entries_count (resource_at c.args.header.version c.as_slice-5.result.now) c.args.header.resources [] _ c.in_ok-resources.resources _ c.in_ok-resources.ensures in
    record { tasks = omega (arith, tasks, c.requires.tasks); alarms = omega (arith, alarms, c.requires.alarms); resources = omega (arith, resources, c.requires.resources) }
