use Rattle.std.proofs.Common.{◌≡◌, drop}
use Rattle.std.specs.List.{list_all, enumerate_from}
use Rattle.image_fields.specs.BlockReading.{is_due_in}
use Rattle.image_fields.proofs.placing.is_due.Given as goal

abbrev pub invariant-loop-number : goal.invariant-loop-number
invariant-loop-number l =
    list_all (is_due_in l.tables.alarms l.block l.alarm) (enumerate_from l.number (drop l.number l.tables.counters))
    ≡ list_all (is_due_in l.tables.alarms l.block l.alarm) (enumerate_from 0 l.tables.counters)
