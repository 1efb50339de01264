use Rattle.std.proofs.Common.{◌≡◌, drop, get_or}
use Rattle.osek_standard.specs.Validity.{due_of}
use Rattle.osek_standard.proofs.DueAlarms.{due_from}
use Rattle.image_fields.proofs.placing.is_alarm_at.Given as goal

abbrev pub invariant-loop-number : goal.invariant-loop-number
invariant-loop-number l = get_or (due_from l.number (drop l.number l.alarms) l.counter) l.left 256 ≡ get_or (due_of l.alarms l.counter) l.place 256
