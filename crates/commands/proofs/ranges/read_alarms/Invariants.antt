use Rattle.std.proofs.Common.{ℕ, ◌<◌, get_or}
use Rattle.oil_system.specs.declared.objects.Alarm.{Alarm}
use Rattle.image_codec.specs.Fits.{FitsAction}
use Rattle.commands.proofs.ranges.read_alarms.Given as goal

abbrev pub invariant-loop-alarm : goal.invariant-loop-alarm
invariant-loop-alarm l = (k : ℕ) (d : Alarm) → k < l.alarm-index → FitsAction (get_or l.alarms k d).action
