-- what was made, and what is to be made of the rest, is the whole
use Rattle.std.proofs.Common.{◌≡◌, ◌++◌, drop, map}
use Rattle.osek_standard.specs.Kernel.{started_alarm}
use Rattle.generic_kernel.proofs.startup.started_alarms.Given as goal

abbrev pub invariant-loop-alarm : goal.invariant-loop-alarm
invariant-loop-alarm l = l.alarms.items ++ map (started_alarm l.mode.0) (drop l.alarm-index l.alarm-items) ≡ map (started_alarm l.mode.0) l.app.alarms
