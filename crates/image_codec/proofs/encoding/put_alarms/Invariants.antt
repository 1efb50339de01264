use Rattle.std.proofs.Common.{◌≡◌, ◌++◌, take}
use Rattle.std.specs.List.{flat_map}
use Rattle.image_codec.specs.Spelling.{alarm_bytes}
use Rattle.image_codec.proofs.encoding.put_alarms.Given as goal

abbrev pub invariant-loop-alarm : goal.invariant-loop-alarm
invariant-loop-alarm l = l.out.items ≡ l.fn.out.items ++ flat_map alarm_bytes (take l.alarm-index l.alarms)
