use Rattle.std.proofs.Common.{◌≡◌, ◌++◌, map}
use Rattle.std.specs.List.{range_with_len}
use Rattle.osek_values.specs.Numbers.{alarm_no}
use Rattle.abstract_state.specs.declared.value.Component.TheVariants as component
use Rattle.abstract_state.proofs.numbering.push_alarms.Given as goal

abbrev pub invariant-loop-alarm : goal.invariant-loop-alarm
invariant-loop-alarm l = l.all ≡ l.initial.all ++ map (λ a. component.Alarm (alarm_no a)) (range_with_len 0 l.alarm)
