use Rattle.std.proofs.Common.{◌∙◌}
use Rattle.osek_values.specs.Numbers.{alarm_no}
use Rattle.abstract_state.specs.declared.value.Component.TheVariants as component
use Rattle.abstract_state.proofs.RangeLaws.{mapped_more}
use Rattle.abstract_state.proofs.numbering.push_alarms.Goals as goal

pub loop-alarm-preserved : goal.loop-alarm-preserved
loop-alarm-preserved c = c.in_ok-push.ensures.ok ∙ mapped_more c.args.all.now c.loop-alarm.all (λ a. component.Alarm (alarm_no a)) c.loop-alarm.alarm c.loop-alarm.invariant
