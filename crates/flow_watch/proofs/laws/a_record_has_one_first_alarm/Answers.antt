use Rattle.flow_watch.proofs.FirstAlarms.{one_alarm}
use Rattle.flow_watch.proofs.laws.a_record_has_one_first_alarm.Goals as goal

pub returns : goal.returns
returns c = one_alarm
