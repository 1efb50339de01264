use Rattle.flow_watch.proofs.FirstAlarms.{finds}
use Rattle.flow_watch.proofs.laws.a_watch_finds_the_first_alarm.Goals as goal

pub returns : goal.returns
returns c = finds
