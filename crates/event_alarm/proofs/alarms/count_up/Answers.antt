-- from its greatest value the counter goes on to 0, and from any other by one
use Rattle.std.proofs.Common.{◌≡◌, rules}
use Rattle.osek_standard.specs.Services.{count_up}
use Rattle.event_alarm.proofs.alarms.count_up.Goals.{then-value-counter, else-value-counter}
use Rattle.event_alarm.proofs.alarms.count_up.Goals as goal

pub returns-clause-row : goal.returns-clause-row
unfolding count_up
returns-clause-row c = elim c.if-value-counter.branch [
  | then-value-counter w ↦ let greatest : c.counter-value.result ≡ c.counter.result.now.max = w.if-value-counter.true in search rules
  | else-value-counter w ↦ search rules
]
