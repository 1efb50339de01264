use Rattle.kernel_guarantees.proofs.{Reaching.{reached_is_well}, TickWindows.{none_before_expiry}}
use Rattle.kernel_guarantees.proofs.alarms.a_due_alarm_expires_before_the_next_count.Goals as goal

pub returns : goal.returns
returns c = λ app s e events a at cycle reached known counted on stays. none_before_expiry app a known at cycle s e (reached_is_well app s reached) counted events on stays
