use Rattle.std.proofs.Common.{refl}
use Rattle.kernel_guarantees.proofs.{AlarmRuns.{comes_due, expires}, Arming.{absolute_arms, cyclic_rearms, relative_arms, single_ends}, Reaching.{reached_is_well}}
use Rattle.kernel_guarantees.proofs.alarms.alarms_expire_on_time.Goals as goal

pub returns : goal.returns
returns c = record {
  relative = λ app s choice a i c reached known active. relative_arms app s (reached_is_well app s reached) active choice a known i c;
  absolute = λ app s choice a v c reached known active. absolute_arms app s (reached_is_well app s reached) active choice a known v c;
  counting = λ app s events a at c reached known stays. (expires app a known at c s events (reached_is_well app s reached) stays).1;
  due = λ app s events a at c reached known stays. comes_due app a known at c s events (reached_is_well app s reached) stays;
  cyclic = λ app s choice a at c reached known active is armed on. cyclic_rearms app s (reached_is_well app s reached) active choice a known at c armed on is;
  single = λ app s choice a at reached known active is armed on. single_ends app s (reached_is_well app s reached) active choice a known at 0 armed on is refl;
}
