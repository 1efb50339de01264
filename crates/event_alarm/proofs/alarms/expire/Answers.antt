-- the alarm is due at its counter's value and at no other, and a rearmed alarm keeps the state well-formed
use Rattle.std.proofs.Common.{◌≡◌, ◌≢◌, ◌<◌, ℕ, ◌+◌, ◌%◌, length, sym, subst, arith, rules}
use Rattle.osek_standard.specs.declared.{app.App.{App}, state.{State.{State}, AlarmState.{AlarmState, TheVariants.{Idle, Armed}}}}
use Rattle.std.specs.Prelude.{◌==◌}
use Rattle.osek_standard.specs.{Apps.{max_of}, Services.{expire, rearmed}, States.{alarm_state, with_alarm}, Well.{Well, IsAlarmState}}
use Rattle.osek_standard.proofs.{AlarmKeeps.{with_alarm_keeps}, BoolLaws.{either_way}}
use Rattle.event_alarm.proofs.alarms.expire.Goals as goal

rearmed_keeps : (app : App) (s t : State) (a at cycle : ℕ) (x : AlarmState) → t ≡ with_alarm s a x → x ≡ rearmed app a (Armed at cycle) → alarm_state s a ≡ Armed at cycle →
    Well app s → a < length app.alarms → Well app t
rearmed_keeps app s t a at cycle x stored after before w known =
    let armed : IsAlarmState app a (Armed at cycle) = subst (IsAlarmState app a) before (w.alarms a known) in
    let again : IsAlarmState app a (Armed ((at + cycle) % (max_of app a + 1)) cycle) = record { at_most = omega arith; round = armed.round } in
    let right : IsAlarmState app a (rearmed app a (Armed at cycle)) = either_way (IsAlarmState app a) (cycle == 0) Idle (Armed ((at + cycle) % (max_of app a + 1)) cycle) tt again in
    subst (Well app) (sym stored) (with_alarm_keeps app s a x w known (subst (IsAlarmState app a) (sym after) right))

pub activate-requires-clause-well : goal.activate-requires-clause-well
activate-requires-clause-well c = search (rearmed_keeps, c.in-Armed.ensures)

pub set_event-requires-clause-well : goal.set_event-requires-clause-well
set_event-requires-clause-well c = search (rearmed_keeps, c.in-Armed.ensures)

pub returns-then-at-counter-clause-row : goal.returns-then-at-counter-clause-row
unfolding expire
returns-then-at-counter-clause-row c =
    let other : c.in-Armed.at ≢ c.counter.result = c.if-at-counter.true in
    search rules

pub returns-in-ActivateTask-clause-row : goal.returns-in-ActivateTask-clause-row
unfolding expire
returns-in-ActivateTask-clause-row c =
    let due : c.in-Armed.at ≡ c.counter.result = c.if-at-counter.false in
    search rules

pub returns-in-SetEvent-clause-row : goal.returns-in-SetEvent-clause-row
unfolding expire
returns-in-SetEvent-clause-row c =
    let due : c.in-Armed.at ≡ c.counter.result = c.if-at-counter.false in
    search rules
