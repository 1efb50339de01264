-- What becomes of alarms (ISO 17356-3, alarms).
use Rattle.std.specs.Prelude.{◌≡◌, ℕ, ◌+◌, ◌%◌, ◌<◌, ◌≤◌, Bool, true, not, ◌==◌, List, [], ◌∷◌, if◌then◌else◌}
use Rattle.osek_values.specs.{Numbers.{source_no}, declared.event.Event.{Event}}
use Rattle.osek_standard.specs.declared.{app.App.{App}, block.Kind.{Kind}, state.{State.{State}, AlarmState.{AlarmState, TheVariants.{Idle, Armed}}, Caller.TheVariants.{Routine}}}
use Rattle.osek_standard.specs.declared.call.{Call.TheVariants.{Alarm, Arm}, AlarmService.TheVariants.{CancelAlarm}, ArmService.TheVariants.{SetAbsAlarm, SetRelAlarm}}
use Rattle.osek_standard.specs.{Apps.{is_counter, is_cycle, max_of, the_alarm}, States.{alarm_state, caller, counter_value}, Kernel.{step}, Services.{due, is_due_at, rearmed, value_of}}
use Rattle.osek_standard.specs.declared.block.Kind.TheVariants as kind

-- What an instruction of this kind may make of alarm a, where it changes it: SetRelAlarm and SetAbsAlarm of it arm it where it is idle,
-- CancelAlarm of it disarms it, and where it expires, it is armed anew or idle.
abbrev pub AlarmBecomes : App → State → ℕ → Kind → AlarmState → Type 0
AlarmBecomes app s a (kind.Call (Arm SetRelAlarm b increment cycle)) x =
    (b.0 ≡ a) × (alarm_state s a ≡ Idle) × (0 < increment) × (increment ≤ max_of app a) × (is_cycle app a cycle ≡ true) × (x ≡ Armed ((value_of app s a + increment) % (max_of app a + 1)) cycle)
AlarmBecomes app s a (kind.Call (Arm SetAbsAlarm b start cycle)) x = (b.0 ≡ a) × (alarm_state s a ≡ Idle) × (start ≤ max_of app a) × (is_cycle app a cycle ≡ true) × (x ≡ Armed start cycle)
AlarmBecomes app s a (kind.Call (Alarm CancelAlarm b)) x = (b.0 ≡ a) × (x ≡ Idle)
AlarmBecomes app s a (kind.Expire b) x = (b.0 ≡ a) × (is_due_at (due (alarm_state s a)) (value_of app s a) ≡ true) × (x ≡ rearmed app a (alarm_state s a))
AlarmBecomes app s a _ x = ⊥

-- the instruction that counts, in the tick routine of counter c
pub record IsCount (app : App) (s : State) (c : ℕ) (did : Kind) : Type 0 where
  pub counts : did ≡ kind.CountUp
  pub routine : caller s.processor ≡ Routine (source_no c)
  pub counter : is_counter app c ≡ true

-- the counter that alarm a is of
abbrev pub counter_of : App → ℕ → ℕ
counter_of app a = (the_alarm app a).counter.0

-- counter c counts in this step
abbrev pub counts_in : App → State → Event → ℕ → Bool
counts_in app s e c = not (counter_value (step app s e).state c == counter_value s c)

-- how often it counts in these steps
abbrev pub counts : App → State → ℕ → List Event → ℕ
counts app s c [] = 0
counts app s c (e ∷ es) = (if counts_in app s e c then 1 else 0) + counts app (step app s e).state c es

-- alarm a is so, before each of these steps and after them
abbrev pub StaysAs : App → State → ℕ → AlarmState → List Event → Type 0
StaysAs app s a x [] = alarm_state s a ≡ x
StaysAs app s a x (e ∷ es) = (alarm_state s a ≡ x) × StaysAs app (step app s e).state a x es
