use Rattle.std.proofs.Common.{◌≡◌, ◌≢◌, ◌⊎◌, ℕ, ◌∙◌, inl, inr}
use Rattle.osek_values.specs.{declared.event.Event.{Event}, Numbers.{alarm_no}}
use Rattle.osek_standard.specs.declared.{app.App.{App}, call.ArmService.{ArmService}, state.{State.{State}, AlarmState.TheVariants.{Armed, Idle}}}
use Rattle.osek_standard.specs.{Kernel.{step}, States.{alarm_state}}
use Rattle.osek_standard.specs.declared.block.Kind.TheVariants as kind
use Rattle.kernel_guarantees.specs.{Alarms.{AlarmBecomes}, Events.{IsDue}, Reached.{IsReached}, Scheduling.{kind_at}}
use Rattle.kernel_guarantees.proofs.{AlarmRuns.{anew_by, armed_by, disarmed_by, step_alarm}, Reaching.{reached_is_well}}
use Rattle.kernel_guarantees.proofs.CallNames as call
use Rattle.kernel_guarantees.proofs.alarms.alarms_change_by_their_services_alone.Goals as goal

module _ (app : App) (s : State) (e : Event) (a : ℕ) (reached : IsReached app s) where
  moved : (alarm_state (step app s e).state a ≡ alarm_state s a) ⊎ AlarmBecomes app s a (kind_at app s) (alarm_state (step app s e).state a)
  moved = elim (step_alarm app s e a (reached_is_well app s reached)) [
    | inl same ↦ inl same
    | inr h ↦ inr h.0
  ]

  module _ (at cycle : ℕ) where
    arms : alarm_state s a ≡ Idle → alarm_state (step app s e).state a ≡ Armed at cycle → (service : ArmService) × (time : ℕ) × (kind_at app s ≡ kind.Call (call.Arm service (alarm_no a) time cycle))
    arms idle armed = elim moved [
      | inl same ↦ absurd (cc (same, idle, armed))
      | inr h ↦ armed_by app s a at cycle (kind_at app s) _ idle armed h
    ]

    disarms : alarm_state s a ≡ Armed at cycle → alarm_state (step app s e).state a ≡ Idle
        → (kind_at app s ≡ kind.Call (call.Alarm call.CancelAlarm (alarm_no a))) ⊎ ((kind_at app s ≡ kind.Expire (alarm_no a)) × IsDue app s a × (cycle ≡ 0))
    disarms armed idle = elim moved [
      | inl same ↦ absurd (cc (same, idle, armed))
      | inr h ↦ disarmed_by app s a at cycle (kind_at app s) _ armed idle h
    ]

    renews : alarm_state s a ≡ Armed at cycle → alarm_state (step app s e).state a ≢ Armed at cycle → alarm_state (step app s e).state a ≢ Idle → (kind_at app s ≡ kind.Expire (alarm_no a)) × IsDue app s a
    renews armed other some = elim moved [
      | inl same ↦ absurd (other (same ∙ armed))
      | inr h ↦ anew_by app s a at cycle (kind_at app s) _ armed some h
    ]

pub returns : goal.returns
returns c = record {
  changes = λ app s e a reached. moved app s e a reached;
  armed = λ app s e a at cycle reached. arms app s e a reached at cycle;
  disarmed = λ app s e a at cycle reached. disarms app s e a reached at cycle;
  anew = λ app s e a at cycle reached. renews app s e a reached at cycle;
}
