-- A task that ended left the processor, and hasn't begun anew.
use Rattle.std.proofs.Common.{◌≡◌, ℕ, ◌<◌, false, length, refl, sym, subst, ap, ◌∙◌, arith, get_or-set_same}
use Rattle.osek_values.specs.declared.numbers.TaskNo.{TaskNo}
use Rattle.osek_standard.specs.declared.{app.App.{App}, state.State.{State}}
use Rattle.osek_standard.specs.{TaskStates.{suspended}, States.{task_state}, Services.{activated, ended, left}, Well.{Well}}
use Rattle.osek_standard.specs.declared.state.Processor.TheVariants as processor
use Rattle.osek_standard.proofs.Callers.{task_level_of}
use Rattle.kernel_guarantees.specs.Underway.{is_begun, is_underway}
use Rattle.kernel_guarantees.proofs.{Lookups.{put_task}, Settling.{activation_begins_none}, StackedDeeds.{ended_fresh}}

module _ (app : App) (u : ℕ) where
  -- u left the processor and hasn't begun
  abbrev pub HasEnded : State → Type 0
  HasEnded r = (r.processor ≡ processor.Idle) × (is_underway app r u ≡ false)

  module _ (m : State) (w : Well app m) (c : TaskNo) (runs : m.processor ≡ processor.Running c) (same : c.0 ≡ u) where
    pub ended_has : HasEnded (left (ended app m c.0))
    ended_has =
        let known : c.0 < length m.tasks = omega (arith, (task_level_of app m c w runs).running.0, w.tasks_len) in (
          refl,
          subst (λ (v : ℕ). is_underway app (left (ended app m c.0)) v ≡ false) same
              (ap (is_begun app c.0) (get_or-set_same m.tasks c.0 _ suspended known) ∙ ended_fresh app c.0 (task_state m c.0) (task_state m c.0).activity),
        )

    pub chained_has : (v : ℕ) → HasEnded (activated app (left (ended app m c.0)) v)
    chained_has v =
        let n : State = left (ended app m c.0) in (
          refl,
          put_task n v _ (λ z x. z ≡ u → is_begun app z x ≡ false)
              (λ is. activation_begins_none app v (task_state n v) (task_state n v).activity refl (subst (λ (z : ℕ). is_underway app n z ≡ false) (sym is) ended_has.1))
              (λ z is. subst (λ (y : ℕ). is_underway app n y ≡ false) (sym is) ended_has.1) u refl,
        )
