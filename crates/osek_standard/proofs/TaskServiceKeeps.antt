-- The task services keep a state well-formed: a task that ends leaves the processor (ISO 17356-3, task management).
use Rattle.std.proofs.Common.{ℕ, ◌<◌, length, inl, inr, not, ◌&&◌, nat_eq, ◌≡◌, ◌-◌, Bool, true, false, sym, subst, ap, ◌∙◌, arith, get_or-set_same, get_or-set_other}
use Rattle.std.proofs.lemmas.Bool.{cases_Bool, cases_eq, eqb-false, ne_eqb}
use Rattle.osek_values.specs.declared.numbers.TaskNo.{TaskNo}
use Rattle.osek_standard.specs.declared.{app.App.{App}, state.{State.{State}, Caller.{Caller, TheVariants.{Nobody, Task, Routine}}}}
use Rattle.osek_standard.specs.declared.task_state.{TaskState.{TaskState}, Activity.{Activity, TheVariants.{Suspended, Live, Waiting}}}
use Rattle.osek_standard.specs.{Services.{terminate_task, chain_task, schedule, holds_some, is_full, ended, left, is_full_by, ended_by}, Effects.{end_task}}
use Rattle.osek_standard.specs.{Well.{Well, IsActivityOf}, Apps.{the_task}, TaskStates.{further_in, is_live_activity, suspended}, States.{task_state}}
use Rattle.osek_standard.specs.declared.state.Processor.TheVariants as processor
use Rattle.osek_standard.proofs.{Keeps.{left_keeps}, ActivationKeeps.{activated_keeps, first_own, standing_anew}, LineLaws.{due_ended, room_after_end}}
use Rattle.osek_standard.proofs.{InsideKeeps.{with_inside_keeps}, Callers.{IsAtProcessor, task_level_of}}

-- a task that ended is in a right state
ended_is_right : (app : App) (t : ℕ) (a : Activity) → t < length app.tasks → IsActivityOf app t a → IsActivityOf app t (ended_by app t a)
ended_is_right app t Suspended known h = tt
ended_is_right app t (Live x) known h = elim (cases_Bool (nat_eq x.further 0)) [
  | inl e ↦ (rw e tt)
  | inr e ↦ (let some = eqb-false x.further 0 e in rw e (standing_anew app t (x.further - 1) (the_task app t).first known (first_own app t known) (omega (arith, h.further, some))))
]
ended_is_right app t (Waiting b) known h = tt

-- a Live task has fewer further activations than its ACTIVATION
few_further : (app : App) (t : ℕ) (a : Activity) → IsActivityOf app t a → is_live_activity a ≡ true → further_in a < (the_task app t).activation
few_further app t Suspended h live = absurd (cc)
few_further app t (Live x) h live = h.further
few_further app t (Waiting b) h live = absurd (cc)

open_by : (b c : Bool) → (not b && c) ≡ false → b ≡ false → c ≡ false
open_by true c e f = absurd (cc)
open_by false c e f = e

module _ (app : App) (s : State) where
  -- a task that ended has left
  pub ended_keeps : (t : TaskNo) → Well app s → s.processor ≡ processor.Running t → Well app (left (ended app s t.0))
  ended_keeps t w e =
      let h = task_level_of app s t w e in
      let right = w.tasks t.0 h.running.0 in
      let x = task_state s t.0 in
      left_keeps app s t _ w e (record { activity = ended_is_right app t.0 x.activity h.running.0 right.activity; events = right.events }) (due_ended app t x.activity h.running.1)

  pub terminate_keeps : (c : Caller) → Well app s → IsAtProcessor s c → Well app (terminate_task app s c).state
  unfolding terminate_task
  terminate_keeps Nobody w h = w
  terminate_keeps (Routine k) w h = w
  terminate_keeps (Task c) w h = elim (cases_Bool (holds_some s c.0)) [
    | inl e ↦ (rw e w)
    | inr e ↦ (rw e (ended_keeps c w h))
  ]

  -- once the caller ended, there is room for the task that it chains
  pub room_to_chain : (c : TaskNo) (t : ℕ) → Well app s → s.processor ≡ processor.Running c → (not (nat_eq t c.0) && is_full app s t) ≡ false
      → is_full app (left (ended app s c.0)) t ≡ false
  room_to_chain c t w e f =
      let h = task_level_of app s c w e in
      let here : c.0 < length s.tasks = omega (arith, w.tasks_len, h.running.0) in
      let x = task_state s c.0 in
      let y : TaskState = record x { activity = ended_by app c.0 x.activity } in
      elim (cases_eq t c.0) [
        | inl same ↦ subst (λ (u : ℕ). is_full app (left (ended app s c.0)) u ≡ false) (sym same)
            (ap (λ (z : TaskState). is_full_by (the_task app c.0).activation z.activity) (get_or-set_same s.tasks c.0 y suspended here)
            ∙ room_after_end app c.0 (the_task app c.0).activation x.activity h.running.1 (few_further app c.0 x.activity (w.tasks c.0 h.running.0).activity h.running.1))
        | inr other ↦ ap (λ (z : TaskState). is_full_by (the_task app t).activation z.activity) (get_or-set_other s.tasks c.0 t y suspended other)
            ∙ open_by (nat_eq t c.0) (is_full app s t) f (ne_eqb t c.0 other)
      ]

  pub chain_keeps : (c : Caller) (t : ℕ) → Well app s → IsAtProcessor s c → t < length app.tasks → Well app (chain_task app s c t).state
  unfolding chain_task
  chain_keeps Nobody t w h known = w
  chain_keeps (Routine k) t w h known = w
  chain_keeps (Task c) t w h known = elim (cases_Bool (holds_some s c.0)) [
    | inl e ↦ (rw e w)
    | inr e ↦ elim (cases_Bool (not (nat_eq t c.0) && is_full app s t)) [
      | inl f ↦ (rw (e, f) w)
      | inr f ↦ (rw (e, f) (activated_keeps app (left (ended app s c.0)) t (ended_keeps c w h) known (room_to_chain c t w h f)))
    ]
  ]

  pub schedule_keeps : (c : Caller) → Well app s → IsAtProcessor s c → Well app (schedule s c).state
  unfolding schedule
  schedule_keeps Nobody w h = w
  schedule_keeps (Routine k) w h = w
  schedule_keeps (Task c) w h = elim (cases_Bool (holds_some s c.0)) [
    | inl e ↦ (rw e w)
    | inr e ↦ (rw e (with_inside_keeps app s w c.0 false (task_level_of app s c w h).running.0))
  ]

  -- the closing brace of a task
  pub end_task_keeps : (c : Caller) → Well app s → IsAtProcessor s c → Well app (end_task app s c).state
  end_task_keeps Nobody w h = w
  end_task_keeps (Routine k) w h = w
  end_task_keeps (Task c) w h = ended_keeps c w h
