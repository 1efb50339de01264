-- The event services keep a state well-formed (ISO 17356-3, event control).
use Rattle.std.proofs.{Common.{◌≡◌, ℕ, ◌<◌, true, false, length, inl, inr, arith, not, refl, sym, subst, Some, None}, lemmas.Bool.{cases_Bool, not-false, Decides.{nat_tests}}}
use Rattle.std.specs.declared.option.Option.{Option}
use Rattle.osek_values.specs.declared.{numbers.{TaskNo.{TaskNo}, BlockNo.{BlockNo}}, status.Status.{Status}}
use Rattle.osek_values.specs.declared.status.Status.TheVariants as status
use Rattle.osek_values.specs.declared.status.Ask.TheVariants as ask
use Rattle.osek_standard.specs.declared.{app.App.{App}, state.{State.{State}, Caller.{Caller, TheVariants.{Nobody, Task, Routine}}}}
use Rattle.osek_standard.specs.declared.task_state.Activity.{Activity, TheVariants.{Suspended, Live, Waiting}}
use Rattle.osek_standard.specs.{Apps.{the_block, is_extended, the_task, no_task}, TaskStates.{is_live_activity, is_suspended, further_in}}
use Rattle.osek_standard.specs.States.{task_state, with_task, here, task_of}
use Rattle.osek_standard.specs.Services.{set_event, clear_event, get_event, wait_event, waits_for, holds_some, share, released_from, left, Answer, accepted, answer, own_events}
use Rattle.osek_standard.specs.{Effects.{moved_to, goes_on_unless_left}, Well.{Well, IsActivityOf, IsOwn, IsWaitEvent}}
use Rattle.osek_standard.specs.declared.state.Processor.TheVariants as processor
use Rattle.osek_standard.proofs.{Callers.{IfTask, IsAtProcessor, task_level_of}, MaskLaws.{set_within, clear_within}, WellLaws.{own_block}}
use Rattle.osek_standard.proofs.{Keeps.{with_task_keeps, left_keeps, with_place_keeps, live_at_processor}, ActivationKeeps.{some_activation, standing_anew}}
use Rattle.osek_standard.proofs.LineLaws.{due_released, due_waiting}

-- a task that waited is Live at the block after
released_is_right : (app : App) (t : ℕ) (a : Activity) → t < length app.tasks → IsActivityOf app t a → IsActivityOf app t (released_from app a)
released_is_right app t Suspended known h = tt
released_is_right app t (Live x) known h = h
released_is_right app t (Waiting b) known h =
    standing_anew app t 0 (the_block app b.0).next known (own_block app t b.0 known h.own).next (some_activation app t known)

released_is_live : (app : App) (a : Activity) → is_live_activity a ≡ true → is_live_activity (released_from app a) ≡ true
released_is_live app Suspended h = h
released_is_live app (Live x) h = h
released_is_live app (Waiting b) h = absurd (cc)

-- an extended task has no further activation
no_further : (app : App) (t : ℕ) (a : Activity) → t < length app.tasks → IsActivityOf app t a → is_extended app t ≡ true → further_in a ≡ 0
no_further app t Suspended known h e = refl
no_further app t (Live x) known h e =
    let some : 0 < (the_task app t).own.0 = grind (arith, nat_tests) in
    omega (arith, h.further, app.valid.extended_once t no_task known some)
no_further app t (Waiting b) known h e = refl

module _ (app : App) (s : State) where
  pub set_event_keeps : (t m : ℕ) → Well app s → t < length app.tasks → Well app (set_event app s t m).state
  unfolding set_event
  set_event_keeps t m w known =
      let x = task_state s t in
      let right = w.tasks t known in
      elim (cases_Bool (not (is_extended app t))) [
        | inl e ↦ (rw e w)
        | inr e ↦ elim (cases_Bool (is_suspended x)) [
          | inl f ↦ (rw (e, f) w)
          | inr f ↦ elim (cases_Bool (waits_for app s t m)) [
            | inl g ↦ (rw (e, f, g) (with_place_keeps app s t _ w known
                (record { activity = released_is_right app t x.activity known right.activity; events = set_within x.events.0 m _ right.events })
                (released_is_live app x.activity) (due_released app (task_of s.processor) t (own_events app s t m) x.activity (live_at_processor app s w t) g)))
            | inr g ↦ (rw (e, f, g) (with_task_keeps app s t _ w known (record { activity = right.activity; events = set_within x.events.0 m _ right.events }) (λ h. h) (λ _. refl)))
          ]
        ]
      ]

  pub clear_event_keeps : (c : Caller) (m : ℕ) → Well app s → IfTask c (λ (t : TaskNo). t.0 < length app.tasks) → Well app (clear_event app s c m).state
  unfolding clear_event
  clear_event_keeps Nobody m w known = w
  clear_event_keeps (Routine k) m w known = w
  clear_event_keeps (Task t) m w known =
      let x = task_state s t.0 in
      let right = w.tasks t.0 known in
      elim (cases_Bool (not (is_extended app t.0))) [
        | inl e ↦ (rw e w)
        | inr e ↦ (rw e (with_task_keeps app s t.0 _ w known (record { activity = right.activity; events = clear_within x.events.0 m _ right.events }) (λ h. h) (λ _. refl)))
      ]

  pub get_event_keeps : (t : ℕ) → Well app s → Well app (get_event app s t).state
  unfolding get_event
  get_event_keeps t w = elim (cases_Bool (not (is_extended app t))) [
    | inl e ↦ (rw e w)
    | inr e ↦ elim (cases_Bool (is_suspended (task_state s t))) [ inl f ↦ (rw (e, f) w) | inr f ↦ (rw (e, f) w) ]
  ]

  -- a task that waits at its own WaitEvent block has left
  waits_keeps : (c : TaskNo) → Well app s → s.processor ≡ processor.Running c → IsOwn app c.0 (here s).block.0 → IsWaitEvent (the_block app (here s).block.0).kind
      → not (is_extended app c.0) ≡ false →
      Well app (left (with_task s c.0 (record (task_state s c.0) { activity = Waiting (here s).block })))
  waits_keeps c w r own wait e =
      let h = task_level_of app s c w r in
      let x = task_state s c.0 in
      let right = w.tasks c.0 h.running.0 in
      let extended : is_extended app c.0 ≡ true = not-false (is_extended app c.0) e in
      let none = no_further app c.0 x.activity h.running.0 right.activity extended in
      left_keeps app s c _ w r (record { activity = record { own = own; extended = extended; wait = wait }; events = right.events }) (sym (due_waiting c x.activity none h.running.1))

  -- WaitEvent leaves the state as it is, or its caller waits
  wait_by : (P : Answer → Type 0) (c : Caller) (m : ℕ) → ((e : Option Status) → P (answer s e None ask.No)) →
      ((t : TaskNo) → c ≡ Task t → not (is_extended app t.0) ≡ false → P (accepted (left (with_task s t.0 (record (task_state s t.0) { activity = Waiting (here s).block }))) ask.Left)) → P (wait_event app s c m)
  unfolding wait_event
  wait_by P Nobody m stays waits = stays None
  wait_by P (Routine k) m stays waits = stays (Some status.CallLevel)
  wait_by P (Task c) m stays waits = elim (cases_Bool (not (is_extended app c.0))) [
    | inl e ↦ (rw e (stays (Some status.Access)))
    | inr e ↦ elim (cases_Bool (holds_some s c.0)) [
      | inl f ↦ (rw (e, f) (stays (Some status.Resource)))
      | inr f ↦ elim (cases_Bool (share (task_state s c.0).events.0 m)) [
        | inl g ↦ (rw (e, f, g) (stays (Some status.Ok)))
        | inr g ↦ (rw (e, f, g) (waits c refl e))
      ]
    ]
  ]

  module _ (c : Caller) (w : Well app s) (at : IsAtProcessor s c) (own : IfTask c (λ (t : TaskNo). IsOwn app t.0 (here s).block.0)) (wait : IsWaitEvent (the_block app (here s).block.0).kind) where
    caller_waits : (t : TaskNo) → c ≡ Task t → not (is_extended app t.0) ≡ false → Well app (left (with_task s t.0 (record (task_state s t.0) { activity = Waiting (here s).block })))
    caller_waits t same e = waits_keeps t w (subst (IsAtProcessor s) same at) (subst (λ (d : Caller). IfTask d (λ (u : TaskNo). IsOwn app u.0 (here s).block.0)) same own) wait e

    pub wait_keeps : (m : ℕ) → Well app (wait_event app s c m).state
    wait_keeps m = wait_by (λ (a : Answer). Well app a.state) c m (λ e. w) caller_waits

    -- the caller waits, or goes on to the block after
    pub wait_or_on_keeps : (m : ℕ) (next : BlockNo) → Well app (moved_to s next) → Well app (goes_on_unless_left next (wait_event app s c m)).state
    wait_or_on_keeps m next on = wait_by (λ (a : Answer). Well app (goes_on_unless_left next a).state) c m (λ e. on) caller_waits
