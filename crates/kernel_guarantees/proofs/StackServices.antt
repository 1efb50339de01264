-- What each service makes of the stack of a task or a routine.
use Rattle.std.proofs.Common.{◌≡◌, ◌⊎◌, ℕ, ◌+◌, ◌-◌, ◌%◌, ◌<◌, Bool, true, false, not, ◌&&◌, ◌||◌, zero, suc, List, [], ◌∷◌, ◌++◌, length, take, nat_eq, nat_lt, refl, sym, ◌∙◌, ap, inl, inr, arith, Some, None}
use Rattle.std.proofs.Common.{get_or-set_same}
use Rattle.std.proofs.lemmas.Bool.{eqb-true, false≢true, ne_eqb}
use Rattle.std.specs.{Prelude.{bit_and, bit_xor, slice_get, slice_index_or, slice_set}, declared.option.Option.{Option}}
use Rattle.osek_values.specs.declared.numbers.{BlockNo.{BlockNo}, ResNo.{ResNo}}
use Rattle.osek_values.specs.Numbers.{mask, res_no}
use Rattle.oil_system.specs.declared.objects.Action.{Action}
use Rattle.oil_system.specs.declared.objects.Action.TheVariants as action
use Rattle.osek_standard.specs.declared.{app.App.{App}, state.{State.{State}, AlarmState.{AlarmState, TheVariants.{Armed, Idle}}, Source.{Source}, Caller.{Caller, TheVariants.{Nobody, Routine, Task}}}}
use Rattle.osek_standard.specs.declared.task_state.{TaskState.{TaskState}, Place.{Place}, Activity.{Activity, TheVariants.{Suspended, Live, Waiting}}}
use Rattle.osek_standard.specs.{Apps.{is_counter, is_cycle, is_extended, max_of, the_alarm}, TaskStates.{held, held_in, holds, is_live, is_live_activity, is_suspended, suspended}}
use Rattle.osek_standard.specs.States.{alarm_state, held_by_source, here, is_in, source_state, task_state, with_alarm, with_source, with_task}
use Rattle.osek_standard.specs.Internal.{inside_as, with_inside}
use Rattle.osek_standard.specs.Services.{Answer, acted, activate_task, activated, activated_by, cancel_alarm, chain_task, clear_event, count_up, counted_by, due, ended, ended_by, events_set, expire, get_alarm, get_event}
use Rattle.osek_standard.specs.Services.{holds_some, is_due_at, is_full, is_idle, is_on_top, is_top_resource, left, rearmed}
use Rattle.osek_standard.specs.Services.{released_from, schedule, set_abs_alarm, set_event, set_rel_alarm, share, source_with_stack, terminate_task, time_left, value_of, wait_event}
use Rattle.osek_standard.specs.Services.{waits_for, with_events, with_held, with_source_stack, with_stack, woken}
use Rattle.osek_standard.specs.Effects.{goes_on_unless_left, moved_to, source_at, standing_at}
use Rattle.osek_standard.specs.declared.state.Source.TheVariants as source
use Rattle.kernel_guarantees.specs.Resources.{Holder, OfRoutine, OfTask, stack_of}
use Rattle.kernel_guarantees.proofs.{Lookups.{put_source, put_task}, Serving.{either_by}}

-- a stack with something on top
only : (q : ResNo) (h : List ResNo) (r : ResNo) → length (q ∷ h) ≡ suc zero → nat_eq q.0 r.0 ≡ true → q ∷ h ≡ r ∷ []
only q [] r e t = ap (λ (n : ℕ). res_no n ∷ []) (eqb-true q.0 r.0 t)
only q (p ∷ h) r e t = absurd (omega (arith, e))

parted : (h : List ResNo) (k : ℕ) (r : ResNo) → length h ≡ suc k → is_top_resource (slice_get h k) r.0 ≡ true → h ≡ take k h ++ r ∷ []
parted [] k r e t = absurd (false≢true t)
parted (q ∷ h) zero r e t = only q h r e t
parted (q ∷ h) (suc k) r e t = ap (λ (g : List ResNo). q ∷ g) (parted h k r (omega (arith, e)) t)

pub top_parted : (h : List ResNo) (r : ResNo) → is_on_top r.0 h ≡ true → h ≡ take (length h - 1) h ++ r ∷ []
top_parted [] r t = absurd (false≢true t)
top_parted (q ∷ h) r t = parted (q ∷ h) (length (q ∷ h) - 1) r (omega arith) t

-- whether a stack is empty
pub none_of : (h : List ResNo) → not (nat_eq (length h) 0) ≡ false → h ≡ []
none_of [] e = refl
none_of (q ∷ h) e = absurd (false≢true (sym e ∙ ap not (ne_eqb (length (q ∷ h)) 0 (λ f. omega (arith, f)))))

pub some_of : (h : List ResNo) (r : ℕ) → holds h r ≡ true → not (nat_eq (length h) 0) ≡ true
some_of [] r e = absurd (false≢true e)
some_of (q ∷ h) r e = ap not (ne_eqb (length (q ∷ h)) 0 (λ f. omega (arith, f)))

-- the stack of an activity and of a source
activated_stack : (app : App) (t : ℕ) (y : TaskState) (a : Activity) → y.activity ≡ a → held (activated_by app t y a) ≡ held y
activated_stack app t y Suspended e = sym (ap held_in e)
activated_stack app t y (Live z) e = sym (ap held_in e)
activated_stack app t y (Waiting b) e = refl

released_stack : (app : App) (a : Activity) → held_in (released_from app a) ≡ held_in a
released_stack app Suspended = refl
released_stack app (Live z) = refl
released_stack app (Waiting b) = refl

pub ended_stack : (app : App) (t : ℕ) (a : Activity) → held_in (ended_by app t a) ≡ []
ended_stack app t Suspended = refl
ended_stack app t (Live z) = either_by (λ (a : Activity). held_in a ≡ []) (nat_eq z.further 0) _ _ (λ _. refl) (λ _. refl)
ended_stack app t (Waiting b) = refl

pub inside_stack : (b : Bool) (a : Activity) → held_in (inside_as b a) ≡ held_in a
inside_stack b Suspended = refl
inside_stack b (Live z) = refl
inside_stack b (Waiting c) = refl

pub moved_stack : (to : Place) (a : Activity) → held_in (standing_at a to) ≡ held_in a
moved_stack to Suspended = refl
moved_stack to (Live z) = refl
moved_stack to (Waiting c) = refl

pub moved_source_stack : (to : Place) (y : Source) → held_by_source (source_at y to) ≡ held_by_source y
moved_source_stack to source.Out = refl
moved_source_stack to (source.In z) = refl

set_stack : (g : List ResNo) (a : Activity) → is_live_activity a ≡ true → held_in (with_stack a g) ≡ g
set_stack g Suspended e = absurd (false≢true e)
set_stack g (Live z) e = refl
set_stack g (Waiting c) e = absurd (false≢true e)

set_source_stack : (g : List ResNo) (y : Source) → is_in y ≡ true → held_by_source (source_with_stack y g) ≡ g
set_source_stack g source.Out e = absurd (false≢true e)
set_source_stack g (source.In z) e = refl

-- stacks that stay: in the same tables, and where one task or one source is put that holds what it held
pub same_tables : (x : Holder) (m r : State) → r.tasks ≡ m.tasks → r.sources ≡ m.sources → stack_of r x ≡ stack_of m x
same_tables (OfTask t) m r e f = ap (λ (ts : List TaskState). held (slice_index_or ts t suspended)) e
same_tables (OfRoutine k) m r e f = ap (λ (ks : List Source). held_by_source (slice_index_or ks k source.Out)) f

pub same_but_task : (x : Holder) (m r : State) (t : ℕ) (y : TaskState) → held y ≡ held (task_state m t) → r.tasks ≡ slice_set m.tasks t y → r.sources ≡ m.sources → stack_of r x ≡ stack_of m x
same_but_task (OfTask u) m r t y h e f = ap (λ (ts : List TaskState). held (slice_index_or ts u suspended)) e ∙ put_task m t y (λ v z. held z ≡ held (task_state m v)) h (λ v. refl) u
same_but_task (OfRoutine k) m r t y h e f = ap (λ (ks : List Source). held_by_source (slice_index_or ks k source.Out)) f

pub same_but_source : (x : Holder) (m r : State) (k : ℕ) (y : Source) → held_by_source y ≡ held_by_source (source_state m k) → r.tasks ≡ m.tasks → r.sources ≡ slice_set m.sources k y → stack_of r x ≡ stack_of m x
same_but_source (OfTask u) m r k y h e f = ap (λ (ts : List TaskState). held (slice_index_or ts u suspended)) e
same_but_source (OfRoutine l) m r k y h e f = ap (λ (ks : List Source). held_by_source (slice_index_or ks l source.Out)) f ∙ put_source m k y (λ v z. held_by_source z ≡ held_by_source (source_state m v)) h (λ v. refl) l

-- a task's or a routine's stack that is set, and each other one
pub task_set : (x : Holder) (m : State) (c : ℕ) (g : List ResNo) → is_live (task_state m c) ≡ true
    → (stack_of (with_held m c g) x ≡ stack_of m x) ⊎ ((x ≡ OfTask c) × (stack_of (with_held m c g) x ≡ g) × (stack_of m x ≡ held (task_state m c)))
task_set (OfTask u) m c g live = put_task m c (record (task_state m c) { activity = with_stack (task_state m c).activity g })
    (λ v z. (held z ≡ held (task_state m v)) ⊎ ((OfTask v ≡ OfTask c) × (held z ≡ g) × (held (task_state m v) ≡ held (task_state m c))))
    (inr (refl, set_stack g (task_state m c).activity live, refl)) (λ v. inl refl) u
task_set (OfRoutine k) m c g live = inl refl

pub task_is_set : (m : State) (c : ℕ) (g : List ResNo) → c < length m.tasks → is_live (task_state m c) ≡ true → held (task_state (with_held m c g) c) ≡ g
task_is_set m c g known live =
    let y : TaskState = record (task_state m c) { activity = with_stack (task_state m c).activity g } in
    ap (λ (z : TaskState). held z) (get_or-set_same m.tasks c y suspended known) ∙ set_stack g (task_state m c).activity live

pub routine_set : (app : App) (x : Holder) (m : State) (k : ℕ) (g : List ResNo) → is_in (source_state m k) ≡ true
    → (stack_of (with_source_stack app m k g) x ≡ stack_of m x) ⊎ ((x ≡ OfRoutine k) × (stack_of (with_source_stack app m k g) x ≡ g) × (stack_of m x ≡ held_by_source (source_state m k)))
routine_set app (OfTask u) m k g inside = inl refl
routine_set app (OfRoutine l) m k g inside = put_source m k (source_with_stack (source_state m k) g)
    (λ v z. (held_by_source z ≡ held_by_source (source_state m v)) ⊎ ((OfRoutine v ≡ OfRoutine k) × (held_by_source z ≡ g) × (held_by_source (source_state m v) ≡ held_by_source (source_state m k))))
    (inr (refl, set_source_stack g (source_state m k) inside, refl)) (λ v. inl refl) l

pub routine_is_set : (app : App) (m : State) (k : ℕ) (g : List ResNo) → k < length m.sources → is_in (source_state m k) ≡ true → held_by_source (source_state (with_source_stack app m k g) k) ≡ g
routine_is_set app m k g known inside =
    ap (λ (z : Source). held_by_source z) (get_or-set_same m.sources k (source_with_stack (source_state m k) g) source.Out known) ∙ set_source_stack g (source_state m k) inside

-- where a task ends and where a source is put out, its stack is empty
pub ended_or : (app : App) (x : Holder) (m : State) (c : ℕ) → (stack_of (left (ended app m c)) x ≡ stack_of m x) ⊎ ((x ≡ OfTask c) × (stack_of (left (ended app m c)) x ≡ []))
ended_or app (OfTask u) m c = put_task m c (record (task_state m c) { activity = ended_by app c (task_state m c).activity })
    (λ v z. (held z ≡ held (task_state m v)) ⊎ ((OfTask v ≡ OfTask c) × (held z ≡ []))) (inr (refl, ended_stack app c (task_state m c).activity)) (λ v. inl refl) u
ended_or app (OfRoutine k) m c = inl refl

pub out_or : (x : Holder) (m : State) (k : ℕ) → (stack_of (with_source m k source.Out) x ≡ stack_of m x) ⊎ ((x ≡ OfRoutine k) × (stack_of (with_source m k source.Out) x ≡ []))
out_or (OfTask u) m k = inl refl
out_or (OfRoutine l) m k = put_source m k source.Out
    (λ v z. (held_by_source z ≡ held_by_source (source_state m v)) ⊎ ((OfRoutine v ≡ OfRoutine k) × (held_by_source z ≡ []))) (inr (refl, refl)) (λ v. inl refl) l

module _ (app : App) (x : Holder) where
  -- x has the stack that it had in m
  abbrev pub Keeps : State → Answer → Type 0
  Keeps m a = stack_of a.state x ≡ stack_of m x

  activated_keeps : (m : State) (t : ℕ) → stack_of (activated app m t) x ≡ stack_of m x
  activated_keeps m t =
      let y = task_state m t in
      same_but_task x m (activated app m t) t (activated_by app t y y.activity) (activated_stack app t y y.activity refl) refl refl

  ended_keeps : (m : State) (c : ℕ) → holds_some m c ≡ false → stack_of (left (ended app m c)) x ≡ stack_of m x
  ended_keeps m c none =
      let y = task_state m c in
      same_but_task x m (left (ended app m c)) c (record y { activity = ended_by app c y.activity }) (ended_stack app c y.activity ∙ sym (none_of (held y) none)) refl refl

  pub activate_keeps : (m : State) (t : ℕ) → Keeps m (activate_task app m t)
  unfolding activate_task
  activate_keeps m t = either_by (Keeps m) (is_full app m t) _ _ (λ _. refl) (λ _. activated_keeps m t)

  pub terminate_keeps : (m : State) (c : Caller) → Keeps m (terminate_task app m c)
  unfolding terminate_task
  terminate_keeps m Nobody = refl
  terminate_keeps m (Routine k) = refl
  terminate_keeps m (Task c) = either_by (Keeps m) (holds_some m c.0) _ _ (λ _. refl) (λ none. ended_keeps m c.0 none)

  pub chain_keeps : (m : State) (c : Caller) (t : ℕ) → Keeps m (chain_task app m c t)
  unfolding chain_task
  chain_keeps m Nobody t = refl
  chain_keeps m (Routine k) t = refl
  chain_keeps m (Task c) t = either_by (Keeps m) (holds_some m c.0) _ _ (λ _. refl)
      (λ none. either_by (Keeps m) (not (nat_eq t c.0) && is_full app m t) _ _ (λ _. refl) (λ _. activated_keeps (left (ended app m c.0)) t ∙ ended_keeps m c.0 none))

  pub schedule_keeps : (m : State) (c : Caller) → Keeps m (schedule m c)
  unfolding schedule
  schedule_keeps m Nobody = refl
  schedule_keeps m (Routine k) = refl
  schedule_keeps m (Task c) =
      let y = task_state m c.0 in
      either_by (Keeps m) (holds_some m c.0) _ _ (λ _. refl)
      (λ _. same_but_task x m (with_inside m c.0 false) c.0 (record y { activity = inside_as false y.activity }) (inside_stack false y.activity) refl refl)

  events_keep : (m : State) (t e : ℕ) → stack_of (with_events m t e) x ≡ stack_of m x
  events_keep m t e = same_but_task x m (with_events m t e) t (record (task_state m t) { events = mask e }) refl refl refl

  woken_keeps : (m : State) (t e : ℕ) → stack_of (woken app m t e) x ≡ stack_of m x
  woken_keeps m t e =
      let y : TaskState = record { activity = released_from app (task_state m t).activity; events = mask (events_set app m t e) } in
      same_but_task x m (woken app m t e) t y (released_stack app (task_state m t).activity) refl refl

  pub set_event_keeps : (m : State) (t e : ℕ) → Keeps m (set_event app m t e)
  unfolding set_event
  set_event_keeps m t e = either_by (Keeps m) (not (is_extended app t)) _ _ (λ _. refl) (λ _. either_by (Keeps m) (is_suspended (task_state m t)) _ _ (λ _. refl)
      (λ _. either_by (Keeps m) (waits_for app m t e) _ _ (λ _. woken_keeps m t e) (λ _. events_keep m t (events_set app m t e))))

  pub clear_event_keeps : (m : State) (c : Caller) (e : ℕ) → Keeps m (clear_event app m c e)
  unfolding clear_event
  clear_event_keeps m Nobody e = refl
  clear_event_keeps m (Routine k) e = refl
  clear_event_keeps m (Task c) e = either_by (Keeps m) (not (is_extended app c.0)) _ _ (λ _. refl)
      (λ _. events_keep m c.0 (bit_xor (task_state m c.0).events.0 (bit_and (task_state m c.0).events.0 e)))

  pub get_event_keeps : (m : State) (t : ℕ) → Keeps m (get_event app m t)
  unfolding get_event
  get_event_keeps m t = either_by (Keeps m) (not (is_extended app t)) _ _ (λ _. refl) (λ _. either_by (Keeps m) (is_suspended (task_state m t)) _ _ (λ _. refl) (λ _. refl))

  alarm_keeps : (m : State) (a : ℕ) (v : AlarmState) → stack_of (with_alarm m a v) x ≡ stack_of m x
  alarm_keeps m a v = same_tables x m (with_alarm m a v) refl refl

  pub set_rel_alarm_keeps : (m : State) (a i c : ℕ) → Keeps m (set_rel_alarm app m a i c)
  unfolding set_rel_alarm
  set_rel_alarm_keeps m a i c = either_by (Keeps m) (not (is_idle (alarm_state m a))) _ _ (λ _. refl)
      (λ _. either_by (Keeps m) (nat_eq i 0 || nat_lt (max_of app a) i || not (is_cycle app a c)) _ _ (λ _. refl)
      (λ _. alarm_keeps m a (Armed ((value_of app m a + i) % (max_of app a + 1)) c)))

  pub set_abs_alarm_keeps : (m : State) (a v c : ℕ) → Keeps m (set_abs_alarm app m a v c)
  unfolding set_abs_alarm
  set_abs_alarm_keeps m a v c = either_by (Keeps m) (not (is_idle (alarm_state m a))) _ _ (λ _. refl)
      (λ _. either_by (Keeps m) (nat_lt (max_of app a) v || not (is_cycle app a c)) _ _ (λ _. refl) (λ _. alarm_keeps m a (Armed v c)))

  pub cancel_alarm_keeps : (m : State) (a : ℕ) → Keeps m (cancel_alarm app m a)
  unfolding cancel_alarm
  cancel_alarm_keeps m a = either_by (Keeps m) (is_idle (alarm_state m a)) _ _ (λ _. refl) (λ _. alarm_keeps m a Idle)

  time_keeps : (m : State) (a : ℕ) (o : Option ℕ) → Keeps m (time_left app m a o)
  time_keeps m a None = refl
  time_keeps m a (Some at) = refl

  pub get_alarm_keeps : (m : State) (a : ℕ) → Keeps m (get_alarm app m a)
  unfolding get_alarm
  get_alarm_keeps m a = time_keeps m a (due (alarm_state m a))

  count_keeps : (m : State) (c : ℕ) → stack_of (count_up app m c) x ≡ stack_of m x
  unfolding count_up
  count_keeps m c = same_tables x m (count_up app m c) refl refl

  pub counted_keeps : (m : State) (c : Caller) → stack_of (counted_by app m c) x ≡ stack_of m x
  counted_keeps m Nobody = refl
  counted_keeps m (Task t) = refl
  counted_keeps m (Routine k) = either_by (λ (r : State). stack_of r x ≡ stack_of m x) (is_counter app k.0) _ _ (λ _. count_keeps m k.0) (λ _. refl)

  acted_keeps : (m : State) (z : Action) → Keeps m (acted app m z)
  acted_keeps m (action.ActivateTask t) = activate_keeps m t.0
  acted_keeps m (action.SetEvent t e) = set_event_keeps m t.0 e.0

  pub expire_keeps : (m : State) (a : ℕ) → Keeps m (expire app m a)
  unfolding expire
  expire_keeps m a =
      let v = rearmed app a (alarm_state m a) in
      either_by (Keeps m) (is_due_at (due (alarm_state m a)) (value_of app m a)) _ _ (λ _. acted_keeps (with_alarm m a v) (the_alarm app a).action ∙ alarm_keeps m a v) (λ _. refl)

  waiting_keeps : (s : State) (c : ℕ) → holds_some s c ≡ false → stack_of (left (with_task s c (record (task_state s c) { activity = Waiting (here s).block }))) x ≡ stack_of s x
  waiting_keeps s c none =
      let y : TaskState = record (task_state s c) { activity = Waiting (here s).block } in
      same_but_task x s (left (with_task s c y)) c y (sym (none_of (held (task_state s c)) none)) refl refl

  -- the caller of WaitEvent goes on, or it waits and had nothing
  pub wait_keeps : (s : State) (next : BlockNo) (c : Caller) (e : ℕ) → stack_of (moved_to s next) x ≡ stack_of s x → stack_of (goes_on_unless_left next (wait_event app s c e)).state x ≡ stack_of s x
  unfolding wait_event
  wait_keeps s next Nobody e on = on
  wait_keeps s next (Routine k) e on = on
  wait_keeps s next (Task c) e on =
      let D : Answer → Type 0 = λ a. stack_of (goes_on_unless_left next a).state x ≡ stack_of s x in
      either_by D (not (is_extended app c.0)) _ _ (λ _. on) (λ _. either_by D (holds_some s c.0) _ _ (λ _. on)
      (λ none. either_by D (share (task_state s c.0).events.0 e) _ _ (λ _. on) (λ _. waiting_keeps s c.0 none)))
