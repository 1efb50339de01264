-- What an effect does to the flags of INTERNAL resources: no task gets in, and that of an interrupted task stays.
use Rattle.std.proofs.Common.{◌≡◌, ℕ, ◌+◌, ◌<◌, Bool, true, false, List, length, refl, sym, ◌∙◌, ap, subst, inl, inr, Some, None, not, ◌||◌, ◌&&◌, nat_lt, nat_eq, get_or-set_same}
use Rattle.std.proofs.Common.{get_or-set_other}
use Rattle.std.proofs.lemmas.{Bool.{cases_eq, cases_lt, false≢true}, List.{set_past}}
use Rattle.std.specs.declared.option.Option.{Option}
use Rattle.osek_values.specs.declared.numbers.{BlockNo.{BlockNo}, ResNo.{ResNo}, SourceNo.{SourceNo}, TaskNo.{TaskNo}}
use Rattle.oil_system.specs.declared.objects.Action.{Action}
use Rattle.oil_system.specs.declared.objects.Action.TheVariants as action
use Rattle.osek_standard.specs.declared.{app.App.{App}, block.{Block.{Block}, Kind.{Kind}}, call.Call.{Call}}
use Rattle.osek_standard.specs.declared.state.{State.{State}, Processor.{Processor}, Caller.{Caller, TheVariants.{Nobody, Task, Routine}}}
use Rattle.osek_standard.specs.declared.task_state.{TaskState.{TaskState}, Place.{Place}, Activity.{Activity, TheVariants.{Suspended, Live, Waiting}}}
use Rattle.osek_standard.specs.{Apps.{the_alarm, the_block, is_extended, is_counter, is_cycle, max_of}, TaskStates.{held, is_inside, is_inside_in, is_suspended, suspended}}
use Rattle.osek_standard.specs.{States.{alarm_state, caller, here, is_taken, is_that_task, task_of, task_state, with_alarm, with_source, with_task}, Internal.{inside_as}}
use Rattle.osek_standard.specs.{Priority.{base_priority, ceiling}, Levels.{interrupt_ceiling, next_routine, own_level}}
use Rattle.osek_standard.specs.Services.{Answer, acted, activate_task, activated, activated_by, cancel_alarm, chain_task, clear_event, count_up, counted_by, due, ended, ended_by}
use Rattle.osek_standard.specs.Services.{expire, get_alarm, get_event, get_resource, get_resource_by, get_resource_isr, holds_some, is_due_at, is_full, is_idle, is_on_top, left}
use Rattle.osek_standard.specs.Services.{rearmed, release_resource, release_resource_by, release_resource_isr, released_from, schedule, set_abs_alarm, set_event, set_rel_alarm}
use Rattle.osek_standard.specs.Services.{share, stack_of_source, terminate_task, time_left, value_of, wait_event, waits_for, with_stack}
use Rattle.osek_standard.specs.Effects.{called, effect, effect_at, effect_by, end_task, goes_on_unless_left, halted_by, moved_by, moved_to, place_at, returned_by, returned_to, row}
use Rattle.osek_standard.specs.Effects.{standing_at}
use Rattle.osek_standard.specs.CallNames as call
use Rattle.osek_standard.specs.declared.block.Kind.TheVariants as kind
use Rattle.osek_standard.specs.declared.state.Processor.TheVariants as processor
use Rattle.osek_standard.specs.declared.state.Source.TheVariants as source
use Rattle.osek_standard.proofs.{BoolLaws.{either_way}, Callers.{IsAtProcessor, at_processor, moved_processor}}

-- the task that is interrupted
abbrev pub interrupted_task : Processor → Option TaskNo
interrupted_task processor.Halted = None
interrupted_task processor.Idle = None
interrupted_task (processor.Running t) = None
interrupted_task (processor.Interrupted k over) = over

interrupted_is_current : (p : Processor) (t : ℕ) → is_that_task (interrupted_task p) t ≡ true → is_that_task (task_of p) t ≡ true
interrupted_is_current processor.Halted t e = e
interrupted_is_current processor.Idle t e = e
interrupted_is_current (processor.Running u) t e = absurd (false≢true e)
interrupted_is_current (processor.Interrupted k over) t e = e

pub record KeepsFlags (s r : State) : Type 0 where
  pub lower : (t : ℕ) → is_inside (task_state r t) ≡ true → is_inside (task_state s t) ≡ true
  pub over : (t : ℕ) → is_that_task (interrupted_task r.processor) t ≡ true → (is_inside (task_state r t) ≡ is_inside (task_state s t)) × (is_that_task (task_of s.processor) t ≡ true)

abbrev HasFlagsOf : State → State → Type 0
HasFlagsOf s r = (t : ℕ) → is_inside (task_state r t) ≡ is_inside (task_state s t)

-- where all flags are as they were, and who runs or is interrupted
with_flags : (s r : State) → HasFlagsOf s r → task_of r.processor ≡ task_of s.processor → KeepsFlags s r
with_flags s r flags same = record {
  lower = λ t e. sym (flags t) ∙ e;
  over = λ t e. (flags t, subst (λ (o : Option TaskNo). is_that_task o t ≡ true) same (interrupted_is_current r.processor t e));
}

-- before and after a change that leaves the flags
after_flags : (s m r : State) → HasFlagsOf s m → task_of m.processor ≡ task_of s.processor → KeepsFlags m r → KeepsFlags s r
after_flags s m r flags same h = record {
  lower = λ t e. sym (flags t) ∙ h.lower t e;
  over = λ t e. ((h.over t e).0 ∙ flags t, subst (λ (o : Option TaskNo). is_that_task o t ≡ true) same (h.over t e).1);
}

then_flags : (s m r : State) → KeepsFlags s m → HasFlagsOf m r → r.processor ≡ m.processor → KeepsFlags s r
then_flags s m r h flags same = record {
  lower = λ t e. h.lower t (sym (flags t) ∙ e);
  over = λ t e. let k = h.over t (subst (λ (p : Processor). is_that_task (interrupted_task p) t ≡ true) same e) in (flags t ∙ k.0, k.1);
}

-- a task with another state: what holds of it there, and of each task as it was
put_flag : (s : State) (t : ℕ) (x : TaskState) (P : ℕ → Bool → Type 0) → (t < length s.tasks → P t (is_inside x)) → ((u : ℕ) → P u (is_inside (task_state s u))) → (u : ℕ)
    → P u (is_inside (task_state (with_task s t x) u))
put_flag s t x P here others u = elim (cases_lt t (length s.tasks)) [
  | inl known ↦ elim (cases_eq u t) [
    | inl same ↦
        subst (λ (v : ℕ). P v (is_inside (task_state (with_task s t x) v))) (sym same)
        (subst (λ (y : TaskState). P t (is_inside y)) (sym (get_or-set_same s.tasks t x suspended known)) (here known))
    | inr other ↦ subst (λ (y : TaskState). P u (is_inside y)) (sym (get_or-set_other s.tasks t u x suspended other)) (others u)
  ]
  | inr past ↦ subst (λ (tasks : List TaskState). P u (is_inside (task_state (record s { tasks = tasks }) u))) (sym (set_past s.tasks t x past)) (others u)
]

-- with the flag that it had
put_same : (s : State) (t : ℕ) (x : TaskState) → is_inside x ≡ is_inside (task_state s t) → HasFlagsOf s (with_task s t x)
put_same s t x e = put_flag s t x (λ u b. b ≡ is_inside (task_state s u)) (λ _. e) (λ u. refl)

-- out, by a task that isn't interrupted then
put_out : (s : State) (t : ℕ) (x : TaskState) (p : Processor) → is_inside x ≡ false → interrupted_task p ≡ None → KeepsFlags s (record (with_task s t x) { processor = p })
put_out s t x p e none = record {
  lower = put_flag s t x (λ u b. b ≡ true → is_inside (task_state s u) ≡ true) (λ _ f. absurd (false≢true (sym e ∙ f))) (λ u f. f);
  over = λ u f. absurd (false≢true (subst (λ (o : Option TaskNo). is_that_task o u ≡ true) none f));
}

activated_flag : (app : App) (t : ℕ) (x : TaskState) (a : Activity) → x.activity ≡ a → is_inside (activated_by app t x a) ≡ is_inside x
activated_flag app t x Suspended e = ap is_inside_in (sym e)
activated_flag app t x (Live y) e = ap is_inside_in (sym e)
activated_flag app t x (Waiting b) e = refl

released_flag : (app : App) (a : Activity) → is_inside_in (released_from app a) ≡ is_inside_in a
released_flag app Suspended = refl
released_flag app (Live x) = refl
released_flag app (Waiting b) = refl

stack_flag : (g : List ResNo) (a : Activity) → is_inside_in (with_stack a g) ≡ is_inside_in a
stack_flag g Suspended = refl
stack_flag g (Live x) = refl
stack_flag g (Waiting b) = refl

pub moved_flag : (p : Place) (a : Activity) → is_inside_in (standing_at a p) ≡ is_inside_in a
moved_flag p Suspended = refl
moved_flag p (Live x) = refl
moved_flag p (Waiting b) = refl

ended_flag : (app : App) (t : ℕ) (a : Activity) → is_inside_in (ended_by app t a) ≡ false
ended_flag app t Suspended = refl
ended_flag app t (Live x) = either_way (λ (a : Activity). is_inside_in a ≡ false) (nat_eq x.further 0) _ _ refl refl
ended_flag app t (Waiting b) = refl

out_flag : (a : Activity) → is_inside_in (inside_as false a) ≡ false
out_flag Suspended = refl
out_flag (Live x) = refl
out_flag (Waiting b) = refl

abbrev FlagsOf : State → Answer → Type 0
FlagsOf s a = KeepsFlags s a.state

module _ (app : App) (s : State) where
  as_it_was : KeepsFlags s s
  as_it_was = with_flags s s (λ t. refl) refl

  activation_flags : (t : ℕ) → HasFlagsOf s (activated app s t)
  activation_flags t = let x = task_state s t in put_same s t (activated_by app t x x.activity) (activated_flag app t x x.activity refl)

  activate_flags : (t : ℕ) → FlagsOf s (activate_task app s t)
  unfolding activate_task
  activate_flags t = either_way (FlagsOf s) (is_full app s t) _ _ as_it_was (with_flags s (activated app s t) (activation_flags t) refl)

  left_flags : (c : TaskNo) → KeepsFlags s (left (ended app s c.0))
  left_flags c = put_out s c.0 _ processor.Idle (ended_flag app c.0 (task_state s c.0).activity) refl

  terminate_flags : (c : Caller) → FlagsOf s (terminate_task app s c)
  unfolding terminate_task
  terminate_flags Nobody = as_it_was
  terminate_flags (Routine k) = as_it_was
  terminate_flags (Task c) = either_way (FlagsOf s) (holds_some s c.0) _ _ as_it_was (left_flags c)

  end_flags : (c : Caller) → FlagsOf s (end_task app s c)
  end_flags Nobody = as_it_was
  end_flags (Routine k) = as_it_was
  end_flags (Task c) = left_flags c

  schedule_flags : (c : Caller) → IsAtProcessor s c → FlagsOf s (schedule s c)
  unfolding schedule
  schedule_flags Nobody h = as_it_was
  schedule_flags (Routine k) h = as_it_was
  schedule_flags (Task c) h = either_way (FlagsOf s) (holds_some s c.0) _ _ as_it_was (put_out s c.0 _ s.processor (out_flag (task_state s c.0).activity) (ap interrupted_task h))

  get_resource_flags : (c : Caller) (r : ResNo) → FlagsOf s (get_resource_by app s c r)
  unfolding get_resource get_resource_isr
  get_resource_flags Nobody r = as_it_was
  get_resource_flags (Routine k) r = either_way (FlagsOf s) (is_taken s r.0 || nat_lt (interrupt_ceiling app r.0) (own_level app k.0)) _ _ as_it_was (with_flags s _ (λ t. refl) refl)
  get_resource_flags (Task c) r = either_way (FlagsOf s) (is_taken s r.0 || nat_lt (ceiling app r.0) (base_priority app c.0)) _ _ as_it_was
      (with_flags s _ (put_same s c.0 _ (stack_flag _ (task_state s c.0).activity)) refl)

  release_resource_flags : (c : Caller) (r : ResNo) → FlagsOf s (release_resource_by app s c r)
  unfolding release_resource release_resource_isr
  release_resource_flags Nobody r = as_it_was
  release_resource_flags (Routine k) r = either_way (FlagsOf s) (nat_lt (interrupt_ceiling app r.0) (own_level app k.0)) _ _ as_it_was
      (either_way (FlagsOf s) (is_on_top r.0 (stack_of_source app s k.0)) _ _ (with_flags s _ (λ t. refl) refl) as_it_was)
  release_resource_flags (Task c) r = either_way (FlagsOf s) (nat_lt (ceiling app r.0) (base_priority app c.0)) _ _ as_it_was
      (either_way (FlagsOf s) (is_on_top r.0 (held (task_state s c.0))) _ _ (with_flags s _ (put_same s c.0 _ (stack_flag _ (task_state s c.0).activity)) refl) as_it_was)

  set_event_flags : (t m : ℕ) → FlagsOf s (set_event app s t m)
  unfolding set_event
  set_event_flags t m = either_way (FlagsOf s) (not (is_extended app t)) _ _ as_it_was (either_way (FlagsOf s) (is_suspended (task_state s t)) _ _ as_it_was
      (either_way (FlagsOf s) (waits_for app s t m) _ _ (with_flags s _ (put_same s t _ (released_flag app (task_state s t).activity)) refl) (with_flags s _ (put_same s t _ refl) refl)))

  clear_event_flags : (c : Caller) (m : ℕ) → FlagsOf s (clear_event app s c m)
  unfolding clear_event
  clear_event_flags Nobody m = as_it_was
  clear_event_flags (Routine k) m = as_it_was
  clear_event_flags (Task c) m = either_way (FlagsOf s) (not (is_extended app c.0)) _ _ as_it_was (with_flags s _ (put_same s c.0 _ refl) refl)

  get_event_flags : (t : ℕ) → FlagsOf s (get_event app s t)
  unfolding get_event
  get_event_flags t = either_way (FlagsOf s) (not (is_extended app t)) _ _ as_it_was (either_way (FlagsOf s) (is_suspended (task_state s t)) _ _ as_it_was as_it_was)

  set_rel_alarm_flags : (a i c : ℕ) → FlagsOf s (set_rel_alarm app s a i c)
  unfolding set_rel_alarm
  set_rel_alarm_flags a i c =
      either_way (FlagsOf s) (not (is_idle (alarm_state s a))) _ _ as_it_was
      (either_way (FlagsOf s) (nat_eq i 0 || nat_lt (max_of app a) i || not (is_cycle app a c)) _ _ as_it_was (with_flags s _ (λ t. refl) refl))

  set_abs_alarm_flags : (a i c : ℕ) → FlagsOf s (set_abs_alarm app s a i c)
  unfolding set_abs_alarm
  set_abs_alarm_flags a i c =
      either_way (FlagsOf s) (not (is_idle (alarm_state s a))) _ _ as_it_was
      (either_way (FlagsOf s) (nat_lt (max_of app a) i || not (is_cycle app a c)) _ _ as_it_was (with_flags s _ (λ t. refl) refl))

  cancel_alarm_flags : (a : ℕ) → FlagsOf s (cancel_alarm app s a)
  unfolding cancel_alarm
  cancel_alarm_flags a = either_way (FlagsOf s) (is_idle (alarm_state s a)) _ _ as_it_was (with_flags s _ (λ t. refl) refl)

  time_left_flags : (a : ℕ) (o : Option ℕ) → FlagsOf s (time_left app s a o)
  time_left_flags a None = as_it_was
  time_left_flags a (Some at) = as_it_was

  get_alarm_flags : (a : ℕ) → FlagsOf s (get_alarm app s a)
  unfolding get_alarm
  get_alarm_flags a = time_left_flags a (due (alarm_state s a))

  counted_flags : (c : Caller) → KeepsFlags s (counted_by app s c)
  unfolding count_up
  counted_flags Nobody = as_it_was
  counted_flags (Task t) = as_it_was
  counted_flags (Routine k) = either_way (KeepsFlags s) (is_counter app k.0) _ _ (with_flags s _ (λ t. refl) refl) as_it_was

  wait_event_flags : (c : Caller) (m : ℕ) → FlagsOf s (wait_event app s c m)
  unfolding wait_event
  wait_event_flags Nobody m = as_it_was
  wait_event_flags (Routine k) m = as_it_was
  wait_event_flags (Task c) m = either_way (FlagsOf s) (not (is_extended app c.0)) _ _ as_it_was (either_way (FlagsOf s) (holds_some s c.0) _ _ as_it_was
      (either_way (FlagsOf s) (share (task_state s c.0).events.0 m) _ _ as_it_was (put_out s c.0 _ processor.Idle refl refl)))

  -- the caller of WaitEvent goes on, or waits
  wait_flags : (c : Caller) (m : ℕ) (next : BlockNo) → KeepsFlags s (moved_to s next) → FlagsOf s (goes_on_unless_left next (wait_event app s c m))
  unfolding wait_event
  wait_flags Nobody m next on = on
  wait_flags (Routine k) m next on = on
  wait_flags (Task c) m next on =
      let P : Answer → Type 0 = λ a. FlagsOf s (goes_on_unless_left next a) in
      either_way P (not (is_extended app c.0)) _ _ on
      (either_way P (holds_some s c.0) _ _ on (either_way P (share (task_state s c.0).events.0 m) _ _ on (put_out s c.0 _ processor.Idle refl refl)))

chain_flags : (app : App) (s : State) (c : Caller) (t : ℕ) → FlagsOf s (chain_task app s c t)
unfolding chain_task
chain_flags app s Nobody t = as_it_was app s
chain_flags app s (Routine k) t = as_it_was app s
chain_flags app s (Task c) t = either_way (FlagsOf s) (holds_some s c.0) _ _ (as_it_was app s) (either_way (FlagsOf s) (not (nat_eq t c.0) && is_full app s t) _ _ (as_it_was app s)
    (let m = left (ended app s c.0) in then_flags s m (activated app m t) (left_flags app s c) (activation_flags app m t) refl))

acted_flags : (app : App) (s : State) (x : Action) → FlagsOf s (acted app s x)
acted_flags app s (action.ActivateTask t) = activate_flags app s t.0
acted_flags app s (action.SetEvent t m) = set_event_flags app s t.0 m.0

expire_flags : (app : App) (s : State) (a : ℕ) → FlagsOf s (expire app s a)
unfolding expire
expire_flags app s a =
    let m = with_alarm s a (rearmed app a (alarm_state s a)) in
    either_way (FlagsOf s) (is_due_at (due (alarm_state s a)) (value_of app s a)) _ _ (after_flags s m _ (λ t. refl) refl (acted_flags app m (the_alarm app a).action)) (as_it_was app s)

row_flags : (app : App) (s : State) (c : Caller) (k : Call) → IsAtProcessor s c → FlagsOf s (row app s c k)
row_flags app s c (call.Task call.ActivateTask t) h = activate_flags app s t.0
row_flags app s c (call.Plain call.TerminateTask) h = terminate_flags app s c
row_flags app s c (call.Task call.ChainTask t) h = chain_flags app s c t.0
row_flags app s c (call.Plain call.Schedule) h = schedule_flags app s c h
row_flags app s c (call.Resource call.GetResource r) h = get_resource_flags app s c r
row_flags app s c (call.Resource call.ReleaseResource r) h = release_resource_flags app s c r
row_flags app s c (call.SetEvent t m) h = set_event_flags app s t.0 m.0
row_flags app s c (call.Mask call.ClearEvent m) h = clear_event_flags app s c m.0
row_flags app s c (call.Task call.GetEvent t) h = get_event_flags app s t.0
row_flags app s c (call.Mask call.WaitEvent m) h = wait_event_flags app s c m.0
row_flags app s c (call.Arm call.SetRelAlarm a i y) h = set_rel_alarm_flags app s a.0 i y
row_flags app s c (call.Arm call.SetAbsAlarm a i y) h = set_abs_alarm_flags app s a.0 i y
row_flags app s c (call.Alarm call.CancelAlarm a) h = cancel_alarm_flags app s a.0
row_flags app s c (call.Alarm call.GetAlarm a) h = get_alarm_flags app s a.0
row_flags app s c (call.Plain call.GetTaskId) h = as_it_was app s
row_flags app s c (call.Task call.GetTaskState t) h = as_it_was app s
row_flags app s c (call.Plain call.GetActiveApplicationMode) h = as_it_was app s
row_flags app s c call.ShutdownOs h = as_it_was app s
row_flags app s c (call.Lock l) h = as_it_was app s

called_flags : (app : App) (s : State) (c : Caller) (k : Kind) → IsAtProcessor s c → FlagsOf s (called app s c k)
called_flags app s c (kind.Work n) h = as_it_was app s
called_flags app s c (kind.Choice o) h = as_it_was app s
called_flags app s c kind.Loop h = as_it_was app s
called_flags app s c (kind.Call k) h = row_flags app s c k h
called_flags app s c kind.TaskEnd h = as_it_was app s
called_flags app s c kind.IsrEnd h = as_it_was app s
called_flags app s c kind.CountUp h = counted_flags app s c
called_flags app s c (kind.Expire a) h = expire_flags app s a.0

-- a move leaves the flags
pub moved_flags : (s : State) (to : Place) (p : Processor) → HasFlagsOf s (moved_by s p to)
moved_flags s to processor.Halted t = refl
moved_flags s to processor.Idle t = refl
moved_flags s to (processor.Running c) t = put_same s c.0 _ (moved_flag to (task_state s c.0).activity) t
moved_flags s to (processor.Interrupted k over) t = refl

module _ (app : App) (s : State) where
  -- the end of a routine
  returned_to_flags : (k : SourceNo) (over : Option TaskNo) (o : Option SourceNo) → task_of s.processor ≡ over → FlagsOf s (returned_to app (with_source s k.0 source.Out) over o)
  returned_to_flags k None None e = record { lower = λ t f. f; over = λ t f. absurd (false≢true f) }
  returned_to_flags k (Some u) None e = record { lower = λ t f. f; over = λ t f. absurd (false≢true f) }
  returned_to_flags k over (Some j) e = record { lower = λ t f. f; over = λ t f. (refl, subst (λ (o : Option TaskNo). is_that_task o t ≡ true) (sym e) f) }

  returned_flags : (p : Processor) → s.processor ≡ p → FlagsOf s (returned_by app s p)
  returned_flags processor.Halted e = as_it_was app s
  returned_flags processor.Idle e = as_it_was app s
  returned_flags (processor.Running t) e = as_it_was app s
  returned_flags (processor.Interrupted k over) e = returned_to_flags k over (next_routine app (with_source s k.0 source.Out)) (ap task_of e)

  halted_flags : (p : Processor) → KeepsFlags s (halted_by s p)
  halted_flags processor.Halted = as_it_was app s
  halted_flags processor.Idle = record { lower = λ t f. f; over = λ t f. absurd (false≢true f) }
  halted_flags (processor.Running u) = record { lower = λ t f. f; over = λ t f. absurd (false≢true f) }
  halted_flags (processor.Interrupted k None) = record { lower = λ t f. f; over = λ t f. absurd (false≢true f) }
  halted_flags (processor.Interrupted k (Some u)) = record { lower = λ t f. f; over = λ t f. absurd (false≢true f) }

module _ (app : App) (s : State) where
  move_flags : (to : Place) → KeepsFlags s (moved_by s s.processor to)
  move_flags to = with_flags s (moved_by s s.processor to) (moved_flags s to s.processor) (ap task_of (moved_processor s to s.processor))

  after_move : (to : Place) (r : State) → KeepsFlags (moved_by s s.processor to) r → KeepsFlags s r
  after_move to r h = after_flags s (moved_by s s.processor to) r (moved_flags s to s.processor) (ap task_of (moved_processor s to s.processor)) h

  row_after : (b : Block) (k : Kind) → KeepsFlags s (called app (moved_to s b.next) (caller s.processor) k).state
  row_after b k =
      let m = moved_to s b.next in
      let at : IsAtProcessor m (caller s.processor) = subst (λ (p : Processor). IsAtProcessor m (caller p)) (moved_processor s (place_at b.next 0) s.processor) (at_processor m) in
      after_move (place_at b.next 0) (called app m (caller s.processor) k).state (called_flags app m (caller s.processor) k at)

  effect_at_flags : (choice : Bool) (p : Place) (b : Block) (k : Kind) → KeepsFlags s (effect_at app s choice p b k).state
  effect_at_flags choice p b (kind.Work n) = either_way (FlagsOf s) (nat_lt (p.offset + 1) n) _ _ (move_flags (place_at p.block (p.offset + 1))) (move_flags (place_at b.next 0))
  effect_at_flags true p b (kind.Choice other) = move_flags (place_at b.next 0)
  effect_at_flags false p b (kind.Choice other) = move_flags (place_at other 0)
  effect_at_flags choice p b (kind.Call (call.Mask call.WaitEvent m)) = wait_flags app s (caller s.processor) m.0 b.next (move_flags (place_at b.next 0))
  effect_at_flags choice p b (kind.Call call.ShutdownOs) = let m = moved_to s b.next in after_move (place_at b.next 0) (halted_by m m.processor) (halted_flags app m m.processor)
  effect_at_flags choice p b kind.TaskEnd = end_flags app s (caller s.processor)
  effect_at_flags choice p b kind.IsrEnd = returned_flags app s s.processor refl
  effect_at_flags choice p b k = row_after b k

  effect_by_flags : (choice : Bool) (p : Processor) → KeepsFlags s (effect_by app s choice p).state
  effect_by_flags choice processor.Halted = as_it_was app s
  effect_by_flags choice processor.Idle = as_it_was app s
  effect_by_flags choice (processor.Running t) = effect_at_flags choice (here s) (the_block app (here s).block.0) (the_block app (here s).block.0).kind
  effect_by_flags choice (processor.Interrupted k over) = effect_at_flags choice (here s) (the_block app (here s).block.0) (the_block app (here s).block.0).kind

  pub effect_flags : (choice : Bool) → KeepsFlags s (effect app s choice).state
  unfolding effect
  effect_flags choice = effect_by_flags choice s.processor
