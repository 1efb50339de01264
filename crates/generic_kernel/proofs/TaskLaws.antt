-- An instruction changes no task but the one that runs and the one that it names.
use Rattle.std.proofs.Common.{◌≡◌, ◌≢◌, ℕ, ◌+◌, Bool, false, refl, ◌∙◌, Some, None, IfSome, not, ◌||◌, ◌&&◌, nat_lt, nat_eq, arith, get_or-set_other}
use Rattle.std.proofs.lemmas.Bool.Decides.{nat_tests}
use Rattle.std.specs.{Prelude.{if◌then◌else◌}, declared.option.Option.{Option}}
use Rattle.osek_values.specs.declared.numbers.{BlockNo.{BlockNo}, ResNo.{ResNo}, TaskNo.{TaskNo}, SourceNo.{SourceNo}}
use Rattle.oil_system.specs.declared.objects.Action.{Action}
use Rattle.oil_system.specs.declared.objects.Action.TheVariants as action
use Rattle.osek_standard.specs.declared.{app.App.{App}, block.{Block.{Block}, Kind.{Kind}}, call.Call.{Call}}
use Rattle.osek_standard.specs.declared.state.{State.{State}, Processor.{Processor}, Caller.{Caller, TheVariants.{Nobody, Task, Routine}}}
use Rattle.osek_standard.specs.declared.task_state.{Place.{Place}, TaskState.{TaskState}}
use Rattle.osek_standard.specs.{Apps.{the_alarm, the_block, is_extended, is_counter, is_cycle, max_of}, TaskStates.{held, is_suspended, suspended}}
use Rattle.osek_standard.specs.States.{alarm_state, caller, here, is_taken, is_that_task, task_of, task_state, with_alarm, with_source, with_task}
use Rattle.osek_standard.specs.Priority.{base_priority, ceiling}
use Rattle.osek_standard.specs.Services.{Answer, acted, activate_task, cancel_alarm, chain_task, clear_event, count_up, counted_by, due, ended, expire, get_alarm, get_event}
use Rattle.osek_standard.specs.Services.{get_resource, get_resource_by, holds_some, is_due_at, is_full, is_idle, is_on_top, left, rearmed, release_resource, release_resource_by}
use Rattle.osek_standard.specs.Services.{schedule, set_abs_alarm, set_event, set_rel_alarm, share, terminate_task, time_left, value_of, wait_event, waits_for, get_resource_isr}
use Rattle.osek_standard.specs.Services.{release_resource_isr, stack_of_source}
use Rattle.osek_standard.specs.Effects.{called, effect, effect_at, effect_by, end_task, given_back, goes_on_unless_left, halted_by, moved_by, moved_to, place_at, returned_by, row}
use Rattle.osek_standard.specs.Effects.{returned_to}
use Rattle.osek_standard.specs.Levels.{interrupt_ceiling, next_routine, own_level}
use Rattle.osek_standard.specs.declared.block.Kind.TheVariants as kind
use Rattle.osek_standard.specs.declared.state.Source.TheVariants as source
use Rattle.osek_standard.specs.declared.state.Processor.TheVariants as processor
use Rattle.osek_standard.proofs.{BoolLaws.{either_way}, Callers.{IfTask}}
use Rattle.generic_kernel.specs.Changes.{ChangesOwn, acted_on, named_by, named_here, named_in_call}
use Rattle.generic_kernel.specs.CallNames as call

abbrev HasTaskOf : ℕ → State → Answer → Type 0
HasTaskOf u s a = task_state a.state u ≡ task_state s u

-- the task is not the one that calls
abbrev NotCaller : ℕ → Caller → Type 0
NotCaller u c = IfTask c (λ (t : TaskNo). u ≢ t.0)

-- another state of one task
set_other : (s : State) (u t : ℕ) (x : TaskState) → u ≢ t → task_state (with_task s t x) u ≡ task_state s u
set_other s u t x other = get_or-set_other s.tasks t u x suspended other

module _ (app : App) (u : ℕ) (s : State) where
  activate_leaves_task : (t : ℕ) → u ≢ t → HasTaskOf u s (activate_task app s t)
  unfolding activate_task
  activate_leaves_task t n = either_way (HasTaskOf u s) (is_full app s t) _ _ refl (set_other s u t _ n)

  terminate_leaves_task : (c : Caller) → NotCaller u c → HasTaskOf u s (terminate_task app s c)
  unfolding terminate_task
  terminate_leaves_task Nobody n = refl
  terminate_leaves_task (Routine k) n = refl
  terminate_leaves_task (Task c) n = either_way (HasTaskOf u s) (holds_some s c.0) _ _ refl (set_other s u c.0 _ n)

  chain_leaves_task : (c : Caller) (t : ℕ) → NotCaller u c → u ≢ t → HasTaskOf u s (chain_task app s c t)
  unfolding chain_task
  chain_leaves_task Nobody t n m = refl
  chain_leaves_task (Routine k) t n m = refl
  chain_leaves_task (Task c) t n m = either_way (HasTaskOf u s) (holds_some s c.0) _ _ refl (either_way (HasTaskOf u s) (not (nat_eq t c.0) && is_full app s t) _ _ refl
      (set_other (left (ended app s c.0)) u t _ m ∙ set_other s u c.0 _ n))

  schedule_leaves_task : (c : Caller) → NotCaller u c → HasTaskOf u s (schedule s c)
  unfolding schedule
  schedule_leaves_task Nobody n = refl
  schedule_leaves_task (Routine k) n = refl
  schedule_leaves_task (Task c) n = either_way (HasTaskOf u s) (holds_some s c.0) _ _ refl (set_other s u c.0 _ n)

  get_resource_leaves_task : (c : Caller) (r : ResNo) → NotCaller u c → HasTaskOf u s (get_resource_by app s c r)
  unfolding get_resource get_resource_isr
  get_resource_leaves_task Nobody r n = refl
  get_resource_leaves_task (Routine k) r n = either_way (HasTaskOf u s) (is_taken s r.0 || nat_lt (interrupt_ceiling app r.0) (own_level app k.0)) _ _ refl refl
  get_resource_leaves_task (Task c) r n = either_way (HasTaskOf u s) (is_taken s r.0 || nat_lt (ceiling app r.0) (base_priority app c.0)) _ _ refl (set_other s u c.0 _ n)

  release_resource_leaves_task : (c : Caller) (r : ResNo) → NotCaller u c → HasTaskOf u s (release_resource_by app s c r)
  unfolding release_resource release_resource_isr
  release_resource_leaves_task Nobody r n = refl
  release_resource_leaves_task (Routine k) r n =
      either_way (HasTaskOf u s) (nat_lt (interrupt_ceiling app r.0) (own_level app k.0)) _ _ refl
      (either_way (HasTaskOf u s) (is_on_top r.0 (stack_of_source app s k.0)) _ _ refl refl)
  release_resource_leaves_task (Task c) r n = either_way (HasTaskOf u s) (nat_lt (ceiling app r.0) (base_priority app c.0)) _ _ refl (either_way (HasTaskOf u s) (is_on_top r.0 (held (task_state s c.0))) _ _ (set_other s u c.0 _ n) refl)

  set_event_leaves_task : (t m : ℕ) → u ≢ t → HasTaskOf u s (set_event app s t m)
  unfolding set_event
  set_event_leaves_task t m n = either_way (HasTaskOf u s) (not (is_extended app t)) _ _ refl (either_way (HasTaskOf u s) (is_suspended (task_state s t)) _ _ refl
      (either_way (HasTaskOf u s) (waits_for app s t m) _ _ (set_other s u t _ n) (set_other s u t _ n)))

  clear_event_leaves_task : (c : Caller) (m : ℕ) → NotCaller u c → HasTaskOf u s (clear_event app s c m)
  unfolding clear_event
  clear_event_leaves_task Nobody m n = refl
  clear_event_leaves_task (Routine k) m n = refl
  clear_event_leaves_task (Task c) m n = either_way (HasTaskOf u s) (not (is_extended app c.0)) _ _ refl (set_other s u c.0 _ n)

  get_event_leaves_task : (t : ℕ) → HasTaskOf u s (get_event app s t)
  unfolding get_event
  get_event_leaves_task t = either_way (HasTaskOf u s) (not (is_extended app t)) _ _ refl (either_way (HasTaskOf u s) (is_suspended (task_state s t)) _ _ refl refl)

  wait_event_leaves_task : (c : Caller) (m : ℕ) → NotCaller u c → HasTaskOf u s (wait_event app s c m)
  unfolding wait_event
  wait_event_leaves_task Nobody m n = refl
  wait_event_leaves_task (Routine k) m n = refl
  wait_event_leaves_task (Task c) m n = either_way (HasTaskOf u s) (not (is_extended app c.0)) _ _ refl (either_way (HasTaskOf u s) (holds_some s c.0) _ _ refl (either_way (HasTaskOf u s) (share (task_state s c.0).events.0 m) _ _ refl (set_other s u c.0 _ n)))

  set_rel_alarm_leaves_task : (a i c : ℕ) → HasTaskOf u s (set_rel_alarm app s a i c)
  unfolding set_rel_alarm
  set_rel_alarm_leaves_task a i c = either_way (HasTaskOf u s) (not (is_idle (alarm_state s a))) _ _ refl (either_way (HasTaskOf u s) (nat_eq i 0 || nat_lt (max_of app a) i || not (is_cycle app a c)) _ _ refl refl)

  set_abs_alarm_leaves_task : (a i c : ℕ) → HasTaskOf u s (set_abs_alarm app s a i c)
  unfolding set_abs_alarm
  set_abs_alarm_leaves_task a i c = either_way (HasTaskOf u s) (not (is_idle (alarm_state s a))) _ _ refl (either_way (HasTaskOf u s) (nat_lt (max_of app a) i || not (is_cycle app a c)) _ _ refl refl)

  cancel_alarm_leaves_task : (a : ℕ) → HasTaskOf u s (cancel_alarm app s a)
  unfolding cancel_alarm
  cancel_alarm_leaves_task a = either_way (HasTaskOf u s) (is_idle (alarm_state s a)) _ _ refl refl

  time_left_leaves_task : (a : ℕ) (o : Option ℕ) → HasTaskOf u s (time_left app s a o)
  time_left_leaves_task a None = refl
  time_left_leaves_task a (Some at) = refl

  get_alarm_leaves_task : (a : ℕ) → HasTaskOf u s (get_alarm app s a)
  unfolding get_alarm
  get_alarm_leaves_task a = time_left_leaves_task a (due (alarm_state s a))

  pub counted_leaves_task : (c : Caller) → task_state (counted_by app s c) u ≡ task_state s u
  unfolding count_up
  counted_leaves_task Nobody = refl
  counted_leaves_task (Task t) = refl
  counted_leaves_task (Routine k) = either_way (λ (r : State). task_state r u ≡ task_state s u) (is_counter app k.0) _ _ refl refl

module _ (app : App) (u : ℕ) where
  acted_leaves_task : (s : State) (x : Action) → u ≢ (acted_on x).0 → HasTaskOf u s (acted app s x)
  acted_leaves_task s (action.ActivateTask t) n = activate_leaves_task app u s t.0 n
  acted_leaves_task s (action.SetEvent t m) n = set_event_leaves_task app u s t.0 m.0 n

  expire_leaves_task : (s : State) (a : ℕ) → u ≢ (acted_on (the_alarm app a).action).0 → HasTaskOf u s (expire app s a)
  unfolding expire
  expire_leaves_task s a n =
      either_way (HasTaskOf u s) (is_due_at (due (alarm_state s a)) (value_of app s a)) _ _ (acted_leaves_task (with_alarm s a (rearmed app a (alarm_state s a))) (the_alarm app a).action n) refl

  -- the task is not the one that is named
  abbrev NotNamed : Option TaskNo → Type 0
  NotNamed o = IfSome o (λ (t : TaskNo). u ≢ t.0)

  module _ (s : State) (c : Caller) (n : NotCaller u c) where
    row_leaves_task : (k : Call) → NotNamed (named_in_call k) → HasTaskOf u s (row app s c k)
    row_leaves_task (call.Task call.ActivateTask t) m = activate_leaves_task app u s t.0 m
    row_leaves_task (call.Plain call.TerminateTask) m = terminate_leaves_task app u s c n
    row_leaves_task (call.Task call.ChainTask t) m = chain_leaves_task app u s c t.0 n m
    row_leaves_task (call.Plain call.Schedule) m = schedule_leaves_task app u s c n
    row_leaves_task (call.Resource call.GetResource r) m = get_resource_leaves_task app u s c r n
    row_leaves_task (call.Resource call.ReleaseResource r) m = release_resource_leaves_task app u s c r n
    row_leaves_task (call.SetEvent t b) m = set_event_leaves_task app u s t.0 b.0 m
    row_leaves_task (call.Mask call.ClearEvent b) m = clear_event_leaves_task app u s c b.0 n
    row_leaves_task (call.Task call.GetEvent t) m = get_event_leaves_task app u s t.0
    row_leaves_task (call.Mask call.WaitEvent b) m = wait_event_leaves_task app u s c b.0 n
    row_leaves_task (call.Arm call.SetRelAlarm a i y) m = set_rel_alarm_leaves_task app u s a.0 i y
    row_leaves_task (call.Arm call.SetAbsAlarm a i y) m = set_abs_alarm_leaves_task app u s a.0 i y
    row_leaves_task (call.Alarm call.CancelAlarm a) m = cancel_alarm_leaves_task app u s a.0
    row_leaves_task (call.Alarm call.GetAlarm a) m = get_alarm_leaves_task app u s a.0
    row_leaves_task (call.Plain call.GetTaskId) m = refl
    row_leaves_task (call.Task call.GetTaskState t) m = refl
    row_leaves_task (call.Plain call.GetActiveApplicationMode) m = refl
    row_leaves_task call.ShutdownOs m = refl
    row_leaves_task (call.Lock l) m = refl

    called_leaves_task : (k : Kind) → NotNamed (named_by app k) → HasTaskOf u s (called app s c k)
    called_leaves_task (kind.Work w) m = refl
    called_leaves_task (kind.Choice o) m = refl
    called_leaves_task kind.Loop m = refl
    called_leaves_task (kind.Call k) m = row_leaves_task k m
    called_leaves_task kind.TaskEnd m = refl
    called_leaves_task kind.IsrEnd m = refl
    called_leaves_task kind.CountUp m = counted_leaves_task app u s c
    called_leaves_task (kind.Expire a) m = expire_leaves_task s a.0 m

  -- the task is not the one that runs or is interrupted
  abbrev NotOwner : Processor → Type 0
  NotOwner p = NotNamed (task_of p)

  owner_calls : (p : Processor) → NotOwner p → NotCaller u (caller p)
  owner_calls processor.Halted n = tt
  owner_calls processor.Idle n = tt
  owner_calls (processor.Running t) n = n
  owner_calls (processor.Interrupted k over) n = tt

  moved_leaves_task : (s : State) (to : Place) (p : Processor) → NotOwner p → task_state (moved_by s p to) u ≡ task_state s u
  moved_leaves_task s to processor.Halted n = refl
  moved_leaves_task s to processor.Idle n = refl
  moved_leaves_task s to (processor.Running t) n = set_other s u t.0 _ n
  moved_leaves_task s to (processor.Interrupted k over) n = refl

  halted_leaves_task : (s : State) (p : Processor) → task_state (halted_by s p) u ≡ task_state s u
  halted_leaves_task s processor.Halted = refl
  halted_leaves_task s processor.Idle = refl
  halted_leaves_task s (processor.Running t) = refl
  halted_leaves_task s (processor.Interrupted k None) = refl
  halted_leaves_task s (processor.Interrupted k (Some t)) = refl

  given_back_leaves_task : (s : State) (over : Option TaskNo) → HasTaskOf u s (given_back app s over)
  given_back_leaves_task s None = refl
  given_back_leaves_task s (Some t) = refl

  returned_to_leaves_task : (s : State) (over : Option TaskNo) (o : Option SourceNo) → HasTaskOf u s (returned_to app s over o)
  returned_to_leaves_task s over None = given_back_leaves_task s over
  returned_to_leaves_task s over (Some k) = refl

  pub returned_leaves_task : (s : State) (p : Processor) → HasTaskOf u s (returned_by app s p)
  returned_leaves_task s processor.Halted = refl
  returned_leaves_task s processor.Idle = refl
  returned_leaves_task s (processor.Running t) = refl
  returned_leaves_task s (processor.Interrupted k over) = let r = with_source s k.0 source.Out in returned_to_leaves_task r over (next_routine app r)

  end_leaves_task : (s : State) (c : Caller) → NotCaller u c → HasTaskOf u s (end_task app s c)
  end_leaves_task s Nobody n = refl
  end_leaves_task s (Routine k) n = refl
  end_leaves_task s (Task t) n = set_other s u t.0 _ n

  on_leaves_task : (s : State) (c : Caller) (b : ℕ) (next : BlockNo) → NotCaller u c → task_state (moved_to s next) u ≡ task_state s u → HasTaskOf u s (goes_on_unless_left next (wait_event app s c b))
  unfolding wait_event
  on_leaves_task s Nobody b next n h = h
  on_leaves_task s (Routine k) b next n h = h
  on_leaves_task s (Task c) b next n h =
      let P : Answer → Type 0 = λ a. HasTaskOf u s (goes_on_unless_left next a) in
      either_way P (not (is_extended app c.0)) _ _ h (either_way P (holds_some s c.0) _ _ h (either_way P (share (task_state s c.0).events.0 b) _ _ h (set_other s u c.0 _ n)))

  module _ (s : State) (n : NotOwner s.processor) where
    at_leaves_task : (choice : Bool) (p : Place) (b : Block) (k : Kind) → NotNamed (named_by app k) → task_state (effect_at app s choice p b k).state u ≡ task_state s u
    at_leaves_task choice p b (kind.Work w) m =
        either_way (HasTaskOf u s) (nat_lt (p.offset + 1) w) _ _ (moved_leaves_task s (place_at p.block (p.offset + 1)) s.processor n) (moved_leaves_task s (place_at b.next 0) s.processor n)
    at_leaves_task choice p b (kind.Choice other) m = moved_leaves_task s (place_at (if choice then b.next else other) 0) s.processor n
    at_leaves_task choice p b (kind.Call (call.Mask call.WaitEvent e)) m =
        on_leaves_task s (caller s.processor) e.0 b.next (owner_calls s.processor n) (moved_leaves_task s (place_at b.next 0) s.processor n)
    at_leaves_task choice p b (kind.Call call.ShutdownOs) m =
        let after = moved_to s b.next in halted_leaves_task after after.processor ∙ moved_leaves_task s (place_at b.next 0) s.processor n
    at_leaves_task choice p b kind.TaskEnd m = end_leaves_task s (caller s.processor) (owner_calls s.processor n)
    at_leaves_task choice p b kind.IsrEnd m = returned_leaves_task s s.processor
    at_leaves_task choice p b k m =
        called_leaves_task (moved_to s b.next) (caller s.processor) (owner_calls s.processor n) k m ∙ moved_leaves_task s (place_at b.next 0) s.processor n

    by_leaves_task : (choice : Bool) (p : Processor) → NotNamed (named_here app s) → task_state (effect_by app s choice p).state u ≡ task_state s u
    by_leaves_task choice processor.Halted m = refl
    by_leaves_task choice processor.Idle m = refl
    by_leaves_task choice (processor.Running t) m = at_leaves_task choice (here s) (the_block app (here s).block.0) (the_block app (here s).block.0).kind m
    by_leaves_task choice (processor.Interrupted k over) m = at_leaves_task choice (here s) (the_block app (here s).block.0) (the_block app (here s).block.0).kind m

  other_of : (o : Option TaskNo) → is_that_task o u ≡ false → NotNamed o
  other_of None e = tt
  other_of (Some t) e = grind (arith, nat_tests)

-- An instruction changes no task but the one that runs or is interrupted, and the one that it names.
pub effect_changes_own : (app : App) (s : State) (choice : Bool) → ChangesOwn app s (effect app s choice).state
unfolding effect
effect_changes_own app s choice u n m =
    by_leaves_task app u s (other_of app u (task_of s.processor) n) choice s.processor (other_of app u (named_here app s) m)
