-- An instruction that is no site asks nothing.
use Rattle.std.proofs.Common.{◌≡◌, ℕ, ◌+◌, Bool, true, false, refl, sym, ◌∙◌, ap, subst, Some, None, not, ◌||◌, nat_lt, nat_eq}
use Rattle.std.specs.{Prelude.{if◌then◌else◌}, declared.option.Option.{Option}}
use Rattle.osek_values.specs.declared.{numbers.{ResNo.{ResNo}, BlockNo.{BlockNo}, SourceNo.{SourceNo}}, status.Ask.{Ask}}
use Rattle.osek_values.specs.declared.status.Ask.TheVariants as ask
use Rattle.osek_standard.specs.declared.{app.App.{App}, block.{Block.{Block}, Kind.{Kind}}}
use Rattle.osek_standard.specs.declared.{state.{State.{State}, Processor.{Processor}, Caller.{Caller, TheVariants.{Nobody, Task, Routine}}}, task_state.Place.{Place}}
use Rattle.osek_standard.specs.{Apps.{the_block, is_cycle, is_extended, is_routine_end, is_site, is_task_block, max_of, may_dispatch}, TaskStates.{is_suspended}}
use Rattle.osek_standard.specs.{States.{alarm_state, caller, here, is_taken, task_state}, Priority.{base_priority, ceiling}}
use Rattle.osek_standard.specs.Services.{Answer, cancel_alarm, clear_event, due, expire, get_alarm, get_event, get_resource, get_resource_by, is_due_at, is_idle, set_abs_alarm}
use Rattle.osek_standard.specs.Services.{set_rel_alarm, time_left, value_of, wait_event, get_resource_isr}
use Rattle.osek_standard.specs.{Effects.{asked_by, called, effect, effect_at, effect_by, end_task, goes_on_unless_left, moved_to}, Well.{Well, InOwner, IsActive, IsProcessor}}
use Rattle.osek_standard.specs.Levels.{interrupt_ceiling, own_level}
use Rattle.osek_standard.specs.declared.block.Kind.TheVariants as kind
use Rattle.osek_standard.specs.declared.state.Processor.TheVariants as processor
use Rattle.osek_standard.proofs.{BoolLaws.{either_way}, MoveKeeps.{here_own}}
use Rattle.image_model.specs.CallNames as call
use Rattle.image_run.proofs.Apart.{own_is_task_block}

abbrev AsksNo : Answer → Type 0
AsksNo a = a.ask ≡ ask.No

pub asked_no : (app : App) (c : Caller) (k : Kind) → asked_by app c k ask.No ≡ ask.No
asked_no app Nobody k = refl
asked_no app (Routine r) k = refl
asked_no app (Task t) k = refl

-- who asks nothing is answered so
asks_as_no : (app : App) (c : Caller) (k : Kind) (a : Ask) → a ≡ ask.No → asked_by app c k a ≡ ask.No
asks_as_no app c k a e = ap (asked_by app c k) e ∙ asked_no app c k

module _ (app : App) (s : State) where
  get_resource_no : (c : Caller) (r : ResNo) → AsksNo (get_resource_by app s c r)
  unfolding get_resource get_resource_isr
  get_resource_no Nobody r = refl
  get_resource_no (Routine k) r = either_way AsksNo (is_taken s r.0 || nat_lt (interrupt_ceiling app r.0) (own_level app k.0)) _ _ refl refl
  get_resource_no (Task c) r = either_way AsksNo (is_taken s r.0 || nat_lt (ceiling app r.0) (base_priority app c.0)) _ _ refl refl

  clear_event_no : (c : Caller) (m : ℕ) → AsksNo (clear_event app s c m)
  unfolding clear_event
  clear_event_no Nobody m = refl
  clear_event_no (Routine k) m = refl
  clear_event_no (Task c) m = either_way AsksNo (not (is_extended app c.0)) _ _ refl refl

  get_event_no : (t : ℕ) → AsksNo (get_event app s t)
  unfolding get_event
  get_event_no t = either_way AsksNo (not (is_extended app t)) _ _ refl (either_way AsksNo (is_suspended (task_state s t)) _ _ refl refl)

  set_rel_alarm_no : (a i c : ℕ) → AsksNo (set_rel_alarm app s a i c)
  unfolding set_rel_alarm
  set_rel_alarm_no a i c = either_way AsksNo (not (is_idle (alarm_state s a))) _ _ refl (either_way AsksNo (nat_eq i 0 || nat_lt (max_of app a) i || not (is_cycle app a c)) _ _ refl refl)

  set_abs_alarm_no : (a i c : ℕ) → AsksNo (set_abs_alarm app s a i c)
  unfolding set_abs_alarm
  set_abs_alarm_no a i c = either_way AsksNo (not (is_idle (alarm_state s a))) _ _ refl (either_way AsksNo (nat_lt (max_of app a) i || not (is_cycle app a c)) _ _ refl refl)

  cancel_alarm_no : (a : ℕ) → AsksNo (cancel_alarm app s a)
  unfolding cancel_alarm
  cancel_alarm_no a = either_way AsksNo (is_idle (alarm_state s a)) _ _ refl refl

  time_left_no : (a : ℕ) (o : Option ℕ) → AsksNo (time_left app s a o)
  time_left_no a None = refl
  time_left_no a (Some at) = refl

  get_alarm_no : (a : ℕ) → AsksNo (get_alarm app s a)
  unfolding get_alarm
  get_alarm_no a = time_left_no a (due (alarm_state s a))

  expire_no : (a : ℕ) → AsksNo (expire app s a)
  unfolding expire
  expire_no a = either_way AsksNo (is_due_at (due (alarm_state s a)) (value_of app s a)) _ _ refl refl

-- a call that may not dispatch asks nothing
other_no : (app : App) (s : State) (choice : Bool) (p : Place) (b : Block) (k : Kind) → is_routine_end k ≡ false → may_dispatch k ≡ false → (effect_at app s choice p b k).ask ≡ ask.No
other_no app s choice p b (kind.Work n) e f = either_way AsksNo (nat_lt (p.offset + 1) n) _ _ refl refl
other_no app s choice p b (kind.Choice other) e f = refl
other_no app s choice p b kind.Loop e f = asked_no app (caller s.processor) kind.Loop
other_no app s choice p b (kind.Call (call.Task call.ActivateTask t)) e f = absurd (cc)
other_no app s choice p b (kind.Call (call.Plain call.TerminateTask)) e f = absurd (cc)
other_no app s choice p b (kind.Call (call.Task call.ChainTask t)) e f = absurd (cc)
other_no app s choice p b (kind.Call (call.Plain call.Schedule)) e f = absurd (cc)
other_no app s choice p b (kind.Call (call.Resource call.GetResource r)) e f = asks_as_no app (caller s.processor) _ _ (get_resource_no app (moved_to s b.next) (caller s.processor) r)
other_no app s choice p b (kind.Call (call.Resource call.ReleaseResource r)) e f = absurd (cc)
other_no app s choice p b (kind.Call (call.SetEvent t m)) e f = absurd (cc)
other_no app s choice p b (kind.Call (call.Mask call.ClearEvent m)) e f = asks_as_no app (caller s.processor) _ _ (clear_event_no app (moved_to s b.next) (caller s.processor) m.0)
other_no app s choice p b (kind.Call (call.Task call.GetEvent t)) e f = asks_as_no app (caller s.processor) _ _ (get_event_no app (moved_to s b.next) t.0)
other_no app s choice p b (kind.Call (call.Mask call.WaitEvent m)) e f = absurd (cc)
other_no app s choice p b (kind.Call (call.Arm call.SetRelAlarm a i y)) e f = asks_as_no app (caller s.processor) _ _ (set_rel_alarm_no app (moved_to s b.next) a.0 i y)
other_no app s choice p b (kind.Call (call.Arm call.SetAbsAlarm a i y)) e f = asks_as_no app (caller s.processor) _ _ (set_abs_alarm_no app (moved_to s b.next) a.0 i y)
other_no app s choice p b (kind.Call (call.Alarm call.CancelAlarm a)) e f = asks_as_no app (caller s.processor) _ _ (cancel_alarm_no app (moved_to s b.next) a.0)
other_no app s choice p b (kind.Call (call.Alarm call.GetAlarm a)) e f = asks_as_no app (caller s.processor) _ _ (get_alarm_no app (moved_to s b.next) a.0)
other_no app s choice p b (kind.Call (call.Plain call.GetTaskId)) e f = asked_no app (caller s.processor) (kind.Call (call.Plain call.GetTaskId))
other_no app s choice p b (kind.Call (call.Task call.GetTaskState t)) e f = asked_no app (caller s.processor) (kind.Call (call.Task call.GetTaskState t))
other_no app s choice p b (kind.Call (call.Plain call.GetActiveApplicationMode)) e f = asked_no app (caller s.processor) (kind.Call (call.Plain call.GetActiveApplicationMode))
other_no app s choice p b (kind.Call call.ShutdownOs) e f = refl
other_no app s choice p b (kind.Call (call.Lock l)) e f = asked_no app (caller s.processor) (kind.Call (call.Lock l))
other_no app s choice p b kind.TaskEnd e f = absurd (cc)
other_no app s choice p b kind.IsrEnd e f = absurd (cc)
other_no app s choice p b kind.CountUp e f = asked_no app (caller s.processor) kind.CountUp
other_no app s choice p b (kind.Expire a) e f = asks_as_no app (caller s.processor) _ _ (expire_no app (moved_to s b.next) a.0)

waits_not : (app : App) (s : State) (r : SourceNo) (m : ℕ) (next : BlockNo) → (goes_on_unless_left next (wait_event app s (Routine r) m)).ask ≡ ask.No
unfolding wait_event
waits_not app s r m next = refl

-- at interrupt level an instruction but the end of the routine asks nothing
routine_no : (app : App) (s : State) (r : SourceNo) → caller s.processor ≡ Routine r → (choice : Bool) (p : Place) (b : Block) (k : Kind) → is_routine_end k ≡ false → (effect_at app s choice p b k).ask ≡ ask.No
routine_no app s r c choice p b (kind.Work n) e = either_way AsksNo (nat_lt (p.offset + 1) n) _ _ refl refl
routine_no app s r c choice p b (kind.Choice other) e = refl
routine_no app s r c choice p b (kind.Call (call.Mask call.WaitEvent m)) e = ap (λ (x : Caller). (goes_on_unless_left b.next (wait_event app s x m.0)).ask) c ∙ waits_not app s r m.0 b.next
routine_no app s r c choice p b (kind.Call call.ShutdownOs) e = refl
routine_no app s r c choice p b kind.TaskEnd e = ap (λ (x : Caller). (end_task app s x).ask) c
routine_no app s r c choice p b kind.IsrEnd e = absurd (cc)
routine_no app s r c choice p b k e = ap (λ (x : Caller). asked_by app x k (called app (moved_to s b.next) (caller s.processor) k).ask) c

-- no site: no end of a routine, and it may not dispatch or is no task block
no_site : (end may task : Bool) → (if end then true else if may then task else false) ≡ false → (end ≡ false) × ((if may then task else false) ≡ false)
no_site true may task e = absurd (cc)
no_site false may task e = (refl, e)

task_may : (may task : Bool) → (if may then task else false) ≡ false → task ≡ true → may ≡ false
task_may true task e f = absurd (cc)
task_may false task e f = refl

module _ (app : App) (s : State) (w : Well app s) (choice : Bool) (none : is_site app (here s).block.0 ≡ false) where
  abbrev at : Place
  at = here s

  abbrev here_kind : Kind
  here_kind = (the_block app at.block.0).kind

  asks_none : (p : Processor) → s.processor ≡ p → (effect_by app s choice p).ask ≡ ask.No
  asks_none processor.Halted e = refl
  asks_none processor.Idle e = refl
  asks_none (processor.Running t) e =
      let h = subst (IsProcessor app s) e w.processor in
      let own = subst (λ (p : Processor). InOwner app p at.block.0) e (here_own app s w (subst IsActive (sym e) tt)) in
      let n = no_site (is_routine_end here_kind) (may_dispatch here_kind) (is_task_block app at.block.0) none in
      other_no app s choice at (the_block app at.block.0) here_kind n.0 (task_may (may_dispatch here_kind) (is_task_block app at.block.0) n.1 (own_is_task_block app t.0 at.block.0 h.running.0 own))
  asks_none (processor.Interrupted k over) e =
      routine_no app s k (ap caller e) choice at (the_block app at.block.0) here_kind (no_site (is_routine_end here_kind) (may_dispatch here_kind) (is_task_block app at.block.0) none).0

  pub asks_none_elsewhere : (effect app s choice).ask ≡ ask.No
  unfolding effect
  asks_none_elsewhere = asks_none s.processor refl
