-- What one instruction can do to a state: a move of the caller, and then one of these deeds. What holds after each deed holds after each effect.
use Rattle.std.proofs.Common.{◌≡◌, ℕ, ◌<◌, ◌≤◌, true, false, [], ◌∷◌, ◌++◌, length, take}
use Rattle.std.specs.{Prelude.{bit_and, bit_xor}, declared.option.Option.{Option}}
use Rattle.osek_values.specs.declared.{numbers.{ResNo.{ResNo}, SourceNo.{SourceNo}, TaskNo.{TaskNo}}, status.Ask.{Ask}}
use Rattle.osek_values.specs.declared.status.Ask.TheVariants as ask
use Rattle.osek_standard.specs.declared.{app.App.{App}, state.{State.{State}, AlarmState.{AlarmState}, Caller.{Caller, TheVariants.{Nobody, Task, Routine}}}}
use Rattle.osek_standard.specs.declared.task_state.Activity.TheVariants.{Waiting}
use Rattle.osek_standard.specs.{Apps.{the_block, the_task, is_extended, awaited, is_routine_end, may_dispatch}, TaskStates.{held}, States.{caller, here, is_taken, task_state, with_alarm, with_source, with_task}}
use Rattle.osek_standard.specs.{Priority.{base_priority, ceiling}, Levels.{interrupt_ceiling, next_routine, own_level}, Internal.{with_inside}, Well.{Well}}
use Rattle.osek_standard.specs.Services.{activated, count_up, ended, events_set, holds_some, is_full, left, share, stack_of_source, waits_for, with_events, with_held, with_source_stack, woken}
use Rattle.osek_standard.specs.Effects.{asked_over, halted_by, is_schedule, returned_to}
use Rattle.osek_standard.specs.declared.block.Kind.{Kind}
use Rattle.osek_standard.specs.declared.state.Processor.TheVariants as processor
use Rattle.osek_standard.specs.declared.state.Source.TheVariants as source
use Rattle.kernel_guarantees.specs.{Alarms.{AlarmBecomes, IsCount}, Instructions.{is_end, is_wait, may_activate, may_clear, may_set}, Scheduling.{is_shutdown}}

-- what an accepted service asks that may reschedule, but Schedule
abbrev pub asked_of : App → Caller → Ask
asked_of app Nobody = ask.No
asked_of app (Routine k) = ask.No
asked_of app (Task t) = asked_over (the_task app t.0).schedule

-- Q holds before a deed, where the caller may have moved, and P after it, beside what is asked of the scheduler; `did` is
-- the kind of the instruction
pub record AreDeeds (app : App) (did : Kind) (Q : State → Type 0) (P : State → Ask → Type 0) : Type 0 where
  pub counts : (m : State) (c : ℕ) → Q m → IsCount app m c did → Q (count_up app m c)
  pub arms : (m : State) (a : ℕ) (x : AlarmState) → Q m → AlarmBecomes app m a did x → Q (with_alarm m a x)
  -- nothing more is done
  pub rests : (m : State) → Well app m → Q m → P m ask.No
  pub takes : (m : State) (c : TaskNo) (r : ResNo) → Well app m → Q m → m.processor ≡ processor.Running c → is_taken m r.0 ≡ false → base_priority app c.0 ≤ ceiling app r.0
      → P (with_held m c.0 (held (task_state m c.0) ++ r ∷ [])) ask.No
  pub gives : (m : State) (c : TaskNo) (n : ℕ) → Well app m → Q m → m.processor ≡ processor.Running c → may_dispatch did ≡ true
      → P (with_held m c.0 (take n (held (task_state m c.0)))) (asked_over (the_task app c.0).schedule)
  pub routine_takes : (m : State) (k : SourceNo) (r : ResNo) → Well app m → Q m → caller m.processor ≡ Routine k → is_taken m r.0 ≡ false
      → own_level app k.0 ≤ interrupt_ceiling app r.0 → P (with_source_stack app m k.0 (stack_of_source app m k.0 ++ r ∷ [])) ask.No
  pub routine_gives : (m : State) (k : SourceNo) (n : ℕ) → Well app m → Q m → caller m.processor ≡ Routine k
      → P (with_source_stack app m k.0 (take n (stack_of_source app m k.0))) ask.No
  pub activates : (m : State) (t : ℕ) → Well app m → Q m → t < length app.tasks → is_full app m t ≡ false → may_activate app did t ≡ true → P (activated app m t) (asked_of app (caller m.processor))
  pub wakes : (m : State) (t e : ℕ) → Well app m → Q m → t < length app.tasks → is_extended app t ≡ true → waits_for app m t e ≡ true → may_set app did t e ≡ true
      → P (woken app m t e) (asked_of app (caller m.processor))
  pub sets : (m : State) (t e : ℕ) → Well app m → Q m → t < length app.tasks → waits_for app m t e ≡ false → may_set app did t e ≡ true → P (with_events m t (events_set app m t e)) ask.No
  pub clears : (m : State) (c : TaskNo) (e : ℕ) → Well app m → Q m → m.processor ≡ processor.Running c → may_clear did e ≡ true
      → P (with_events m c.0 (bit_xor (task_state m c.0).events.0 (bit_and (task_state m c.0).events.0 e))) ask.No
  pub ends : (m : State) (c : TaskNo) → Well app m → Q m → m.processor ≡ processor.Running c → is_end did ≡ true → P (left (ended app m c.0)) ask.Left
  pub chains : (m : State) (c : TaskNo) (t : ℕ) → Well app m → Q m → m.processor ≡ processor.Running c → t < length app.tasks
      → is_full app (left (ended app m c.0)) t ≡ false → is_end did ≡ true → may_activate app did t ≡ true → P (activated app (left (ended app m c.0)) t) ask.Left
  pub waits : (m : State) (c : TaskNo) → Well app m → Q m → m.processor ≡ processor.Running c → is_extended app c.0 ≡ true
      → share (task_state m c.0).events.0 (awaited (the_block app (here m).block.0).kind) ≡ false
      → is_wait did ≡ true → P (left (with_task m c.0 (record (task_state m c.0) { activity = Waiting (here m).block }))) ask.Left
  -- Schedule
  pub lets_out : (m : State) (c : TaskNo) → Well app m → Q m → m.processor ≡ processor.Running c → holds_some m c.0 ≡ false → is_schedule did ≡ true → P (with_inside m c.0 false) ask.Maybe
  pub returns : (m : State) (k : SourceNo) (over : Option TaskNo) (o : Option SourceNo) → Well app m → Q m → m.processor ≡ processor.Interrupted k over
      → next_routine app (with_source m k.0 source.Out) ≡ o → is_routine_end did ≡ true
      → P (returned_to app (with_source m k.0 source.Out) over o).state (returned_to app (with_source m k.0 source.Out) over o).ask
  pub halts : (m : State) → Well app m → Q m → is_shutdown did ≡ true → P (halted_by m m.processor) ask.No
