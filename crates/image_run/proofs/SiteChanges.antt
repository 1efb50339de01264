-- An instruction at a site leaves the mode, the counters, the alarms and the latches as they are.
use Rattle.std.proofs.Common.{◌≡◌, ℕ, Bool, true, false, List, refl, ◌∙◌, Some, None, not, ◌||◌, ◌&&◌, nat_lt, nat_eq}
use Rattle.std.specs.{Prelude.{if◌then◌else◌}, declared.option.Option.{Option}}
use Rattle.osek_values.specs.declared.numbers.{BlockNo.{BlockNo}, ModeNo.{ModeNo}, ResNo.{ResNo}, TaskNo.{TaskNo}, SourceNo.{SourceNo}}
use Rattle.osek_standard.specs.declared.{app.App.{App}, block.{Block.{Block}, Kind.{Kind}}, call.Call.{Call}}
use Rattle.osek_standard.specs.declared.state.{State.{State}, AlarmState.{AlarmState}, Processor.{Processor}, Caller.{Caller, TheVariants.{Nobody, Task, Routine}}}
use Rattle.osek_standard.specs.declared.task_state.Place.{Place}
use Rattle.osek_standard.specs.{Apps.{call_may_dispatch, is_extended, is_routine_end, is_site, is_task_block, may_dispatch, the_block}, TaskStates.{held, is_suspended}}
use Rattle.osek_standard.specs.{States.{caller, here, task_state, with_source}, Priority.{base_priority, ceiling}}
use Rattle.osek_standard.specs.Services.{Answer, activate_task, chain_task, holds_some, is_full, is_on_top, release_resource, release_resource_by, schedule, set_event, share}
use Rattle.osek_standard.specs.Services.{terminate_task, wait_event, waits_for, release_resource_isr, stack_of_source}
use Rattle.osek_standard.specs.Effects.{called, effect, effect_at, effect_by, end_task, given_back, goes_on_unless_left, moved_by, moved_to, place_at, returned_by, row}
use Rattle.osek_standard.specs.Effects.{returned_to}
use Rattle.osek_standard.specs.Levels.{interrupt_ceiling, next_routine, own_level}
use Rattle.osek_standard.specs.declared.block.Kind.TheVariants as kind
use Rattle.osek_standard.specs.declared.state.Source.TheVariants as source
use Rattle.osek_standard.specs.declared.state.Processor.TheVariants as processor
use Rattle.osek_standard.proofs.BoolLaws.{either_way}
use Rattle.image_model.specs.CallNames as call

-- the parts of a state that no dispatch is about
abbrev pub rest : State → ModeNo × (List ℕ × (List AlarmState × List Bool))
rest s = (s.mode, (s.counters, (s.alarms, s.latched)))

abbrev HasRestOf : State → Answer → Type 0
HasRestOf s a = rest a.state ≡ rest s

module _ (app : App) (s : State) where
  activate_keeps_rest : (t : ℕ) → HasRestOf s (activate_task app s t)
  unfolding activate_task
  activate_keeps_rest t = either_way (HasRestOf s) (is_full app s t) _ _ refl refl

  terminate_keeps_rest : (c : Caller) → HasRestOf s (terminate_task app s c)
  unfolding terminate_task
  terminate_keeps_rest Nobody = refl
  terminate_keeps_rest (Routine k) = refl
  terminate_keeps_rest (Task c) = either_way (HasRestOf s) (holds_some s c.0) _ _ refl refl

  chain_keeps_rest : (c : Caller) (t : ℕ) → HasRestOf s (chain_task app s c t)
  unfolding chain_task
  chain_keeps_rest Nobody t = refl
  chain_keeps_rest (Routine k) t = refl
  chain_keeps_rest (Task c) t = either_way (HasRestOf s) (holds_some s c.0) _ _ refl (either_way (HasRestOf s) (not (nat_eq t c.0) && is_full app s t) _ _ refl refl)

  schedule_keeps_rest : (c : Caller) → HasRestOf s (schedule s c)
  unfolding schedule
  schedule_keeps_rest Nobody = refl
  schedule_keeps_rest (Routine k) = refl
  schedule_keeps_rest (Task c) = either_way (HasRestOf s) (holds_some s c.0) _ _ refl refl

  release_keeps_rest : (c : Caller) (r : ResNo) → HasRestOf s (release_resource_by app s c r)
  unfolding release_resource release_resource_isr
  release_keeps_rest Nobody r = refl
  release_keeps_rest (Routine k) r =
      either_way (HasRestOf s) (nat_lt (interrupt_ceiling app r.0) (own_level app k.0)) _ _ refl (either_way (HasRestOf s) (is_on_top r.0 (stack_of_source app s k.0)) _ _ refl refl)
  release_keeps_rest (Task c) r = either_way (HasRestOf s) (nat_lt (ceiling app r.0) (base_priority app c.0)) _ _ refl (either_way (HasRestOf s) (is_on_top r.0 (held (task_state s c.0))) _ _ refl refl)

  set_event_keeps_rest : (t m : ℕ) → HasRestOf s (set_event app s t m)
  unfolding set_event
  set_event_keeps_rest t m = either_way (HasRestOf s) (not (is_extended app t)) _ _ refl (either_way (HasRestOf s) (is_suspended (task_state s t)) _ _ refl (either_way (HasRestOf s) (waits_for app s t m) _ _ refl refl))

  end_keeps_rest : (c : Caller) → HasRestOf s (end_task app s c)
  end_keeps_rest Nobody = refl
  end_keeps_rest (Routine k) = refl
  end_keeps_rest (Task t) = refl

  wait_keeps_rest : (c : Caller) (m : ℕ) (next : BlockNo) → rest (moved_to s next) ≡ rest s → HasRestOf s (goes_on_unless_left next (wait_event app s c m))
  unfolding wait_event
  wait_keeps_rest Nobody m next h = h
  wait_keeps_rest (Routine k) m next h = h
  wait_keeps_rest (Task c) m next h =
      let P : Answer → Type 0 = λ a. HasRestOf s (goes_on_unless_left next a) in
      either_way P (not (is_extended app c.0)) _ _ h (either_way P (holds_some s c.0) _ _ h (either_way P (share (task_state s c.0).events.0 m) _ _ h refl))

  wait_row_keeps_rest : (c : Caller) (m : ℕ) → HasRestOf s (wait_event app s c m)
  unfolding wait_event
  wait_row_keeps_rest Nobody m = refl
  wait_row_keeps_rest (Routine k) m = refl
  wait_row_keeps_rest (Task c) m =
      either_way (HasRestOf s) (not (is_extended app c.0)) _ _ refl (either_way (HasRestOf s) (holds_some s c.0) _ _ refl (either_way (HasRestOf s) (share (task_state s c.0).events.0 m) _ _ refl refl))

  row_keeps_rest : (c : Caller) (k : Call) → call_may_dispatch k ≡ true → HasRestOf s (row app s c k)
  row_keeps_rest c (call.Task call.ActivateTask t) e = activate_keeps_rest t.0
  row_keeps_rest c (call.Plain call.TerminateTask) e = terminate_keeps_rest c
  row_keeps_rest c (call.Task call.ChainTask t) e = chain_keeps_rest c t.0
  row_keeps_rest c (call.Plain call.Schedule) e = schedule_keeps_rest c
  row_keeps_rest c (call.Resource call.GetResource r) e = absurd (cc)
  row_keeps_rest c (call.Resource call.ReleaseResource r) e = release_keeps_rest c r
  row_keeps_rest c (call.SetEvent t m) e = set_event_keeps_rest t.0 m.0
  row_keeps_rest c (call.Mask call.ClearEvent m) e = absurd (cc)
  row_keeps_rest c (call.Task call.GetEvent t) e = absurd (cc)
  row_keeps_rest c (call.Mask call.WaitEvent m) e = wait_row_keeps_rest c m.0
  row_keeps_rest c (call.Arm call.SetRelAlarm a i y) e = absurd (cc)
  row_keeps_rest c (call.Arm call.SetAbsAlarm a i y) e = absurd (cc)
  row_keeps_rest c (call.Alarm call.CancelAlarm a) e = absurd (cc)
  row_keeps_rest c (call.Alarm call.GetAlarm a) e = absurd (cc)
  row_keeps_rest c (call.Plain call.GetTaskId) e = refl
  row_keeps_rest c (call.Task call.GetTaskState t) e = refl
  row_keeps_rest c (call.Plain call.GetActiveApplicationMode) e = refl
  row_keeps_rest c call.ShutdownOs e = refl
  row_keeps_rest c (call.Lock l) e = refl

  called_keeps_rest : (c : Caller) (k : Kind) → (is_routine_end k || may_dispatch k) ≡ true → HasRestOf s (called app s c k)
  called_keeps_rest c (kind.Work n) e = refl
  called_keeps_rest c (kind.Choice o) e = refl
  called_keeps_rest c kind.Loop e = refl
  called_keeps_rest c (kind.Call k) e = row_keeps_rest c k e
  called_keeps_rest c kind.TaskEnd e = refl
  called_keeps_rest c kind.IsrEnd e = refl
  called_keeps_rest c kind.CountUp e = absurd (cc)
  called_keeps_rest c (kind.Expire a) e = absurd (cc)

moved_keeps_rest : (s : State) (to : Place) (p : Processor) → rest (moved_by s p to) ≡ rest s
moved_keeps_rest s to processor.Halted = refl
moved_keeps_rest s to processor.Idle = refl
moved_keeps_rest s to (processor.Running t) = refl
moved_keeps_rest s to (processor.Interrupted k over) = refl

given_back_keeps_rest : (app : App) (s : State) (over : Option TaskNo) → rest (given_back app s over).state ≡ rest s
given_back_keeps_rest app s None = refl
given_back_keeps_rest app s (Some t) = refl

returned_to_keeps_rest : (app : App) (s : State) (over : Option TaskNo) (next : Option SourceNo) → rest (returned_to app s over next).state ≡ rest s
returned_to_keeps_rest app s over None = given_back_keeps_rest app s over
returned_to_keeps_rest app s over (Some k) = refl

returned_keeps_rest : (app : App) (s : State) (p : Processor) → rest (returned_by app s p).state ≡ rest s
returned_keeps_rest app s processor.Halted = refl
returned_keeps_rest app s processor.Idle = refl
returned_keeps_rest app s (processor.Running t) = refl
returned_keeps_rest app s (processor.Interrupted k over) = let r = with_source s k.0 source.Out in returned_to_keeps_rest app r over (next_routine app r)

pub site_kind : (end may task : Bool) → (if end then true else if may then task else false) ≡ true → (end || may) ≡ true
site_kind true may task e = refl
site_kind false true task e = refl
site_kind false false task e = e

module _ (app : App) (s : State) (choice : Bool) where
  at_keeps_rest : (p : Place) (b : Block) (k : Kind) → (is_routine_end k || may_dispatch k) ≡ true → rest (effect_at app s choice p b k).state ≡ rest s
  at_keeps_rest p b (kind.Work n) e = absurd (cc)
  at_keeps_rest p b (kind.Choice other) e = absurd (cc)
  at_keeps_rest p b (kind.Call (call.Mask call.WaitEvent m)) e = wait_keeps_rest app s (caller s.processor) m.0 b.next (moved_keeps_rest s (place_at b.next 0) s.processor)
  at_keeps_rest p b (kind.Call call.ShutdownOs) e = absurd (cc)
  at_keeps_rest p b kind.TaskEnd e = end_keeps_rest app s (caller s.processor)
  at_keeps_rest p b kind.IsrEnd e = returned_keeps_rest app s s.processor
  at_keeps_rest p b k e = called_keeps_rest app (moved_to s b.next) (caller s.processor) k e ∙ moved_keeps_rest s (place_at b.next 0) s.processor

  by_keeps_rest : is_site app (here s).block.0 ≡ true → (p : Processor) → rest (effect_by app s choice p).state ≡ rest s
  by_keeps_rest site processor.Halted = refl
  by_keeps_rest site processor.Idle = refl
  by_keeps_rest site (processor.Running t) =
      let b = the_block app (here s).block.0 in at_keeps_rest (here s) b b.kind (site_kind (is_routine_end b.kind) (may_dispatch b.kind) (is_task_block app (here s).block.0) site)
  by_keeps_rest site (processor.Interrupted k over) =
      let b = the_block app (here s).block.0 in at_keeps_rest (here s) b b.kind (site_kind (is_routine_end b.kind) (may_dispatch b.kind) (is_task_block app (here s).block.0) site)

  pub site_keeps_rest : is_site app (here s).block.0 ≡ true → rest (effect app s choice).state ≡ rest s
  unfolding effect
  site_keeps_rest site = by_keeps_rest site s.processor
