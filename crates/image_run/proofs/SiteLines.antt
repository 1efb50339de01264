-- An instruction at a site puts at most one more place at the end of the line.
use Rattle.std.proofs.Common.{◌≡◌, ℕ, Bool, true, List, [], ◌∷◌, length, take, refl, ◌∙◌, ap, subst, Some, None, not, ◌||◌, ◌&&◌, nat_lt, nat_eq, arith, ◌++◌}
use Rattle.std.proofs.lemmas.List.{take_all, take_at}
use Rattle.std.specs.declared.option.Option.{Option}
use Rattle.osek_values.specs.{declared.numbers.{BlockNo.{BlockNo}, ResNo.{ResNo}, SourceNo.{SourceNo}, TaskNo.{TaskNo}}, Numbers.{task_no}}
use Rattle.osek_standard.specs.declared.{app.App.{App}, block.{Block.{Block}, Kind.{Kind}}, call.Call.{Call}, task_state.Place.{Place}}
use Rattle.osek_standard.specs.declared.state.{State.{State}, Processor.{Processor}, Caller.{Caller, TheVariants.{Nobody, Task, Routine}}}
use Rattle.osek_standard.specs.{Apps.{call_may_dispatch, is_extended, is_routine_end, is_site, is_task_block, may_dispatch, the_block}, TaskStates.{held, is_suspended}}
use Rattle.osek_standard.specs.{States.{caller, here, task_state, with_source}, Priority.{base_priority, ceiling}}
use Rattle.osek_standard.specs.Services.{Answer, activate_task, chain_task, holds_some, is_full, is_on_top, release_resource, release_resource_by, release_resource_isr, schedule}
use Rattle.osek_standard.specs.Services.{set_event, share, stack_of_source, terminate_task, wait_event, waits_for}
use Rattle.osek_standard.specs.Levels.{interrupt_ceiling, next_routine, own_level}
use Rattle.osek_standard.specs.Effects.{called, effect, effect_at, effect_by, end_task, given_back, goes_on_unless_left, moved_by, moved_to, place_at, returned_by, returned_to}
use Rattle.osek_standard.specs.Effects.{row}
use Rattle.osek_standard.specs.declared.block.Kind.TheVariants as kind
use Rattle.osek_standard.specs.declared.state.Source.TheVariants as source
use Rattle.osek_standard.specs.declared.state.Processor.TheVariants as processor
use Rattle.osek_standard.proofs.BoolLaws.{either_way}
use Rattle.image_model.specs.CallNames as call
use Rattle.image_run.proofs.SiteChanges.{site_kind}

-- the line of a state is a prefix of that of another
abbrev IsPrefix : State → State → Type 0
IsPrefix s r = take (length s.line) r.line ≡ s.line

abbrev Lengthens : State → Answer → Type 0
Lengthens s a = IsPrefix s a.state

whole : (s : State) → IsPrefix s s
whole s = take_all (length s.line) s.line (omega arith)

one_more : (line : List TaskNo) (t : ℕ) → take (length line) (line ++ task_no t ∷ []) ≡ line
one_more line t = take_at line (task_no t ∷ []) (length line) refl

module _ (app : App) (s : State) where
  activate_lengthens : (t : ℕ) → Lengthens s (activate_task app s t)
  unfolding activate_task
  activate_lengthens t = either_way (Lengthens s) (is_full app s t) _ _ (whole s) (one_more s.line t)

  terminate_lengthens : (c : Caller) → Lengthens s (terminate_task app s c)
  unfolding terminate_task
  terminate_lengthens Nobody = whole s
  terminate_lengthens (Routine k) = whole s
  terminate_lengthens (Task c) = either_way (Lengthens s) (holds_some s c.0) _ _ (whole s) (whole s)

  chain_lengthens : (c : Caller) (t : ℕ) → Lengthens s (chain_task app s c t)
  unfolding chain_task
  chain_lengthens Nobody t = whole s
  chain_lengthens (Routine k) t = whole s
  chain_lengthens (Task c) t =
      either_way (Lengthens s) (holds_some s c.0) _ _ (whole s) (either_way (Lengthens s) (not (nat_eq t c.0) && is_full app s t) _ _ (whole s) (one_more s.line t))

  schedule_lengthens : (c : Caller) → Lengthens s (schedule s c)
  unfolding schedule
  schedule_lengthens Nobody = whole s
  schedule_lengthens (Routine k) = whole s
  schedule_lengthens (Task c) = either_way (Lengthens s) (holds_some s c.0) _ _ (whole s) (whole s)

  release_lengthens : (c : Caller) (r : ResNo) → Lengthens s (release_resource_by app s c r)
  unfolding release_resource release_resource_isr
  release_lengthens Nobody r = whole s
  release_lengthens (Routine k) r =
      either_way (Lengthens s) (nat_lt (interrupt_ceiling app r.0) (own_level app k.0)) _ _ (whole s)
      (either_way (Lengthens s) (is_on_top r.0 (stack_of_source app s k.0)) _ _ (whole s) (whole s))
  release_lengthens (Task c) r =
      either_way (Lengthens s) (nat_lt (ceiling app r.0) (base_priority app c.0)) _ _ (whole s) (either_way (Lengthens s) (is_on_top r.0 (held (task_state s c.0))) _ _ (whole s) (whole s))

  set_event_lengthens : (t m : ℕ) → Lengthens s (set_event app s t m)
  unfolding set_event
  set_event_lengthens t m = either_way (Lengthens s) (not (is_extended app t)) _ _ (whole s)
      (either_way (Lengthens s) (is_suspended (task_state s t)) _ _ (whole s) (either_way (Lengthens s) (waits_for app s t m) _ _ (one_more s.line t) (whole s)))

  end_lengthens : (c : Caller) → Lengthens s (end_task app s c)
  end_lengthens Nobody = whole s
  end_lengthens (Routine k) = whole s
  end_lengthens (Task t) = whole s

  wait_lengthens : (c : Caller) (m : ℕ) (next : BlockNo) → IsPrefix s (moved_to s next) → Lengthens s (goes_on_unless_left next (wait_event app s c m))
  unfolding wait_event
  wait_lengthens Nobody m next h = h
  wait_lengthens (Routine k) m next h = h
  wait_lengthens (Task c) m next h =
      let P : Answer → Type 0 = λ a. Lengthens s (goes_on_unless_left next a) in
      either_way P (not (is_extended app c.0)) _ _ h (either_way P (holds_some s c.0) _ _ h (either_way P (share (task_state s c.0).events.0 m) _ _ h (whole s)))

  wait_row_lengthens : (c : Caller) (m : ℕ) → Lengthens s (wait_event app s c m)
  unfolding wait_event
  wait_row_lengthens Nobody m = whole s
  wait_row_lengthens (Routine k) m = whole s
  wait_row_lengthens (Task c) m = either_way (Lengthens s) (not (is_extended app c.0)) _ _ (whole s)
      (either_way (Lengthens s) (holds_some s c.0) _ _ (whole s) (either_way (Lengthens s) (share (task_state s c.0).events.0 m) _ _ (whole s) (whole s)))

  row_lengthens : (c : Caller) (k : Call) → call_may_dispatch k ≡ true → Lengthens s (row app s c k)
  row_lengthens c (call.Task call.ActivateTask t) e = activate_lengthens t.0
  row_lengthens c (call.Plain call.TerminateTask) e = terminate_lengthens c
  row_lengthens c (call.Task call.ChainTask t) e = chain_lengthens c t.0
  row_lengthens c (call.Plain call.Schedule) e = schedule_lengthens c
  row_lengthens c (call.Resource call.GetResource r) e = absurd (cc)
  row_lengthens c (call.Resource call.ReleaseResource r) e = release_lengthens c r
  row_lengthens c (call.SetEvent t m) e = set_event_lengthens t.0 m.0
  row_lengthens c (call.Mask call.ClearEvent m) e = absurd (cc)
  row_lengthens c (call.Task call.GetEvent t) e = absurd (cc)
  row_lengthens c (call.Mask call.WaitEvent m) e = wait_row_lengthens c m.0
  row_lengthens c (call.Arm call.SetRelAlarm a i y) e = absurd (cc)
  row_lengthens c (call.Arm call.SetAbsAlarm a i y) e = absurd (cc)
  row_lengthens c (call.Alarm call.CancelAlarm a) e = absurd (cc)
  row_lengthens c (call.Alarm call.GetAlarm a) e = absurd (cc)
  row_lengthens c (call.Plain call.GetTaskId) e = whole s
  row_lengthens c (call.Task call.GetTaskState t) e = whole s
  row_lengthens c (call.Plain call.GetActiveApplicationMode) e = whole s
  row_lengthens c call.ShutdownOs e = whole s
  row_lengthens c (call.Lock l) e = whole s

  called_lengthens : (c : Caller) (k : Kind) → (is_routine_end k || may_dispatch k) ≡ true → Lengthens s (called app s c k)
  called_lengthens c (kind.Work n) e = whole s
  called_lengthens c (kind.Choice o) e = whole s
  called_lengthens c kind.Loop e = whole s
  called_lengthens c (kind.Call k) e = row_lengthens c k e
  called_lengthens c kind.TaskEnd e = whole s
  called_lengthens c kind.IsrEnd e = whole s
  called_lengthens c kind.CountUp e = absurd (cc)
  called_lengthens c (kind.Expire a) e = absurd (cc)

  given_back_lengthens : (over : Option TaskNo) → Lengthens s (given_back app s over)
  given_back_lengthens None = whole s
  given_back_lengthens (Some t) = whole s

  returned_to_lengthens : (over : Option TaskNo) (next : Option SourceNo) → Lengthens s (returned_to app s over next)
  returned_to_lengthens over None = given_back_lengthens over
  returned_to_lengthens over (Some k) = whole s

moved_line : (s : State) (to : Place) (p : Processor) → (moved_by s p to).line ≡ s.line
moved_line s to processor.Halted = refl
moved_line s to processor.Idle = refl
moved_line s to (processor.Running t) = refl
moved_line s to (processor.Interrupted k over) = refl

-- of a state with the same line
from_same : (s m r : State) → m.line ≡ s.line → IsPrefix m r → IsPrefix s r
from_same s m r e h = subst (λ (l : List TaskNo). take (length l) r.line ≡ l) e h

returned_lengthens : (app : App) (s : State) (p : Processor) → Lengthens s (returned_by app s p)
returned_lengthens app s processor.Halted = whole s
returned_lengthens app s processor.Idle = whole s
returned_lengthens app s (processor.Running t) = whole s
returned_lengthens app s (processor.Interrupted k over) = let r = with_source s k.0 source.Out in returned_to_lengthens app r over (next_routine app r)

module _ (app : App) (s : State) (choice : Bool) where
  moved_on : (next : BlockNo) → IsPrefix s (moved_to s next)
  moved_on next = ap (λ (l : List TaskNo). take (length s.line) l) (moved_line s (place_at next 0) s.processor) ∙ whole s

  at_lengthens : (p : Place) (b : Block) (k : Kind) → (is_routine_end k || may_dispatch k) ≡ true → IsPrefix s (effect_at app s choice p b k).state
  at_lengthens p b (kind.Work n) e = absurd (cc)
  at_lengthens p b (kind.Choice other) e = absurd (cc)
  at_lengthens p b (kind.Call (call.Mask call.WaitEvent m)) e = wait_lengthens app s (caller s.processor) m.0 b.next (moved_on b.next)
  at_lengthens p b (kind.Call call.ShutdownOs) e = absurd (cc)
  at_lengthens p b kind.TaskEnd e = end_lengthens app s (caller s.processor)
  at_lengthens p b kind.IsrEnd e = returned_lengthens app s s.processor
  at_lengthens p b k e =
      let m = moved_to s b.next in
      from_same s m (called app m (caller s.processor) k).state (moved_line s (place_at b.next 0) s.processor) (called_lengthens app m (caller s.processor) k e)

  by_lengthens : is_site app (here s).block.0 ≡ true → (p : Processor) → IsPrefix s (effect_by app s choice p).state
  by_lengthens site processor.Halted = whole s
  by_lengthens site processor.Idle = whole s
  by_lengthens site (processor.Running t) =
      let b = the_block app (here s).block.0 in at_lengthens (here s) b b.kind (site_kind (is_routine_end b.kind) (may_dispatch b.kind) (is_task_block app (here s).block.0) site)
  by_lengthens site (processor.Interrupted k over) =
      let b = the_block app (here s).block.0 in at_lengthens (here s) b b.kind (site_kind (is_routine_end b.kind) (may_dispatch b.kind) (is_task_block app (here s).block.0) site)

  pub site_lengthens : is_site app (here s).block.0 ≡ true → take (length s.line) (effect app s choice).state.line ≡ s.line
  unfolding effect
  site_lengthens site = by_lengthens site s.processor
