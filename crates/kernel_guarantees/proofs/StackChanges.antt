-- By which instructions the stack of a task or a routine changes.
use Rattle.std.proofs.Common.{◌≡◌, ◌⊎◌, ℕ, ◌+◌, Bool, true, false, List, [], ◌∷◌, ◌++◌, nat_lt, refl, sym, ◌∙◌, ap, subst, inl, inr, Some, None}
use Rattle.std.proofs.lemmas.Bool.{cases_Bool}
use Rattle.std.specs.declared.option.Option.{Option}
use Rattle.osek_values.specs.declared.{event.Event.{Event}, numbers.{ResNo.{ResNo}, SourceNo.{SourceNo}, TaskNo.{TaskNo}}}
use Rattle.osek_values.specs.declared.status.Status.TheVariants as status
use Rattle.osek_standard.specs.declared.{app.App.{App}, block.Kind.{Kind}, state.{State.{State}, Source.{Source}, Processor.{Processor}, Caller.{Caller, TheVariants.{Nobody, Routine, Task}}}}
use Rattle.osek_standard.specs.declared.task_state.Place.{Place}
use Rattle.osek_standard.specs.{Apps.{the_block}, TaskStates.{holds}, States.{all_out, caller, held_by_source, here, is_in, is_taken, source_state, task_of, task_state, with_latch, with_processor, with_source, with_task}}
use Rattle.osek_standard.specs.{Internal.{inside_as, internal_of, kept_by, put_inside, with_inside}, Line.{first_in_line, out_of_line}, Levels.{next_routine}, Services.{Answer}}
use Rattle.osek_standard.specs.Effects.{Effect, effect, effect_at, end_task, halted_by, moved_by, place_at, returned_by, returned_to, source_at, task_at}
use Rattle.osek_standard.specs.{Arrivals.{arrival, begun, entered}, Kernel.{step}, Well.{IsActive, Well}}
use Rattle.osek_standard.specs.Dispatch.{Keep, Outcome, Stepped, To, instruction, outcome_of, processor_for, settled}
use Rattle.osek_standard.specs.declared.block.Kind.TheVariants as kind
use Rattle.osek_standard.specs.declared.state.Processor.TheVariants as processor
use Rattle.osek_standard.specs.declared.state.Source.TheVariants as source
use Rattle.std.specs.Prelude.{is_some}
use Rattle.kernel_guarantees.specs.{Holding.{EndsAtShutdown, IsCalledBy, IsCaller, StackBecomes}, Resources.{Holder, Holds, OfRoutine, OfTask, stack_of}, Scheduling.{kind_at}}
use Rattle.kernel_guarantees.proofs.{LastIn.{arrives_out}, HookSteps.{step_notes}, LockedSteps.{effect_of}, Lookups.{each_is_out, put_source}, Onward.{effect_is, onward, onward_caller, onward_well}, Serving.{either_by}, StackSteps.{free_everywhere}}
use Rattle.kernel_guarantees.proofs.StackServices.{activate_keeps, cancel_alarm_keeps, chain_keeps, clear_event_keeps, counted_keeps, ended_or, expire_keeps, get_alarm_keeps, get_event_keeps, inside_stack}
use Rattle.kernel_guarantees.proofs.StackServices.{moved_source_stack, moved_stack, out_or, same_but_source, same_but_task, same_tables, schedule_keeps, set_abs_alarm_keeps, set_event_keeps, set_rel_alarm_keeps}
use Rattle.kernel_guarantees.proofs.StackServices.{terminate_keeps, wait_keeps}
use Rattle.kernel_guarantees.proofs.StackCalls.{gets, gives, refuses, releases, takes}
use Rattle.kernel_guarantees.proofs.CallNames as call

-- a move of the caller, and the dispatch, leave each stack
pub moved_same : (x : Holder) (m : State) (to : Place) (p : Processor) → stack_of (moved_by m p to) x ≡ stack_of m x
moved_same x m to processor.Halted = refl
moved_same x m to processor.Idle = refl
moved_same x m to (processor.Running t) =
    let y = task_state m t.0 in same_but_task x m (with_task m t.0 (task_at y to)) t.0 (task_at y to) (moved_stack to y.activity) refl refl
moved_same x m to (processor.Interrupted k over) =
    let y = source_state m k.0 in same_but_source x m (with_source m k.0 (source_at y to)) k.0 (source_at y to) (moved_source_stack to y) refl refl

module _ (app : App) (x : Holder) where
  inside_same : (m r : State) (t : ℕ) (b : Bool) → r.tasks ≡ (with_inside m t b).tasks → r.sources ≡ m.sources → stack_of r x ≡ stack_of m x
  inside_same m r t b e f = let y = task_state m t in same_but_task x m r t (record y { activity = inside_as b y.activity }) (inside_stack b y.activity) e f

  kept_same : (m : State) (p : Processor) → stack_of (kept_by app m p) x ≡ stack_of m x
  kept_same m processor.Halted = refl
  kept_same m processor.Idle = refl
  kept_same m (processor.Running t) = inside_same m (put_inside app m (Some t)) t.0 (is_some (internal_of app t.0)) refl refl
  kept_same m (processor.Interrupted k over) = refl

  dispatched_same : (m : State) (c o : Option TaskNo) → stack_of (with_processor (put_inside app (out_of_line (first_in_line m c) o) o) (processor_for o)) x ≡ stack_of m x
  dispatched_same m None None = same_tables x m (with_processor m processor.Idle) refl refl
  dispatched_same m (Some u) None = same_tables x m (with_processor (first_in_line m (Some u)) processor.Idle) refl refl
  dispatched_same m None (Some t) = inside_same m (with_processor (put_inside app (out_of_line m (Some t)) (Some t)) (processor.Running t)) t.0 (is_some (internal_of app t.0)) refl refl
  dispatched_same m (Some u) (Some t) =
      inside_same m (with_processor (put_inside app (out_of_line (first_in_line m (Some u)) (Some t)) (Some t)) (processor.Running t)) t.0 (is_some (internal_of app t.0)) refl refl

  settled_same : (m : State) (o : Outcome) → stack_of (settled app m o) x ≡ stack_of m x
  settled_same m Keep = kept_same m m.processor
  settled_same m (To o) = dispatched_same m (task_of m.processor) o

  returned_same : (m : State) (over : Option TaskNo) (o : Option SourceNo) → stack_of (returned_to app m over o).state x ≡ stack_of m x
  returned_same m None None = same_tables x m (with_processor m processor.Idle) refl refl
  returned_same m (Some t) None = same_tables x m (with_processor m (processor.Running t)) refl refl
  returned_same m over (Some j) = same_tables x m (with_processor m (processor.Interrupted j over)) refl refl

  returning : (m : State) (p : Processor) → (stack_of (returned_by app m p).state x ≡ stack_of m x) ⊎ (IsCalledBy (caller p) x × (stack_of (returned_by app m p).state x ≡ []))
  returning m processor.Halted = inl refl
  returning m processor.Idle = inl refl
  returning m (processor.Running t) = inl refl
  returning m (processor.Interrupted k over) =
      let n : State = with_source m k.0 source.Out in
      let o : Option SourceNo = next_routine app n in
      elim (out_or x m k.0) [
        | inl same ↦ inl (returned_same n over o ∙ same)
        | inr h ↦ inr (h.0, returned_same n over o ∙ h.1)
      ]

  ending : (m : State) (c : Caller) → (stack_of (end_task app m c).state x ≡ stack_of m x) ⊎ (IsCalledBy c x × (stack_of (end_task app m c).state x ≡ []))
  ending m Nobody = inl refl
  ending m (Routine k) = inl refl
  ending m (Task c) = ended_or app x m c.0

-- the end of the kernel ends each routine
out_at_end : (x : Holder) (m : State) (over : Option TaskNo)
    → (stack_of (with_processor (all_out (first_in_line m over)) processor.Halted) x ≡ stack_of m x) ⊎ (EndsAtShutdown x × (stack_of (with_processor (all_out (first_in_line m over)) processor.Halted) x ≡ []))
out_at_end (OfTask t) m None = inl refl
out_at_end (OfTask t) m (Some u) = inl refl
out_at_end (OfRoutine l) m over = inr (tt, ap (λ (y : Source). held_by_source y) (each_is_out (first_in_line m over) l))

halting : (x : Holder) (m : State) (p : Processor) → (stack_of (halted_by m p) x ≡ stack_of m x) ⊎ (EndsAtShutdown x × (stack_of (halted_by m p) x ≡ []))
halting x m processor.Halted = inl refl
halting x m processor.Idle = inl (same_tables x m (with_processor m processor.Halted) refl refl)
halting x m (processor.Running t) = inl (same_tables x m (with_processor (first_in_line m (Some t)) processor.Halted) refl refl)
halting x m (processor.Interrupted k over) = out_at_end x m over

-- a routine that begins holds nothing, and held nothing
none_out : (y : Source) → (is_in y ≡ true → ⊥) → [] ≡ held_by_source y
none_out source.Out h = refl
none_out (source.In z) h = absurd (h refl)

entered_same : (app : App) (x : Holder) (s : State) (k : SourceNo) → arrival app s ≡ Some k → stack_of (entered app s k) x ≡ stack_of s x
entered_same app (OfTask t) s k a = refl
entered_same app (OfRoutine l) s k a = put_source (with_latch s k.0 false) k.0 (source.In (begun app k.0)) (λ v z. held_by_source z ≡ held_by_source (source_state s v))
    (none_out (source_state s k.0) (λ inside. arrives_out app s k a k.0 inside refl)) (λ v. refl) l

latched_same : (x : Holder) (s : State) (k : ℕ) → stack_of (with_latch s k true) x ≡ stack_of s x
latched_same x s k = same_tables x s (with_latch s k true) refl refl

pub onward_same : (app : App) (s : State) (x : Holder) → stack_of (onward app s) x ≡ stack_of s x
onward_same app s x = moved_same x s (place_at (the_block app (here s).block.0).next 0) s.processor

-- the stack stays in a step, or becomes what the instruction makes of it
abbrev pub Changes : App → State → Holder → Stepped → Type 0
Changes app s x r = (stack_of r.state x ≡ stack_of s x) ⊎ StackBecomes (caller s.processor) x (kind_at app s) r.notes.status (stack_of s x) (stack_of r.state x)

module _ (app : App) (s : State) (w : Well app s) (active : IsActive s.processor) where
  abbrev n : State
  n = onward app s

  abbrev who : Caller
  who = caller s.processor

  n_same : (x : Holder) → stack_of n x ≡ stack_of s x
  n_same x = onward_same app s x

  module _ (x : Holder) where
    abbrev Becomes : Kind → Effect → Type 0
    Becomes k e = (stack_of e.state x ≡ stack_of s x) ⊎ StackBecomes who x k e.notes.status (stack_of s x) (stack_of e.state x)

    on : (a : State) → stack_of a x ≡ stack_of n x → stack_of a x ≡ stack_of s x
    on a h = h ∙ n_same x

    by_kind : (choice : Bool) (k : Kind) → Becomes k (effect_at app s choice (here s) (the_block app (here s).block.0) k)
    by_kind choice (kind.Work o) = inl (either_by (λ (a : Answer). stack_of a.state x ≡ stack_of s x) (nat_lt ((here s).offset + 1) o) _ _
        (λ _. moved_same x s (place_at (here s).block ((here s).offset + 1)) s.processor) (λ _. n_same x))
    by_kind true (kind.Choice other) = inl (n_same x)
    by_kind false (kind.Choice other) = inl (moved_same x s (place_at other 0) s.processor)
    by_kind choice (kind.Call (call.Mask call.WaitEvent m)) = inl (wait_keeps app x s (the_block app (here s).block.0).next who m.0 (n_same x))
    by_kind choice (kind.Call call.ShutdownOs) = elim (halting x n n.processor) [
      | inl same ↦ inl (on (halted_by n n.processor) same)
      | inr h ↦ inr h
    ]
    by_kind choice kind.TaskEnd = ending app x s who
    by_kind choice kind.IsrEnd = returning app x s s.processor
    by_kind choice kind.Loop = inl (n_same x)
    by_kind choice (kind.Call (call.Task call.ActivateTask t)) = inl (activate_keeps app x n t.0 ∙ n_same x)
    by_kind choice (kind.Call (call.Plain call.TerminateTask)) = inl (terminate_keeps app x n who ∙ n_same x)
    by_kind choice (kind.Call (call.Task call.ChainTask t)) = inl (chain_keeps app x n who t.0 ∙ n_same x)
    by_kind choice (kind.Call (call.Plain call.Schedule)) = inl (schedule_keeps app x n who ∙ n_same x)
    by_kind choice (kind.Call (call.Resource call.GetResource r)) = elim (gets app n (onward_well app s w active) x who r (onward_caller app s)) [
      | inl same ↦ inl (same ∙ n_same x)
      | inr h ↦ inr (h.0, h.1, h.2 ∙ ap (λ (g : List ResNo). g ++ r ∷ []) (n_same x))
    ]
    by_kind choice (kind.Call (call.Resource call.ReleaseResource r)) = elim (releases app n (onward_well app s w active) x who r (onward_caller app s)) [
      | inl same ↦ inl (same ∙ n_same x)
      | inr h ↦ inr (h.0, h.1, sym (n_same x) ∙ h.2)
    ]
    by_kind choice (kind.Call (call.SetEvent t m)) = inl (set_event_keeps app x n t.0 m.0 ∙ n_same x)
    by_kind choice (kind.Call (call.Mask call.ClearEvent m)) = inl (clear_event_keeps app x n who m.0 ∙ n_same x)
    by_kind choice (kind.Call (call.Task call.GetEvent t)) = inl (get_event_keeps app x n t.0 ∙ n_same x)
    by_kind choice (kind.Call (call.Arm call.SetRelAlarm a i c)) = inl (set_rel_alarm_keeps app x n a.0 i c ∙ n_same x)
    by_kind choice (kind.Call (call.Arm call.SetAbsAlarm a i c)) = inl (set_abs_alarm_keeps app x n a.0 i c ∙ n_same x)
    by_kind choice (kind.Call (call.Alarm call.CancelAlarm a)) = inl (cancel_alarm_keeps app x n a.0 ∙ n_same x)
    by_kind choice (kind.Call (call.Alarm call.GetAlarm a)) = inl (get_alarm_keeps app x n a.0 ∙ n_same x)
    by_kind choice (kind.Call (call.Plain call.GetTaskId)) = inl (n_same x)
    by_kind choice (kind.Call (call.Task call.GetTaskState t)) = inl (n_same x)
    by_kind choice (kind.Call (call.Plain call.GetActiveApplicationMode)) = inl (n_same x)
    by_kind choice (kind.Call (call.Lock l)) = inl (n_same x)
    by_kind choice kind.CountUp = inl (counted_keeps app x n who ∙ n_same x)
    by_kind choice (kind.Expire a) = inl (expire_keeps app x n a.0 ∙ n_same x)

    settling : (e : Effect) (o : Outcome) → Becomes (kind_at app s) e
        → (stack_of (settled app e.state o) x ≡ stack_of s x) ⊎ StackBecomes who x (kind_at app s) e.notes.status (stack_of s x) (stack_of (settled app e.state o) x)
    settling e o (inl same) = inl (settled_same app x e.state o ∙ same)
    settling e o (inr h) = inr (subst (λ (g : List ResNo). StackBecomes who x (kind_at app s) e.notes.status (stack_of s x) g) (sym (settled_same app x e.state o)) h)

    pub instruction_changes : (choice : Bool) → Changes app s x (instruction app s choice)
    unfolding instruction
    instruction_changes choice =
        let e = effect app s choice in
        settling e (outcome_of app e) (subst (Becomes (kind_at app s)) (sym (effect_is app s w active choice)) (by_kind choice (kind_at app s)))

    module _ (mine : IsCaller s x) (choice : Bool) (r : ResNo) where
      abbrev Takes : Effect → Type 0
      Takes e = e.notes.status ≡ Some status.Ok → stack_of e.state x ≡ stack_of s x ++ r ∷ []

      abbrev Gives : Effect → Type 0
      Gives e = e.notes.status ≡ Some status.Ok → stack_of s x ≡ stack_of e.state x ++ r ∷ []

      effect_takes : kind_at app s ≡ kind.Call (call.Resource call.GetResource r) → Takes (effect app s choice)
      effect_takes is = subst Takes (sym (effect_of app s choice active (kind.Call (call.Resource call.GetResource r)) is))
          (λ ok. takes app n (onward_well app s w active) x who r (onward_caller app s) mine ok ∙ ap (λ (g : List ResNo). g ++ r ∷ []) (n_same x))

      effect_gives : kind_at app s ≡ kind.Call (call.Resource call.ReleaseResource r) → Gives (effect app s choice)
      effect_gives is = subst Gives (sym (effect_of app s choice active (kind.Call (call.Resource call.ReleaseResource r)) is))
          (λ ok. sym (n_same x) ∙ gives app n (onward_well app s w active) x who r (onward_caller app s) mine ok)

      pub accepted_takes : kind_at app s ≡ kind.Call (call.Resource call.GetResource r) → (instruction app s choice).notes.status ≡ Some status.Ok → stack_of (instruction app s choice).state x ≡ stack_of s x ++ r ∷ []
      unfolding instruction
      accepted_takes is ok = let e = effect app s choice in settled_same app x e.state (outcome_of app e) ∙ effect_takes is ok

      pub accepted_gives : kind_at app s ≡ kind.Call (call.Resource call.ReleaseResource r) → (instruction app s choice).notes.status ≡ Some status.Ok → stack_of s x ≡ stack_of (instruction app s choice).state x ++ r ∷ []
      unfolding instruction
      accepted_gives is ok =
          let e = effect app s choice in effect_gives is ok ∙ ap (λ (g : List ResNo). g ++ r ∷ []) (sym (settled_same app x e.state (outcome_of app e)))

      -- what anyone holds is taken
      held_is_taken : (y : Holder) → Holds s y r.0 → is_taken n r.0 ≡ true
      held_is_taken y h = elim (cases_Bool (is_taken n r.0)) [
        | inl e ↦ e
        | inr e ↦ absurd (free_everywhere n r.0 e y (subst (λ (g : List ResNo). holds g r.0 ≡ true) (sym (n_same y)) h))
      ]

      pub held_is_refused : kind_at app s ≡ kind.Call (call.Resource call.GetResource r) → (y : Holder) → Holds s y r.0 → (instruction app s choice).notes.status ≡ Some status.Access
      unfolding instruction
      held_is_refused is y h = subst (λ (e : Effect). e.notes.status ≡ Some status.Access) (sym (effect_of app s choice active (kind.Call (call.Resource call.GetResource r)) is))
          (refuses app n (onward_well app s w active) x who r mine (held_is_taken y h))

pub step_changes : (app : App) (s : State) (x : Holder) (e : Event) → Well app s → Changes app s x (step app s e)
step_changes app s x e w = step_notes app s (Changes app s x) (inl refl) (λ k. inl (latched_same x s k)) (λ k a. inl (entered_same app x s k a))
    (λ choice active. instruction_changes app s w active x choice) e

-- a task or a routine that calls is active
pub caller_active : (x : Holder) (p : Processor) → IsCalledBy (caller p) x → IsActive p
caller_active x processor.Halted h = absurd h
caller_active x processor.Idle h = absurd h
caller_active x (processor.Running t) h = tt
caller_active x (processor.Interrupted k over) h = tt
