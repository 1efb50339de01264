-- Which calls are refused, and with which status.
use Rattle.std.proofs.Common.{◌≡◌, ℕ, ◌<◌, Bool, true, false, not, ◌||◌, nat_lt, refl, sym, subst, ap, ◌∙◌, Some}
use Rattle.std.proofs.lemmas.Bool.{false≢true, lt-ltb}
use Rattle.osek_values.specs.declared.{mask.Mask.{Mask}, numbers.{ResNo.{ResNo}, SourceNo.{SourceNo}, TaskNo.{TaskNo}}}
use Rattle.osek_values.specs.declared.status.Status.TheVariants as status
use Rattle.osek_standard.specs.declared.{app.App.{App}, block.Kind.{Kind}, state.{State.{State}, Processor.{Processor}, Caller.{Caller, TheVariants.{Nobody, Routine, Task}}}}
use Rattle.osek_standard.specs.{Apps.{is_extended, the_block}, TaskStates.{is_suspended, is_suspended_activity}, States.{caller, here, is_taken, task_state}}
use Rattle.osek_standard.specs.{Priority.{base_priority, ceiling}, Levels.{interrupt_ceiling, own_level}, Well.{IsActive}, Dispatch.{instruction}}
use Rattle.osek_standard.specs.Services.{Answer, activate_task, chain_task, clear_event, get_resource, get_resource_by, get_resource_isr, is_full, schedule, set_event, terminate_task, wait_event, waits_for}
use Rattle.osek_standard.specs.Effects.{Effect, effect_at, moved_by, place_at, standing_at, task_at}
use Rattle.osek_standard.specs.declared.task_state.{Place.{Place}, Activity.{Activity, TheVariants.{Suspended, Live, Waiting}}}
use Rattle.osek_standard.specs.declared.block.Kind.TheVariants as kind
use Rattle.osek_standard.specs.declared.state.Processor.TheVariants as processor
use Rattle.kernel_guarantees.specs.{Holding.{IsCalledBy, IsCaller, is_for_tasks}, Resources.{Holder, ceiling_for, own_rank}, Scheduling.{kind_at}}
use Rattle.kernel_guarantees.proofs.{ClockDeeds.{same_full}, EventReleases.{after}, LockedSteps.{effect_is, effect_of}, Lookups.{put_task}, Serving.{either_by}, StackBars.{went_status}, StackSteps.{or_rest}}
use Rattle.kernel_guarantees.proofs.CallNames as call

-- a move leaves who is suspended
moved_suspended : (to : Place) (a : Activity) → is_suspended_activity (standing_at a to) ≡ is_suspended_activity a
moved_suspended to Suspended = refl
moved_suspended to (Live x) = refl
moved_suspended to (Waiting b) = refl

pub same_suspended : (s : State) (to : Place) (p : Processor) (t : ℕ) → is_suspended (task_state (moved_by s p to) t) ≡ is_suspended (task_state s t)
same_suspended s to processor.Halted t = refl
same_suspended s to processor.Idle t = refl
same_suspended s to (processor.Running c) t = put_task s c.0 (task_at (task_state s c.0) to) (λ v z. is_suspended z ≡ is_suspended (task_state s v))
    (moved_suspended to (task_state s c.0).activity) (λ v. refl) t
same_suspended s to (processor.Interrupted k over) t = refl

module _ (app : App) (m : State) where
  abbrev Says : Answer → Type 0
  Says a = a.status ≡ Some status.Access

  -- a resource whose ceiling is under who calls
  above_refused : (x : Holder) (c : Caller) (r : ResNo) → IsCalledBy c x → ceiling_for app x r.0 < own_rank app x → Says (get_resource_by app m c r)
  unfolding get_resource get_resource_isr
  above_refused x Nobody r is above = absurd is
  above_refused x (Routine k) r is above =
      let low : nat_lt (interrupt_ceiling app r.0) (own_level app k.0) ≡ true = lt-ltb (interrupt_ceiling app r.0) (own_level app k.0) (subst (λ (z : Holder). ceiling_for app z r.0 < own_rank app z) is above) in
      either_by Says (is_taken m r.0 || nat_lt (interrupt_ceiling app r.0) (own_level app k.0)) _ _ (λ _. refl)
      (λ f. absurd (false≢true (sym f ∙ or_rest (is_taken m r.0) (nat_lt (interrupt_ceiling app r.0) (own_level app k.0)) low)))
  above_refused x (Task c) r is above =
      let low : nat_lt (ceiling app r.0) (base_priority app c.0) ≡ true = lt-ltb (ceiling app r.0) (base_priority app c.0) (subst (λ (z : Holder). ceiling_for app z r.0 < own_rank app z) is above) in
      either_by Says (is_taken m r.0 || nat_lt (ceiling app r.0) (base_priority app c.0)) _ _ (λ _. refl)
      (λ f. absurd (false≢true (sym f ∙ or_rest (is_taken m r.0) (nat_lt (ceiling app r.0) (base_priority app c.0)) low)))

  room_taken : (t : ℕ) → is_full app m t ≡ false → (activate_task app m t).status ≡ Some status.Ok
  unfolding activate_task
  room_taken t free = either_by (λ (a : Answer). a.status ≡ Some status.Ok) (is_full app m t) _ _ (λ full. absurd (false≢true (sym free ∙ full))) (λ _. refl)

  full_refused : (t : ℕ) → is_full app m t ≡ true → (activate_task app m t).status ≡ Some status.Limit
  unfolding activate_task
  full_refused t full = either_by (λ (a : Answer). a.status ≡ Some status.Limit) (is_full app m t) _ _ (λ _. refl) (λ free. absurd (false≢true (sym free ∙ full)))

  pub event_taken : (t e : ℕ) → is_extended app t ≡ true → is_suspended (task_state m t) ≡ false → (set_event app m t e).status ≡ Some status.Ok
  unfolding set_event
  event_taken t e ext on =
      let D : Answer → Type 0 = λ a. a.status ≡ Some status.Ok in
      either_by D (not (is_extended app t)) _ _ (λ no. absurd (false≢true (sym (ap not ext) ∙ no))) (λ _. either_by D (is_suspended (task_state m t)) _ _ (λ off. absurd (false≢true (sym on ∙ off)))
      (λ _. either_by D (waits_for app m t e) _ _ (λ _. refl) (λ _. refl)))

  -- a routine that calls a service of tasks
  terminate_level : (k : SourceNo) → (terminate_task app m (Routine k)).status ≡ Some status.CallLevel
  unfolding terminate_task
  terminate_level k = refl

  chain_level : (k : SourceNo) (t : ℕ) → (chain_task app m (Routine k) t).status ≡ Some status.CallLevel
  unfolding chain_task
  chain_level k t = refl

  schedule_level : (k : SourceNo) → (schedule m (Routine k)).status ≡ Some status.CallLevel
  unfolding schedule
  schedule_level k = refl

  clear_level : (k : SourceNo) (e : ℕ) → (clear_event app m (Routine k) e).status ≡ Some status.CallLevel
  unfolding clear_event
  clear_level k e = refl

  wait_level : (k : SourceNo) (e : ℕ) → (wait_event app m (Routine k) e).status ≡ Some status.CallLevel
  unfolding wait_event
  wait_level k e = refl

module _ (app : App) (s : State) (choice : Bool) (active : IsActive s.processor) where
  abbrev n : State
  n = after app s

  abbrev to : Place
  to = place_at (the_block app (here s).block.0).next 0

  pub access_above_is_refused : (x : Holder) (r : ResNo) → IsCaller s x → kind_at app s ≡ kind.Call (call.Resource call.GetResource r) → ceiling_for app x r.0 < own_rank app x → (instruction app s choice).notes.status ≡ Some status.Access
  unfolding instruction
  access_above_is_refused x r mine is above = subst (λ (e : Effect). e.notes.status ≡ Some status.Access) (sym (effect_of app s choice active (kind.Call (call.Resource call.GetResource r)) is)) (above_refused app n x (caller s.processor) r mine above)

  module _ (t : TaskNo) (is : kind_at app s ≡ kind.Call (call.Task call.ActivateTask t)) where
    pub activation_is_taken : is_full app s t.0 ≡ false → (instruction app s choice).notes.status ≡ Some status.Ok
    unfolding instruction
    activation_is_taken free = subst (λ (e : Effect). e.notes.status ≡ Some status.Ok) (sym (effect_of app s choice active (kind.Call (call.Task call.ActivateTask t)) is)) (room_taken app n t.0 (same_full app s to s.processor t.0 ∙ free))

    pub activation_is_refused : is_full app s t.0 ≡ true → (instruction app s choice).notes.status ≡ Some status.Limit
    unfolding instruction
    activation_is_refused full = subst (λ (e : Effect). e.notes.status ≡ Some status.Limit) (sym (effect_of app s choice active (kind.Call (call.Task call.ActivateTask t)) is)) (full_refused app n t.0 (same_full app s to s.processor t.0 ∙ full))

  pub event_is_taken : (t : TaskNo) (e : Mask) → kind_at app s ≡ kind.Call (call.SetEvent t e) → is_extended app t.0 ≡ true → is_suspended (task_state s t.0) ≡ false → (instruction app s choice).notes.status ≡ Some status.Ok
  unfolding instruction
  event_is_taken t e is ext on = subst (λ (x : Effect). x.notes.status ≡ Some status.Ok) (sym (effect_of app s choice active (kind.Call (call.SetEvent t e)) is)) (event_taken app n t.0 e.0 ext (same_suspended s to s.processor t.0 ∙ on))

  abbrev HasLevel : Effect → Type 0
  HasLevel e = e.notes.status ≡ Some status.CallLevel

  module _ (l : SourceNo) (calls : caller s.processor ≡ Routine l) where
    level_by : (k : Kind) → is_for_tasks k ≡ true → HasLevel (effect_at app s choice (here s) (the_block app (here s).block.0) k)
    level_by (kind.Call (call.Plain call.TerminateTask)) e = subst (λ (c : Caller). (terminate_task app n c).status ≡ Some status.CallLevel) (sym calls) (terminate_level app n l)
    level_by (kind.Call (call.Plain call.Schedule)) e = subst (λ (c : Caller). (schedule n c).status ≡ Some status.CallLevel) (sym calls) (schedule_level app n l)
    level_by (kind.Call (call.Task call.ChainTask t)) e = subst (λ (c : Caller). (chain_task app n c t.0).status ≡ Some status.CallLevel) (sym calls) (chain_level app n l t.0)
    level_by (kind.Call (call.Mask call.ClearEvent m)) e = subst (λ (c : Caller). (clear_event app n c m.0).status ≡ Some status.CallLevel) (sym calls) (clear_level app n l m.0)
    level_by (kind.Call (call.Mask call.WaitEvent m)) e =
        let a : Answer = wait_event app s (caller s.processor) m.0 in
        went_status a.ask (the_block app (here s).block.0).next a ∙ subst (λ (c : Caller). (wait_event app s c m.0).status ≡ Some status.CallLevel) (sym calls) (wait_level app s l m.0)
    level_by k e = absurd (false≢true e)

    pub routine_is_refused : is_for_tasks (kind_at app s) ≡ true → (instruction app s choice).notes.status ≡ Some status.CallLevel
    unfolding instruction
    routine_is_refused e = subst HasLevel (sym (effect_is app s choice active)) (level_by (kind_at app s) e)
