-- The effect of an instruction keeps a state well-formed.
use Rattle.std.proofs.{Common.{◌≡◌, ℕ, ◌+◌, ◌<◌, Bool, true, false, refl, sym, ap, subst, inl, inr, arith, nat_lt}, lemmas.Bool.{cases_Bool, Decides.{nat_tests}}}
use Rattle.osek_values.specs.declared.{numbers.{BlockNo.{BlockNo}, SourceNo.{SourceNo}}, mask.Mask.{Mask}}
use Rattle.osek_standard.specs.declared.{app.App.{App}, block.Kind.{Kind}, state.{State.{State}, Processor.{Processor}, Caller.{Caller}}, task_state.Place.{Place}}
use Rattle.osek_standard.specs.declared.call.Call.{Call}
use Rattle.osek_standard.specs.{Validity.{NamesEntries}, Apps.{tables, the_block, is_counter}, States.{caller, here, IfRoutine}}
use Rattle.osek_standard.specs.{Effects.{effect, effect_by, effect_at, moved_to, place_at}, Well.{Well, InOwner, IsActive, IsOffsetAt, IsTaskLevel, IsWaitEvent}}
use Rattle.osek_standard.specs.CallNames as call
use Rattle.osek_standard.specs.declared.block.Kind.TheVariants as kind
use Rattle.osek_standard.specs.declared.state.Processor.TheVariants as processor
use Rattle.osek_standard.proofs.Callers.{IfTask, BlockHere, block_here, calls, caller_owns, enters, known_caller, moved_processor, IsAtProcessor, at_processor, isr_calls}
use Rattle.osek_standard.proofs.{ActivationKeeps.{activate_keeps}, MoveKeeps.{here_own, moved_keeps}}
use Rattle.osek_standard.proofs.{TaskServiceKeeps.{terminate_keeps, chain_keeps, schedule_keeps, end_task_keeps}, ResourceKeeps.{get_resource_by_keeps, release_resource_by_keeps}}
use Rattle.osek_standard.proofs.EventKeeps.{set_event_keeps, clear_event_keeps, get_event_keeps, wait_or_on_keeps}
use Rattle.osek_standard.proofs.AlarmKeeps.{set_rel_alarm_keeps, set_abs_alarm_keeps, cancel_alarm_keeps, get_alarm_keeps, expire_keeps, counted_by_keeps}
use Rattle.osek_standard.proofs.RoutineKeeps.{returned_keeps, halted_keeps}

module _ (app : App) (s : State) (w : Well app s) where
  -- the caller goes on to a block of its owner
  pub moved_to_keeps : (b : BlockNo) → InOwner app s.processor b.0 → Well app (moved_to s b)
  moved_to_keeps b own = moved_keeps app s w (place_at b 0) own (enters app s w b.0 own)

  offset_at : (b o n : ℕ) → (the_block app b).kind ≡ kind.Work n → o < n → IsOffsetAt (the_block app b).kind o
  offset_at b o n e h = subst (λ (k : Kind). IsOffsetAt k o) (sym e) h

  wait_at : (b : ℕ) (m : Mask) → (the_block app b).kind ≡ kind.Call (call.Mask call.WaitEvent m) → IsWaitEvent (the_block app b).kind
  wait_at b m e = subst IsWaitEvent (sym e) tt

  module _ (active : IsActive s.processor) where
    abbrev at : Place
    at = here s

    own : InOwner app s.processor at.block.0
    own = here_own app s w active

    block : BlockHere app s.processor at.block.0
    block = block_here app s s.processor at.block.0 w.processor own

    abbrev after : State
    after = moved_to s (the_block app at.block.0).next

    after_well : Well app after
    after_well = moved_to_keeps (the_block app at.block.0).next block.next

    abbrev by : Caller
    by = caller s.processor

    same_caller : caller after.processor ≡ by
    same_caller = ap caller (moved_processor s (place_at (the_block app at.block.0).next 0) s.processor)

    -- the caller still calls once it went on
    after_calls : IfTask by (IsTaskLevel app after)
    after_calls = subst (λ (c : Caller). IfTask c (IsTaskLevel app after)) same_caller (calls app after after_well)

    after_at : IsAtProcessor after by
    after_at = subst (IsAtProcessor after) same_caller (at_processor after)

    isr : (c : Call) → (the_block app at.block.0).kind ≡ kind.Call c → IfRoutine by (λ (k : SourceNo). is_counter app k.0 ≡ false)
    isr c e = isr_calls app s.processor at.block.0 c own e

    operands_of : (k : Kind) → (the_block app at.block.0).kind ≡ k → NamesEntries (tables app) k
    operands_of k e = subst (NamesEntries (tables app)) e block.operands

    effect_at_keeps : (choice : Bool) (k : Kind) → (the_block app at.block.0).kind ≡ k → Well app (effect_at app s choice at (the_block app at.block.0) k).state
    effect_at_keeps choice (kind.Work n) e = elim (cases_Bool (nat_lt (at.offset + 1) n)) [
      | inl f ↦ (let below : at.offset + 1 < n = grind (arith, nat_tests) in
          rw f (moved_keeps app s w (place_at at.block (at.offset + 1)) own (offset_at at.block.0 (at.offset + 1) n e below)))
      | inr f ↦ (rw f after_well)
    ]
    effect_at_keeps true (kind.Choice other) e = after_well
    effect_at_keeps false (kind.Choice other) e = moved_to_keeps other (block.other other e)
    effect_at_keeps choice (kind.Call (call.Mask call.WaitEvent m)) e =
        wait_or_on_keeps app s by w (at_processor s) (caller_owns app at.block.0 s.processor own) (wait_at at.block.0 m e) m.0 (the_block app at.block.0).next after_well
    effect_at_keeps choice (kind.Call call.ShutdownOs) e = halted_keeps app after after_well
    effect_at_keeps choice kind.TaskEnd e = end_task_keeps app s by w (at_processor s)
    effect_at_keeps choice kind.IsrEnd e = returned_keeps app s w
    effect_at_keeps choice kind.Loop e = after_well
    effect_at_keeps choice (kind.Call (call.Task call.ActivateTask t)) e = activate_keeps app after t.0 after_well (operands_of _ e)
    effect_at_keeps choice (kind.Call (call.Plain call.TerminateTask)) e = terminate_keeps app after by after_well after_at
    effect_at_keeps choice (kind.Call (call.Task call.ChainTask t)) e = chain_keeps app after by t.0 after_well after_at (operands_of _ e)
    effect_at_keeps choice (kind.Call (call.Plain call.Schedule)) e = schedule_keeps app after by after_well after_at
    effect_at_keeps choice (kind.Call (call.Resource call.GetResource r)) e = get_resource_by_keeps app after by r after_well after_at (isr _ e) (operands_of _ e)
    effect_at_keeps choice (kind.Call (call.Resource call.ReleaseResource r)) e = release_resource_by_keeps app after by r after_well after_at (isr _ e)
    effect_at_keeps choice (kind.Call (call.SetEvent t m)) e = set_event_keeps app after t.0 m.0 after_well (operands_of _ e).0
    effect_at_keeps choice (kind.Call (call.Mask call.ClearEvent m)) e = clear_event_keeps app after by m.0 after_well (known_caller app after by after_calls)
    effect_at_keeps choice (kind.Call (call.Task call.GetEvent t)) e = get_event_keeps app after t.0 after_well
    effect_at_keeps choice (kind.Call (call.Arm call.SetRelAlarm a i c)) e = set_rel_alarm_keeps app after a.0 i c after_well (operands_of _ e)
    effect_at_keeps choice (kind.Call (call.Arm call.SetAbsAlarm a i c)) e = set_abs_alarm_keeps app after a.0 i c after_well (operands_of _ e)
    effect_at_keeps choice (kind.Call (call.Alarm call.CancelAlarm a)) e = cancel_alarm_keeps app after a.0 after_well (operands_of _ e)
    effect_at_keeps choice (kind.Call (call.Alarm call.GetAlarm a)) e = get_alarm_keeps app after a.0 after_well
    effect_at_keeps choice (kind.Call (call.Plain call.GetTaskId)) e = after_well
    effect_at_keeps choice (kind.Call (call.Task call.GetTaskState t)) e = after_well
    effect_at_keeps choice (kind.Call (call.Plain call.GetActiveApplicationMode)) e = after_well
    effect_at_keeps choice (kind.Call (call.Lock l)) e = after_well
    effect_at_keeps choice kind.CountUp e = counted_by_keeps app after by after_well
    effect_at_keeps choice (kind.Expire a) e = expire_keeps app after a.0 after_well (operands_of _ e)

  effect_by_keeps : (choice : Bool) (p : Processor) → s.processor ≡ p → Well app (effect_by app s choice p).state
  effect_by_keeps choice processor.Halted e = w
  effect_by_keeps choice processor.Idle e = w
  effect_by_keeps choice (processor.Running t) e = effect_at_keeps (subst IsActive (sym e) tt) choice (the_block app (here s).block.0).kind refl
  effect_by_keeps choice (processor.Interrupted k over) e = effect_at_keeps (subst IsActive (sym e) tt) choice (the_block app (here s).block.0).kind refl

  pub effect_keeps : (choice : Bool) → Well app (effect app s choice).state
  unfolding effect
  effect_keeps choice = effect_by_keeps choice s.processor refl
