-- What holds after each deed holds after the effect of each instruction.
use Rattle.std.proofs.Common.{◌≡◌, ℕ, ◌+◌, ◌<◌, Bool, true, false, length, refl, sym, ◌∙◌, ap, subst, nat_lt, nat_eq, IsTrue, arith}
use Rattle.std.proofs.lemmas.Bool.{Decides.{nat_tests}, eq-eqb, false≢true}
use Rattle.osek_values.specs.declared.{numbers.{AlarmNo.{AlarmNo}}, status.Ask.{Ask}}
use Rattle.osek_values.specs.declared.status.Ask.TheVariants as ask
use Rattle.osek_standard.specs.declared.{app.App.{App}, block.Kind.{Kind}}
use Rattle.osek_standard.specs.declared.state.{State.{State}, Processor.{Processor}, Caller.{Caller}}
use Rattle.osek_standard.specs.declared.task_state.Place.{Place}
use Rattle.osek_standard.specs.{Apps.{is_routine_end, may_dispatch, the_block, the_task, no_task}, States.{caller, here}, Validity.{task_may}}
use Rattle.osek_standard.specs.{Services.{Answer}, Effects.{Effect, asked_by, effect, effect_at, effect_by, halted_by, is_schedule, moved, place_at}}
use Rattle.osek_standard.specs.Well.{InOwner, IsActive, IsOffsetAt, IsOwn, IsProcessor, Well}
use Rattle.osek_standard.specs.declared.block.Kind.TheVariants as kind
use Rattle.osek_standard.specs.declared.state.Processor.TheVariants as processor
use Rattle.osek_standard.proofs.{EffectKeeps.{moved_to_keeps}, MoveKeeps.{moved_keeps}}
use Rattle.kernel_guarantees.specs.{Instructions.{is_end, is_wait, may_activate, may_clear, may_set}, Scheduling.{is_shutdown, kind_at}}
use Rattle.kernel_guarantees.proofs.Onward.{known_block, onward, onward_caller, onward_well, operands_of, own_block}
use Rattle.kernel_guarantees.proofs.Deeds.{AreDeeds, asked_of}
use Rattle.kernel_guarantees.proofs.CallNames as call
use Rattle.kernel_guarantees.proofs.Serving.{either_by, asks_no, asks_maybe, both_same, activate_does, cancel_alarm_does, chain_does, clear_event_does, counted_does, end_does, expire_does, get_alarm_does}
use Rattle.kernel_guarantees.proofs.Serving.{get_event_does, get_resource_does, release_resource_does, rested, returned_does, schedule_does, set_abs_alarm_does, set_event_does}
use Rattle.kernel_guarantees.proofs.Serving.{set_rel_alarm_does, terminate_does, wait_does}

-- a task's code has no Expire
pub no_expire : (app : App) (t b : ℕ) (a : AlarmNo) → t < length app.tasks → IsOwn app t b → (the_block app b).kind ≡ kind.Expire a → ⊥
no_expire app t b a known own e =
    let last : Bool = nat_eq (b + 1) ((the_task app t).first.0 + (the_task app t).count) in
    let h = (app.valid.task_code t no_task known).each b own in
    false≢true (subst (λ (k : Kind). IsTrue (task_may last k)) e h)

-- so who expires an alarm is a routine, and asks nothing
expires_quietly : (app : App) (s : State) (b : ℕ) (a : AlarmNo) → (the_block app b).kind ≡ kind.Expire a → (p : Processor) → IsProcessor app s p → InOwner app p b → asked_of app (caller p) ≡ ask.No
expires_quietly app s b a e processor.Halted h own = refl
expires_quietly app s b a e processor.Idle h own = refl
expires_quietly app s b a e (processor.Running t) h own = absurd (no_expire app t.0 b a h.running.0 own e)
expires_quietly app s b a e (processor.Interrupted k over) h own = refl

module _ (app : App) (Q : State → Type 0) (P : State → Ask → Type 0) (s : State) (d : AreDeeds app (kind_at app s) Q P) where
  module _ (w : Well app s) (active : IsActive s.processor) (q : Q s) (moves : (to : Place) → Q (moved s to)) where
    abbrev Does : Effect → Type 0
    Does e = P e.state e.ask

    abbrev at : Place
    at = here s

    abbrev after : State
    after = onward app s

    after_well : Well app after
    after_well = onward_well app s w active

    after_holds : Q after
    after_holds = moves (place_at (the_block app at.block.0).next 0)

    went_on : P after ask.No
    went_on = d.rests after after_well after_holds

    abbrev who : Caller
    who = caller s.processor

    -- a call that may reschedule asks as its caller may
    may : (k : Kind) → is_schedule k ≡ false → asked_by app who k ask.Maybe ≡ asked_of app (caller after.processor)
    may k e = asks_maybe app who k e ∙ ap (asked_of app) (sym (onward_caller app s))

    noted : (k : Kind) → P after (asked_by app who k ask.No)
    noted k = rested app (kind_at app s) Q P d after after_well after_holds (asked_by app who k) (asks_no app who k)

    at_place : (to : Place) → Well app (moved s to) → P (moved s to) ask.No
    at_place to u = d.rests (moved s to) u (moves to)

    within : (o n : ℕ) → (the_block app at.block.0).kind ≡ kind.Work n → nat_lt o n ≡ true → IsOffsetAt (the_block app at.block.0).kind o
    within o n e f = let below : o < n = grind (arith, nat_tests) in subst (λ (k : Kind). IsOffsetAt k o) (sym e) below

    halted : is_shutdown (the_block app at.block.0).kind ≡ true → P (halted_by after after.processor) ask.No
    halted off = d.halts after after_well after_holds off

    effect_at_does : (choice : Bool) (k : Kind) → (the_block app at.block.0).kind ≡ k → Does (effect_at app s choice at (the_block app at.block.0) k)
    effect_at_does choice (kind.Work n) e = either_by (λ (a : Answer). P a.state a.ask) (nat_lt (at.offset + 1) n) _ _
        (λ f. at_place (place_at at.block (at.offset + 1)) (moved_keeps app s w (place_at at.block (at.offset + 1)) (own_block app s w active) (within (at.offset + 1) n e f))) (λ _. went_on)
    effect_at_does true (kind.Choice other) e = went_on
    effect_at_does false (kind.Choice other) e = at_place (place_at other 0) (moved_to_keeps app s w other ((known_block app s w active).other other e))
    effect_at_does choice (kind.Call (call.Mask call.WaitEvent m)) e = wait_does app (kind_at app s) Q P d s w q (ap is_wait e) (the_block app at.block.0).next who m refl e went_on
    effect_at_does choice (kind.Call call.ShutdownOs) e = halted (ap is_shutdown e)
    effect_at_does choice kind.TaskEnd e = end_does app (kind_at app s) Q P d s w q (ap is_end e) who refl
    effect_at_does choice kind.IsrEnd e = returned_does app (kind_at app s) Q P d s w q (ap is_routine_end e) s.processor refl
    effect_at_does choice kind.Loop e = noted kind.Loop
    effect_at_does choice (kind.Call (call.Task call.ActivateTask t)) e =
        let k : Kind = kind.Call (call.Task call.ActivateTask t) in
        activate_does app (kind_at app s) Q P d after after_well after_holds (asked_by app who k) (asks_no app who k) (may k refl) t.0 (operands_of app s w active k e) (ap (λ (n : Kind). may_activate app n t.0) e ∙ eq-eqb t.0 t.0 refl)
    effect_at_does choice (kind.Call (call.Plain call.TerminateTask)) e = terminate_does app (kind_at app s) Q P d after after_well after_holds (kind.Call (call.Plain call.TerminateTask)) (ap is_end e) who (onward_caller app s)
    effect_at_does choice (kind.Call (call.Task call.ChainTask t)) e =
        let k : Kind = kind.Call (call.Task call.ChainTask t) in chain_does app (kind_at app s) Q P d after after_well after_holds k (ap is_end e) who t.0 (ap (λ (n : Kind). may_activate app n t.0) e ∙ eq-eqb t.0 t.0 refl) (onward_caller app s) (operands_of app s w active k e)
    effect_at_does choice (kind.Call (call.Plain call.Schedule)) e = schedule_does app (kind_at app s) Q P d after after_well after_holds (kind.Call (call.Plain call.Schedule)) refl (ap is_schedule e) who (onward_caller app s)
    effect_at_does choice (kind.Call (call.Resource call.GetResource r)) e =
        let k : Kind = kind.Call (call.Resource call.GetResource r) in
        get_resource_does app (kind_at app s) Q P d after after_well after_holds (asked_by app who k) (asks_no app who k) who r (onward_caller app s)
    effect_at_does choice (kind.Call (call.Resource call.ReleaseResource r)) e =
        let k : Kind = kind.Call (call.Resource call.ReleaseResource r) in
        release_resource_does app (kind_at app s) Q P d after after_well after_holds (asked_by app who k) (asks_no app who k) (may k refl) (ap may_dispatch e) who r (onward_caller app s)
    effect_at_does choice (kind.Call (call.SetEvent t m)) e =
        let k : Kind = kind.Call (call.SetEvent t m) in
        set_event_does app (kind_at app s) Q P d after after_well after_holds (asked_by app who k) (asks_no app who k) (may k refl) t.0 m.0 (operands_of app s w active k e).0 (ap (λ (n : Kind). may_set app n t.0 m.0) e ∙ both_same t.0 m.0)
    effect_at_does choice (kind.Call (call.Mask call.ClearEvent m)) e =
        let k : Kind = kind.Call (call.Mask call.ClearEvent m) in
        clear_event_does app (kind_at app s) Q P d after after_well after_holds (asked_by app who k) (asks_no app who k) who m.0 (onward_caller app s) (ap (λ (n : Kind). may_clear n m.0) e ∙ eq-eqb m.0 m.0 refl)
    effect_at_does choice (kind.Call (call.Task call.GetEvent t)) e =
        let k : Kind = kind.Call (call.Task call.GetEvent t) in get_event_does app (kind_at app s) Q P d after after_well after_holds (asked_by app who k) (asks_no app who k) t.0
    effect_at_does choice (kind.Call (call.Arm call.SetRelAlarm a i c)) e =
        let k : Kind = kind.Call (call.Arm call.SetRelAlarm a i c) in
        set_rel_alarm_does app (kind_at app s) Q P d after after_well after_holds (asked_by app who k) (asks_no app who k) a.0 i c (operands_of app s w active k e) e
    effect_at_does choice (kind.Call (call.Arm call.SetAbsAlarm a i c)) e =
        let k : Kind = kind.Call (call.Arm call.SetAbsAlarm a i c) in
        set_abs_alarm_does app (kind_at app s) Q P d after after_well after_holds (asked_by app who k) (asks_no app who k) a.0 i c (operands_of app s w active k e) e
    effect_at_does choice (kind.Call (call.Alarm call.CancelAlarm a)) e =
        let k : Kind = kind.Call (call.Alarm call.CancelAlarm a) in
        cancel_alarm_does app (kind_at app s) Q P d after after_well after_holds (asked_by app who k) (asks_no app who k) a.0 (operands_of app s w active k e) e
    effect_at_does choice (kind.Call (call.Alarm call.GetAlarm a)) e =
        let k : Kind = kind.Call (call.Alarm call.GetAlarm a) in get_alarm_does app (kind_at app s) Q P d after after_well after_holds (asked_by app who k) (asks_no app who k) a.0
    effect_at_does choice (kind.Call (call.Plain call.GetTaskId)) e = noted (kind.Call (call.Plain call.GetTaskId))
    effect_at_does choice (kind.Call (call.Task call.GetTaskState t)) e = noted (kind.Call (call.Task call.GetTaskState t))
    effect_at_does choice (kind.Call (call.Plain call.GetActiveApplicationMode)) e = noted (kind.Call (call.Plain call.GetActiveApplicationMode))
    effect_at_does choice (kind.Call (call.Lock l)) e = noted (kind.Call (call.Lock l))
    effect_at_does choice kind.CountUp e = counted_does app (kind_at app s) Q P d after after_well after_holds (asked_by app who kind.CountUp) (asks_no app who kind.CountUp) who (onward_caller app s) e
    effect_at_does choice (kind.Expire a) e =
        let k : Kind = kind.Expire a in
        let quiet = expires_quietly app s at.block.0 a e s.processor w.processor (own_block app s w active) in
        expire_does app (kind_at app s) Q P d after after_well after_holds (asked_by app who k) (asks_no app who k) a.0 (operands_of app s w active k e) (ap (asked_of app) (onward_caller app s) ∙ quiet) e
        (λ t goes. ap (λ (n : Kind). may_activate app n t) e ∙ goes) (λ t m goes. ap (λ (n : Kind). may_set app n t m) e ∙ goes)

    pub effect_does : (choice : Bool) → Does (effect app s choice)
    unfolding effect
    effect_does choice = by s.processor refl where
      by : (p : Processor) → s.processor ≡ p → Does (effect_by app s choice p)
      by processor.Halted e = absurd (subst IsActive e active)
      by processor.Idle e = absurd (subst IsActive e active)
      by (processor.Running t) e = effect_at_does choice (the_block app (here s).block.0).kind refl
      by (processor.Interrupted k over) e = effect_at_does choice (the_block app (here s).block.0).kind refl
