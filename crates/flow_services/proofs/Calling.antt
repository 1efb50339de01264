-- The cases of a call of a service are those of its effect.
use Rattle.std.proofs.Common.{◌≡◌, ℕ, ◌<◌, Bool, true, false, List, [], ◌++◌, length, map, refl, sym, ap, subst, ◌∙◌, arith}
use Rattle.std.specs.Prelude.{if◌then◌else◌, Contains}
use Rattle.std.proofs.lemmas.List.{append-nil}
use Rattle.osek_values.specs.declared.status.Ask.{Ask}
use Rattle.osek_values.specs.declared.status.Ask.TheVariants as ask
use Rattle.osek_values.specs.declared.numbers.BlockNo.{BlockNo}
use Rattle.osek_standard.specs.declared.{app.App.{App}, block.Kind.{Kind}}
use Rattle.osek_standard.specs.declared.block.Kind.TheVariants as kind
use Rattle.osek_standard.specs.declared.call.Call.{Call}
use Rattle.flow_services.specs.CallNames as call
use Rattle.osek_standard.specs.{declared.state.{State.{State}, Caller.{Caller}, AlarmState.{AlarmState}}, Apps.{tables, the_block}, Validity.{HasOperands, NamesEntries}}
use Rattle.osek_standard.specs.{States.{caller, alarm_state}, Services.{Answer, clear_event}, Effects.{is_schedule, moved_to, place_at, row}}
use Rattle.osek_standard.proofs.Members.{map_among, among_map, contained_among, among_contained}
use Rattle.abstract_state.specs.Components.{component_count, abstract_of, is_armed}
use Rattle.flow_model.specs.declared.{change.Change.{Change}, case.EffectCase.{EffectCase}}
use Rattle.flow_model.specs.declared.case.Asked.TheVariants as asked
use Rattle.flow_model.specs.declared.runner.Runner.{Runner}
use Rattle.flow_model.specs.declared.runner.Runner.TheVariants as runner
use Rattle.flow_model.specs.{Cases.{asked_for, asked_after}, Runners.{Stands, OwnsBlock, runner_point, moving}, Tests.{PassesAll, value_after}, Effects.{HasEffect, AreCasesOf}}
use Rattle.flow_model.proofs.{ChangeLaws.{after_both, passes_left, passes_both, passes_none}, Moves.{moved_parts, went_on, moved_has, moved_alarms}}
use Rattle.flow_model.proofs.{Standing.{point_there, next_owned, known_here, task_calls, routine_calls}, Calls.{IsCall, HasAnswer, KeepsOrLeaves, call_has, asked_none, asked_maybe, kept_if, line_after, moved_line}}
use Rattle.flow_model.proofs.LinesAfter.{line_from}
use Rattle.flow_model.proofs.Listing.{AreEffects, covers, exact}
use Rattle.flow_services.specs.declared.occasion.Queued.TheVariants as queued
use Rattle.flow_services.specs.{Occasions.{ServiceCase, case_at, accepted_case, last_of, puts_some, unnoted_case}, Services.{is_service_call, call_cases, calling, event_clearings}}
use Rattle.flow_services.proofs.{Seeing.{Sees, moved_sees}, Serving.{Serves, IsServed, point_stays, keeps_serves, always_served, stay_there}, ActivationLaws.{activation_served}}
use Rattle.flow_services.proofs.{SettingEvents.{setting_served}, CallerEvents.{task_clearing_served, routine_clearing_served, reading_served}}
use Rattle.flow_services.proofs.AlarmServices.{rel_arming_served, abs_arming_served, cancelling_served, alarm_reading_served}

-- what a call of this kind asks where the service may lead to a dispatch, or may not
asked_as : (app : App) (r : Runner) (k : Kind) (may : Bool) → is_schedule k ≡ false → asked_for app r k (if may then ask.Maybe else ask.No) ≡ (if may then asked_after app r else asked.No)
asked_as app r k true e = asked_maybe app r k e
asked_as app r k false e = asked_none app r k

module _ (app : App) (s : State) (r : Runner) (b : BlockNo) (h : Stands app s r b) where
  abbrev next : BlockNo
  next = (the_block app b.0).next

  abbrev moved : State
  moved = moved_to s next

  pub moved_well : Stands app moved r next
  moved_well = went_on app s r b next h (next_owned app s r b h)

  -- the components after changes behind the move
  pub parts_after : (a : State) (xs : List Change) → ((c : ℕ) → c < component_count app → abstract_of app a c ≡ value_after xs c (abstract_of app moved c)) →
      (c : ℕ) → c < component_count app → abstract_of app a c ≡ value_after (moving r next ++ xs) c (abstract_of app s c)
  parts_after a xs parts c lt =
      parts c lt ∙ ap (value_after xs c) (moved_parts app s next 0 r b h c lt) ∙ sym (after_both (moving r next) xs c (abstract_of app s c))

  -- the answer of a call, where it is a case's
  serves_case : (k : Kind) (x : ServiceCase) (a : Answer) → is_schedule k ≡ false → Serves app moved x a → HasAnswer app (case_at (calling app r next) x) s r k a
  serves_case k x a not_schedule serves = record {
    point = point_stays app moved a.state serves.stays moved_well.well ∙ point_there app moved r next moved_well;
    parts = λ c lt. parts_after a.state x.changes serves.parts c lt
        ∙ ap (λ (xs : List Change). value_after (xs ++ x.changes) c (abstract_of app s c)) (sym (append-nil (moving r next)));
    asked = ap (asked_for app r k) serves.ask ∙ asked_as app r k (puts_some x.queued) not_schedule;
    kept = subst (λ (k : Ask). KeepsOrLeaves k s a.state) (sym serves.ask) (kept_if (puts_some x.queued) s a.state (serves.stays.processor ∙ moved_has app s h.well (place_at next 0)));
    line = line_after (last_of x.queued) (if puts_some x.queued then asked_after app r else asked.No) s a.state (line_from (last_of x.queued) s moved a.state (moved_line s (place_at next 0)) serves.line);
    status = serves.status;
  }

  -- each of these calls is one after which the caller goes on
  is_call : (c : Call) → is_service_call c ≡ true → IsCall app (kind.Call c)
  is_call (call.Task call.ActivateTask t) e = λ s choice p b. refl
  is_call (call.Task call.ChainTask t) e = absurd (cc)
  is_call (call.Task call.GetEvent t) e = λ s choice p b. refl
  is_call (call.Task call.GetTaskState t) e = λ s choice p b. refl
  is_call (call.Plain call.TerminateTask) e = absurd (cc)
  is_call (call.Plain call.Schedule) e = absurd (cc)
  is_call (call.Plain call.GetTaskId) e = λ s choice p b. refl
  is_call (call.Plain call.GetActiveApplicationMode) e = λ s choice p b. refl
  is_call (call.Resource k r) e = absurd (cc)
  is_call (call.SetEvent t m) e = λ s choice p b. refl
  is_call (call.Mask call.ClearEvent m) e = λ s choice p b. refl
  is_call (call.Mask call.WaitEvent m) e = absurd (cc)
  is_call (call.Arm k a x cycle) e = λ s choice p b. refl
  is_call (call.Alarm k a) e = λ s choice p b. refl
  is_call (call.Lock l) e = λ s choice p b. refl
  is_call call.ShutdownOs e = absurd (cc)

  no_schedule : (c : Call) → is_service_call c ≡ true → is_schedule (kind.Call c) ≡ false
  no_schedule (call.Task k t) e = refl
  no_schedule (call.Plain call.TerminateTask) e = refl
  no_schedule (call.Plain call.Schedule) e = absurd (cc)
  no_schedule (call.Plain call.GetTaskId) e = refl
  no_schedule (call.Plain call.GetActiveApplicationMode) e = refl
  no_schedule (call.Resource k r) e = refl
  no_schedule (call.SetEvent t m) e = refl
  no_schedule (call.Mask k m) e = refl
  no_schedule (call.Arm k a x cycle) e = refl
  no_schedule (call.Alarm k a) e = refl
  no_schedule (call.Lock l) e = refl
  no_schedule call.ShutdownOs e = refl

  pub sees_moved : Sees app s moved
  sees_moved = moved_sees app s r b next h moved_well.well

  pub armed_moved : (a : ℕ) → is_armed (alarm_state moved a) ≡ is_armed (alarm_state s a)
  armed_moved a = ap (λ (xs : List AlarmState). is_armed (alarm_state (record s { alarms = xs }) a)) (moved_alarms app s h.well (place_at next 0))

  alarm_here : (a : ℕ) → a < length app.alarms → a < length moved.alarms
  alarm_here a known = let long = moved_well.well.alarms_len in omega (arith, long, known)

  clearing_served : (e : ℕ) (q : Runner) → Stands app s q b → IsServed app s moved (event_clearings app q e) (clear_event app moved (caller s.processor) e)
  clearing_served e (runner.Task t) stands =
      let known = stands.runs.has.0 in
      let here : t.0 < length moved.tasks = let long = moved_well.well.tasks_len in omega (arith, long, known) in
      subst (λ (c : Caller). IsServed app s moved (event_clearings app (runner.Task t) e) (clear_event app moved c e)) (sym (task_calls app s t b stands)) (task_clearing_served app s moved t e known here)
  clearing_served e (runner.Routine k z over) stands =
      subst (λ (c : Caller). IsServed app s moved (event_clearings app (runner.Routine k z over) e) (clear_event app moved c e)) (sym (routine_calls app s k z over b stands)) (routine_clearing_served app s moved k z over e)

  -- each call is served by its cases
  call_served : (c : Call) → is_service_call c ≡ true → HasOperands (tables app) c → IsServed app s moved (call_cases app r c) (row app moved (caller s.processor) c)
  call_served (call.Task call.ActivateTask t) e known = activation_served app s moved t.0 known sees_moved
  call_served (call.Task call.ChainTask t) e known = absurd (cc)
  call_served (call.Task call.GetEvent t) e known = reading_served app s moved t.0 known sees_moved
  call_served (call.Task call.GetTaskState t) e known = always_served app s moved (accepted_case [] [] queued.Nothing) _ (passes_none app (abstract_of app s)) (keeps_serves app moved _ _ _)
  call_served (call.Plain call.TerminateTask) e known = absurd (cc)
  call_served (call.Plain call.Schedule) e known = absurd (cc)
  call_served (call.Plain call.GetTaskId) e known = always_served app s moved (accepted_case [] [] queued.Nothing) _ (passes_none app (abstract_of app s)) (keeps_serves app moved _ _ _)
  call_served (call.Plain call.GetActiveApplicationMode) e known = always_served app s moved (unnoted_case []) _ (passes_none app (abstract_of app s)) (keeps_serves app moved _ _ _)
  call_served (call.Resource k q) e known = absurd (cc)
  call_served (call.SetEvent t m) e known = setting_served app s moved h.well t.0 m.0 known.0 sees_moved
  call_served (call.Mask call.ClearEvent m) e known = clearing_served m.0 r h
  call_served (call.Mask call.WaitEvent m) e known = absurd (cc)
  call_served (call.Arm call.SetRelAlarm a x cycle) e known = rel_arming_served app s moved a.0 known (alarm_here a.0 known) (armed_moved a.0) x cycle
  call_served (call.Arm call.SetAbsAlarm a x cycle) e known = abs_arming_served app s moved a.0 known (alarm_here a.0 known) (armed_moved a.0) x cycle
  call_served (call.Alarm call.CancelAlarm a) e known = cancelling_served app s moved a.0 known (alarm_here a.0 known) (armed_moved a.0)
  call_served (call.Alarm call.GetAlarm a) e known = alarm_reading_served app s moved a.0 known (alarm_here a.0 known) (armed_moved a.0)
  call_served (call.Lock l) e known = always_served app s moved (unnoted_case []) _ (passes_none app (abstract_of app s)) (keeps_serves app moved _ _ _)
  call_served call.ShutdownOs e known = absurd (cc)

  module _ (c : Call) (service : is_service_call c ≡ true) (is : (the_block app b.0).kind ≡ kind.Call c) where
    operands : HasOperands (tables app) c
    operands = let h : NamesEntries (tables app) (kind.Call c) = subst (NamesEntries (tables app)) is (known_here app s r b h).operands in h

    pub call_has_effect : (x : EffectCase) (choice : Bool) → Contains (map (case_at (calling app r next)) (call_cases app r c)) x → PassesAll app x.conditions (abstract_of app s) → HasEffect app x s choice
    call_has_effect x choice listed passing =
        let m = map_among (case_at (calling app r next)) x (call_cases app r c) (contained_among _ x listed) in
        let pass : PassesAll app m.0.conditions (abstract_of app s) = passes_left app (abstract_of app s) m.0.conditions [] (subst (λ (y : EffectCase). PassesAll app y.conditions (abstract_of app s)) m.2 passing) in
        call_has app x s choice r b (kind.Call c) (row app moved (caller s.processor) c) (is_call c service) h is refl passing
        (subst (λ (y : EffectCase). HasAnswer app y s r (kind.Call c) (row app moved (caller s.processor) c)) (sym m.2)
        (serves_case (kind.Call c) m.0 (row app moved (caller s.processor) c) (no_schedule c service) ((call_served c service operands).each m.0 m.1 pass)))

    pub call_has_some : (x : EffectCase) × Contains (map (case_at (calling app r next)) (call_cases app r c)) x × PassesAll app x.conditions (abstract_of app s)
    call_has_some =
        let some = (call_served c service operands).some in (
          case_at (calling app r next) some.0,
          among_contained (map (case_at (calling app r next)) (call_cases app r c)) (case_at (calling app r next) some.0) (among_map (case_at (calling app r next)) some.0 (call_cases app r c) some.1),
          passes_both app (abstract_of app s) some.0.conditions [] some.2 (passes_none app (abstract_of app s)),
        )

-- The cases of a call are those of the block.
module _ (app : App) (r : Runner) (b : BlockNo) (owns : OwnsBlock app r b) (c : Call) (service : is_service_call c ≡ true) (is : (the_block app b.0).kind ≡ kind.Call c) where
  abbrev cases : List EffectCase
  cases = map (case_at (calling app r (the_block app b.0).next)) (call_cases app r c)

  are_effects : AreEffects app r b owns cases
  are_effects x s choice listed h passing = call_has_effect app s r b h c service is x choice listed passing

  pub calls_are_cases : AreCasesOf app (runner_point r b) cases
  calls_are_cases = record {
    covering = covers app r b owns cases are_effects (λ s h. call_has_some app s r b h c service is);
    exact = exact app r b owns cases are_effects;
    stays = λ x listed. stay_there app (calling app r (the_block app b.0).next) (call_cases app r c) x (contained_among cases x listed);
  }
