-- The start and each step of the kernel keep a state well-formed.
use Rattle.std.proofs.Common.{◌≡◌, ℕ, ◌<◌, ◌≤◌, Bool, true, false, length, replicate, refl, sym, subst, ◌⊎◌, inl, inr, arith, Some, None, IfSome, nat_lt, get_or, map, ◌∙◌, ap}
use Rattle.std.proofs.{lemmas.{Bool.{cases_Bool, cases_lt}, List.{get_or-map, get_or-replicate, get_or_past}}, Math.ListN.{length-map, length-replicate}}
use Rattle.std.specs.{Prelude.{if◌then◌else◌}, declared.option.Option.{Option}}
use Rattle.osek_values.specs.declared.{status.Ask.{Ask}, event.Event.{Event, TheVariants.{Run, Irq, Tick}}, numbers.{TaskNo.{TaskNo}, SourceNo.{SourceNo}, ModeNo.{ModeNo}}}
use Rattle.osek_values.specs.Bits.{has_bit}
use Rattle.osek_values.specs.declared.status.Ask.TheVariants as ask
use Rattle.osek_standard.specs.declared.{app.App.{App}, state.{State.{State}, Processor.{Processor}, Caller.{Caller, TheVariants.{Nobody, Task, Routine}}}}
use Rattle.osek_standard.specs.declared.task_state.TaskState.{TaskState}
use Rattle.osek_standard.specs.{Apps.{the_task, the_alarm, the_counter, source_count, no_task, no_alarm, no_counter}, TaskStates.{suspended}}
use Rattle.osek_standard.specs.{States.{caller, task_of, task_state, with_processor}, Services.{activated_state}, Priority.{best, current_priority}, Effects.{Effect, effect}}
use Rattle.osek_standard.specs.{Dispatch.{Stepped, if_any, if_above, preempted_by, outcome_by, outcome_of, concluded, dispatched, settled, instruction}, Arrivals.{arrival}}
use Rattle.osek_standard.specs.Kernel.{step, run_by, entered_or, start, initial, started_task, started_alarm}
use Rattle.osek_standard.specs.{Well.{Well, AreOut, HasProcessor, IsAlarmState, IsTaskState, IsProcessor}, Line.{first_in_line, out_of_line, places, places_due, with_line}}
use Rattle.osek_standard.specs.declared.state.Source.TheVariants as source
use Rattle.osek_standard.specs.declared.state.AlarmState.TheVariants as alarm
use Rattle.osek_standard.specs.declared.state.Processor.TheVariants as processor
use Rattle.osek_standard.proofs.{PriorityLaws.{best_is_live}, ActivationKeeps.{activated_is_right}, Keeps.{at_processor_keeps, current_of, due_when_out}}
use Rattle.osek_standard.proofs.{RoutineKeeps.{with_latch_keeps, arrival_keeps}, EffectKeeps.{effect_keeps}, AskLaws.{MayDispatch, effect_may}}
use Rattle.osek_standard.proofs.{PlaceLaws.{none_outside, one_if, one_inside, places_in}, LineLaws.{put_first, take_out}, InsideKeeps.{kept_keeps, put_inside_keeps}}

-- where all sources are out, each is
all_out : (n k : ℕ) → get_or (replicate n source.Out) k source.Out ≡ source.Out
all_out n k = elim (cases_lt k n) [
  | inl h ↦ get_or-replicate n k source.Out source.Out h
  | inr h ↦ get_or_past (replicate n source.Out) k source.Out (subst (λ (m : ℕ). m ≤ k) (sym (length-replicate n source.Out)) h)
]

module _ (app : App) where
  started_task_is_right : (t : ℕ) → t < length app.tasks → (b : Bool) → IsTaskState app t (if b then activated_state app t else suspended)
  started_task_is_right t known true = activated_is_right app t known
  started_task_is_right t known false = record { activity = tt; events = refl }

  started_alarm_is_right : (a : ℕ) → a < length app.alarms → (b : Bool) → IsAlarmState app a (if b then alarm.Armed (the_alarm app a).time (the_alarm app a).cycle else alarm.Idle)
  started_alarm_is_right a known true = let h = app.valid.each_alarm a no_alarm known in record { at_most = h.time; round = h.cycle }
  started_alarm_is_right a known false = tt

  due_at_start : (t : ℕ) (b : Bool) → one_if b ≡ places_due None t (if b then activated_state app t else suspended).activity
  due_at_start t true = refl
  due_at_start t false = refl

  -- each autostarted task has a place
  line_at_start : (mode : ModeNo) (t : ℕ) → places (initial app mode) t ≡ places_due None t (task_state (initial app mode) t).activity
  line_at_start mode t =
      let starts : ℕ → Bool = λ u. has_bit (the_task app u).autostart mode.0 in
      elim (cases_lt t (length app.tasks)) [
        | inl known ↦ one_inside starts 0 (length app.tasks) t (omega arith) (omega (arith, known)) ∙ due_at_start t (starts t)
            ∙ ap (λ (x : TaskState). places_due None t x.activity) (sym (get_or-map (started_task mode.0) app.tasks t no_task suspended known))
        | inr past ↦ none_outside starts 0 (length app.tasks) t (λ _. omega (arith, past))
            ∙ ap (λ (x : TaskState). places_due None t x.activity) (sym (get_or_past (map (started_task mode.0) app.tasks) t suspended (subst (λ (n : ℕ). n ≤ t) (sym (length-map app.tasks (started_task mode.0))) past)))
      ]

  -- the state before the first dispatch is well-formed
  pub initial_is_well : (mode : ModeNo) → mode.0 < length app.modes → Well app (initial app mode)
  initial_is_well mode known = record {
    mode = known;
    tasks_len = length-map app.tasks (started_task mode.0);
    counters_len = length-map app.counters (λ _. 0);
    alarms_len = length-map app.alarms (started_alarm mode.0);
    sources_len = length-replicate (source_count app) source.Out;
    latched_len = length-replicate (source_count app) false;
    tasks = λ t h. subst (IsTaskState app t) (sym (get_or-map (started_task mode.0) app.tasks t no_task suspended h)) (started_task_is_right t h (has_bit (the_task app t).autostart mode.0));
    counters = λ c h. subst (λ (n : ℕ). n ≤ (the_counter app c).max) (sym (get_or-map (λ _. 0) app.counters c no_counter 0 h)) (omega arith);
    alarms = λ a h. subst (IsAlarmState app a) (sym (get_or-map (started_alarm mode.0) app.alarms a no_alarm alarm.Idle h)) (started_alarm_is_right a h (has_bit (the_alarm app a).autostart mode.0));
    processor = all_out (source_count app);
    line = line_at_start mode;
  }

  module _ (s : State) where
    -- the best task may have the processor
    pub best_runs : (o : Option TaskNo) → Well app s → best app s ≡ o → IfSome o (HasProcessor app s)
    best_runs None w e = tt
    best_runs (Some t) w e = let p = best_is_live app s t e in (omega (arith, p.1, w.tasks_len), p.0)

    -- who had the processor goes first in the line, and who gets it comes out
    queued : (c o : Option TaskNo) (p : Processor) → task_of s.processor ≡ c → task_of p ≡ o → Well app s → IsProcessor app s p → IfSome o (HasProcessor app s) →
        Well app (with_processor (out_of_line (first_in_line s c) o) p)
    queued c o p e f w has h = queued_by c o (at_processor_keeps app s (take_out o (put_first c s.line)) p w has (λ t.
        subst (λ (d : Option TaskNo). places_in (take_out o (put_first d s.line)) t ≡ places_due o t (task_state s t).activity) e (due_when_out app s o w h t)
        ∙ ap (λ (d : Option TaskNo). places_due d t (task_state s t).activity) (sym f))) where
          queued_by : (c o : Option TaskNo) → Well app (with_processor (with_line s (take_out o (put_first c s.line))) p) → Well app (with_processor (out_of_line (first_in_line s c) o) p)
          queued_by None None r = r
          queued_by None (Some t) r = r
          queued_by (Some u) None r = r
          queued_by (Some u) (Some t) r = r

    -- the processor goes to a Live task or to none, where no routine runs
    pub dispatched_keeps : (o : Option TaskNo) → Well app s → AreOut app s → IfSome o (HasProcessor app s) → Well app (dispatched app s o)
    dispatched_keeps None w out h = queued (task_of s.processor) None processor.Idle refl refl w out h
    dispatched_keeps (Some t) w out h =
        let r = queued (task_of s.processor) (Some t) (processor.Running t) refl refl w (record { running = h; out = out }) h in
        put_inside_keeps app _ r (Some t) (current_of app _ (processor.Running t) r.processor)

    any_keeps : (o : Option TaskNo) → Well app s → AreOut app s → IfSome o (HasProcessor app s) → Well app (settled app s (if_any o))
    any_keeps None w out h = kept_keeps app s w
    any_keeps (Some t) w out h = dispatched_keeps (Some t) w out h

    above_keeps : (c : TaskNo) (o : Option TaskNo) → Well app s → AreOut app s → IfSome o (HasProcessor app s) → Well app (settled app s (if_above app s c o))
    above_keeps c None w out h = kept_keeps app s w
    above_keeps c (Some t) w out h = elim (cases_Bool (nat_lt (current_priority app s c.0) (current_priority app s t.0))) [
      | inl e ↦ (rw e (dispatched_keeps (Some t) w out h))
      | inr e ↦ (rw e (kept_keeps app s w))
    ]

    preempted_keeps : (c : Caller) → Well app s → AreOut app s → Well app (settled app s (preempted_by app s c))
    preempted_keeps Nobody w out = kept_keeps app s w
    preempted_keeps (Routine k) w out = kept_keeps app s w
    preempted_keeps (Task c) w out = above_keeps c (best app s) w out (best_runs (best app s) w refl)

    asked_keeps : (a : Ask) → Well app s → AreOut app s → Well app (settled app s (outcome_by app s a))
    asked_keeps ask.No w out = kept_keeps app s w
    asked_keeps ask.Maybe w out = preempted_keeps (caller s.processor) w out
    asked_keeps ask.Left w out = dispatched_keeps (best app s) w out (best_runs (best app s) w refl)
    asked_keeps ask.Free w out = any_keeps (best app s) w out (best_runs (best app s) w refl)

    outcome_keeps : (a : Ask) → Well app s → (a ≡ ask.No) ⊎ AreOut app s → Well app (settled app s (outcome_by app s a))
    outcome_keeps a w (inl e) = subst (λ (b : Ask). Well app (settled app s (outcome_by app s b))) (sym e) (kept_keeps app s w)
    outcome_keeps a w (inr out) = asked_keeps a w out

  -- an effect and its outcome
  pub concluded_keeps : (e : Effect) → Well app e.state → MayDispatch app e → Well app (concluded app e (outcome_of app e)).state
  concluded_keeps e w may = outcome_keeps e.state e.ask w may

  pub instruction_keeps : (s : State) (choice : Bool) → Well app s → Well app (instruction app s choice).state
  unfolding instruction
  instruction_keeps s choice w = concluded_keeps (effect app s choice) (effect_keeps app s w choice) (effect_may app s w choice)

  entered_or_keeps : (s : State) (n : Stepped) (o : Option SourceNo) → Well app s → Well app n.state → arrival app s ≡ o → Well app (entered_or (λ m. m) app s n o).state
  entered_or_keeps s n None w h e = h
  entered_or_keeps s n (Some k) w h e = arrival_keeps app s k w e

  run_keeps : (s : State) (choice : Bool) (p : Processor) → Well app s → Well app (run_by (λ m. m) app s (instruction app s choice) p).state
  run_keeps s choice processor.Halted w = w
  run_keeps s choice processor.Idle w = entered_or_keeps s _ (arrival app s) w w refl
  run_keeps s choice (processor.Running t) w = entered_or_keeps s _ (arrival app s) w (instruction_keeps s choice w) refl
  run_keeps s choice (processor.Interrupted k over) w = entered_or_keeps s _ (arrival app s) w (instruction_keeps s choice w) refl

  -- each event leads from a well-formed state to a well-formed one
  pub step_keeps : (s : State) (e : Event) → Well app s → Well app (step app s e).state
  step_keeps s (Run choice) w = run_keeps s choice s.processor w
  step_keeps s (Irq i) w = with_latch_keeps app s _ true w
  step_keeps s (Tick c) w = with_latch_keeps app s c.0 true w

  pub start_is_well : (mode : ModeNo) → mode.0 < length app.modes → Well app (start app mode).state
  unfolding start
  start_is_well mode known =
      let s = initial app mode in
      let w = initial_is_well mode known in
      any_keeps s (best app s) w w.processor (best_runs s (best app s) w refl)
