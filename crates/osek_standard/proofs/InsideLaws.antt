-- Who is inside an INTERNAL resource: each outcome brings it about, so the start and each step keep it.
use Rattle.std.proofs.Common.{◌≡◌, ℕ, ◌<◌, ◌≤◌, Bool, true, false, List, length, map, refl, sym, ◌∙◌, ap, subst, inl, inr, arith, Some, None, IfSome, nat_lt}
use Rattle.std.proofs.{lemmas.{Bool.{cases_lt, eqb-true, eq-eqb, false≢true}, List.{get_or-map, get_or_past, set-get_or}}, Math.ListN.{length-map}}
use Rattle.std.specs.{Prelude.{⊤, is_some, if◌then◌else◌}, declared.option.Option.{Option}}
use Rattle.osek_values.specs.declared.{status.Ask.{Ask}, event.Event.{Event, TheVariants.{Run, Irq, Tick}}, numbers.{TaskNo.{TaskNo}, SourceNo.{SourceNo}, ModeNo.{ModeNo}}}
use Rattle.osek_values.specs.Bits.{has_bit}
use Rattle.osek_values.specs.declared.status.Ask.TheVariants as ask
use Rattle.osek_standard.specs.declared.{app.App.{App}, state.{State.{State}, Processor.{Processor}, Caller.{Caller, TheVariants.{Nobody, Task, Routine}}}}
use Rattle.osek_standard.specs.declared.task_state.{TaskState.{TaskState}, Activity.{Activity, TheVariants.{Suspended, Live, Waiting}}}
use Rattle.osek_standard.specs.{Apps.{the_task, no_task}, TaskStates.{is_inside, is_inside_in, is_live_activity, suspended}}
use Rattle.osek_standard.specs.{States.{caller, is_that_task, task_of, task_state, with_processor, with_task}, Line.{first_in_line, out_of_line}}
use Rattle.osek_standard.specs.{Internal.{IsInside, inside_as, internal_of, kept, kept_by, put_inside, with_inside}, Services.{activated_state}, Priority.{best, current_priority}}
use Rattle.osek_standard.specs.Effects.{Effect, effect}
use Rattle.osek_standard.specs.Dispatch.{Outcome, Keep, To, Stepped, concluded, if_above, if_any, instruction, outcome_by, outcome_of, preempted_by, processor_for, settled}
use Rattle.osek_standard.specs.{Arrivals.{arrival}, Kernel.{entered_or, initial, run_by, start, started_task, step}, Well.{Well, HasProcessor}}
use Rattle.osek_standard.specs.declared.state.Processor.TheVariants as processor
use Rattle.osek_standard.proofs.{BoolLaws.{either_way}, Keeps.{current_of, task_after}, EffectKeeps.{effect_keeps}, FlagLaws.{KeepsFlags, effect_flags, interrupted_task}}
use Rattle.osek_standard.proofs.StepKeeps.{best_runs, initial_is_well}

-- who is inside names an INTERNAL resource
abbrev pub IsNamed : App → State → Type 0
IsNamed app s = (t : ℕ) → is_inside (task_state s t) ≡ true → is_some (internal_of app t) ≡ true

-- and an interrupted task is inside where it names one
abbrev pub IsRightOver : App → State → Type 0
IsRightOver app s = (t : ℕ) → is_that_task (interrupted_task s.processor) t ≡ true → is_inside (task_state s t) ≡ is_some (internal_of app t)

pub as_put : (b : Bool) (a : Activity) → is_live_activity a ≡ true → is_inside_in (inside_as b a) ≡ b
as_put b Suspended live = absurd (cc)
as_put b (Live x) live = refl
as_put b (Waiting c) live = absurd (cc)

module _ (app : App) (s : State) where
  -- a Live task that gets its INTERNAL resource, where it names one
  put_named : (t : TaskNo) → HasProcessor app s t → length s.tasks ≡ length app.tasks → IsNamed app s → IsNamed app (with_inside s t.0 (is_some (internal_of app t.0)))
  put_named t h size named =
      let here : t.0 < length s.tasks = omega (arith, h.0, size) in
      let a = (task_state s t.0).activity in
      task_after s t.0 _ here (λ u y. is_inside y ≡ true → is_some (internal_of app u) ≡ true) (λ e. sym (as_put (is_some (internal_of app t.0)) a h.1) ∙ e) (λ u _ e. named u e)

  put_current : (t : TaskNo) → HasProcessor app s t → length s.tasks ≡ length app.tasks → (u : ℕ) → is_that_task (Some t) u ≡ true
      → is_inside (task_state (with_inside s t.0 (is_some (internal_of app t.0))) u) ≡ is_some (internal_of app u)
  put_current t h size =
      let here : t.0 < length s.tasks = omega (arith, h.0, size) in
      let a = (task_state s t.0).activity in
      task_after s t.0 _ here (λ u y. is_that_task (Some t) u ≡ true → is_inside y ≡ is_some (internal_of app u)) (λ _. as_put (is_some (internal_of app t.0)) a h.1)
      (λ u other e. absurd (other (sym (eqb-true t.0 u e))))

  kept_inside : (p : Processor) → s.processor ≡ p → Well app s → IsNamed app s → IsRightOver app s → IsInside app (kept_by app s p)
  kept_inside processor.Halted e w named right = record { named = named; current = λ t f. absurd (false≢true (subst (λ (q : Processor). is_that_task (task_of q) t ≡ true) e f)) }
  kept_inside processor.Idle e w named right = record { named = named; current = λ t f. absurd (false≢true (subst (λ (q : Processor). is_that_task (task_of q) t ≡ true) e f)) }
  kept_inside (processor.Running t) e w named right =
      let h = subst (λ (q : Processor). IfSome (task_of q) (HasProcessor app s)) e (current_of app s s.processor w.processor) in
      record { named = put_named t h w.tasks_len named; current = λ u f. put_current t h w.tasks_len u (subst (λ (q : Processor). is_that_task (task_of q) u ≡ true) e f) }
  kept_inside (processor.Interrupted k over) e w named right = record {
    named = named;
    current = λ t f. right t (subst (λ (q : Processor). is_that_task (interrupted_task q) t ≡ true) (sym e) (subst (λ (q : Processor). is_that_task (task_of q) t ≡ true) e f));
  }

  -- who gets the processor is inside, whoever goes first in the line
  queued_inside : (c o : Option TaskNo) → length s.tasks ≡ length app.tasks → IsNamed app s → IfSome o (HasProcessor app s)
      → IsInside app (with_processor (put_inside app (out_of_line (first_in_line s c) o) o) (processor_for o))
  queued_inside None None size named h = record { named = named; current = λ t f. absurd (false≢true f) }
  queued_inside (Some u) None size named h = record { named = named; current = λ t f. absurd (false≢true f) }
  queued_inside None (Some t) size named h = record { named = put_named t h size named; current = put_current t h size }
  queued_inside (Some u) (Some t) size named h = record { named = put_named t h size named; current = put_current t h size }

  -- who gets the processor may have it
  abbrev pub WinnerRuns : Outcome → Type 0
  WinnerRuns Keep = ⊤
  WinnerRuns (To o) = IfSome o (HasProcessor app s)

  settled_inside : (o : Outcome) → Well app s → IsNamed app s → IsRightOver app s → WinnerRuns o → IsInside app (settled app s o)
  settled_inside Keep w named right h = kept_inside s.processor refl w named right
  settled_inside (To o) w named right h = queued_inside (task_of s.processor) o w.tasks_len named h

  any_runs : (o : Option TaskNo) → IfSome o (HasProcessor app s) → WinnerRuns (if_any o)
  any_runs None h = tt
  any_runs (Some t) h = h

  above_runs : (c : TaskNo) (o : Option TaskNo) → IfSome o (HasProcessor app s) → WinnerRuns (if_above app s c o)
  above_runs c None h = tt
  above_runs c (Some t) h = either_way WinnerRuns (nat_lt (current_priority app s c.0) (current_priority app s t.0)) _ _ h tt

  preempted_runs : (c : Caller) → Well app s → WinnerRuns (preempted_by app s c)
  preempted_runs Nobody w = tt
  preempted_runs (Routine k) w = tt
  preempted_runs (Task c) w = above_runs c (best app s) (best_runs app s (best app s) w refl)

  winner_runs : (a : Ask) → Well app s → WinnerRuns (outcome_by app s a)
  winner_runs ask.No w = tt
  winner_runs ask.Maybe w = preempted_runs (caller s.processor) w
  winner_runs ask.Left w = best_runs app s (best app s) w refl
  winner_runs ask.Free w = any_runs (best app s) (best_runs app s (best app s) w refl)

module _ (app : App) where
  -- who is inside before an effect is right after its outcome
  concluded_inside : (s : State) (e : Effect) → IsInside app s → KeepsFlags s e.state → Well app e.state → IsInside app (concluded app e (outcome_of app e)).state
  concluded_inside s e inside flags w = settled_inside app e.state (outcome_of app e) w (λ t f. inside.named t (flags.lower t f))
      (λ t f. let k = flags.over t f in k.0 ∙ inside.current t k.1) (winner_runs app e.state e.ask w)

  pub instruction_inside : (s : State) (choice : Bool) → Well app s → IsInside app s → IsInside app (instruction app s choice).state
  unfolding instruction
  instruction_inside s choice w inside = concluded_inside s (effect app s choice) inside (effect_flags app s choice) (effect_keeps app s w choice)

  entered_or_inside : (s : State) (n : Stepped) (o : Option SourceNo) → IsInside app s → IsInside app n.state → IsInside app (entered_or (λ m. m) app s n o).state
  entered_or_inside s n None h k = k
  entered_or_inside s n (Some j) h k = record { named = h.named; current = h.current }

  run_inside : (s : State) (choice : Bool) (p : Processor) → Well app s → IsInside app s → IsInside app (run_by (λ m. m) app s (instruction app s choice) p).state
  run_inside s choice processor.Halted w h = h
  run_inside s choice processor.Idle w h = entered_or_inside s _ (arrival app s) h h
  run_inside s choice (processor.Running t) w h = entered_or_inside s _ (arrival app s) h (instruction_inside s choice w h)
  run_inside s choice (processor.Interrupted k over) w h = entered_or_inside s _ (arrival app s) h (instruction_inside s choice w h)

  -- each event leads from a state with the right tasks inside to one
  pub step_inside : (s : State) (e : Event) → Well app s → IsInside app s → IsInside app (step app s e).state
  step_inside s (Run choice) w h = run_inside s choice s.processor w h
  step_inside s (Irq i) w h = record { named = h.named; current = h.current }
  step_inside s (Tick c) w h = record { named = h.named; current = h.current }

  started_out : (t : ℕ) (b : Bool) → is_inside (if b then activated_state app t else suspended) ≡ false
  started_out t true = refl
  started_out t false = refl

  -- at the start no task is inside
  none_inside : (mode : ModeNo) (t : ℕ) → is_inside (task_state (initial app mode) t) ≡ false
  none_inside mode t = elim (cases_lt t (length app.tasks)) [
    | inl known ↦ ap is_inside (get_or-map (started_task mode.0) app.tasks t no_task suspended known) ∙ started_out t (has_bit (the_task app t).autostart mode.0)
    | inr past ↦ ap is_inside (get_or_past (map (started_task mode.0) app.tasks) t suspended (subst (λ (n : ℕ). n ≤ t) (sym (length-map app.tasks (started_task mode.0))) past))
  ]

  pub start_inside : (mode : ModeNo) → mode.0 < length app.modes → IsInside app (start app mode).state
  unfolding start
  start_inside mode known =
      let s = initial app mode in
      let w = initial_is_well app mode known in
      settled_inside app s (if_any (best app s)) w (λ t f. absurd (false≢true (sym (none_inside mode t) ∙ f))) (λ t f. absurd (false≢true f))
      (any_runs app s (best app s) (best_runs app s (best app s) w refl))

same_flag : (a : Activity) → inside_as (is_inside_in a) a ≡ a
same_flag Suspended = refl
same_flag (Live x) = refl
same_flag (Waiting b) = refl

-- a task that keeps the processor is as it was, where the right tasks are inside
kept_same : (app : App) (s : State) (p : Processor) → s.processor ≡ p → IsInside app s → kept_by app s p ≡ s
kept_same app s processor.Halted e h = refl
kept_same app s processor.Idle e h = refl
kept_same app s (processor.Running t) e h =
    let x = task_state s t.0 in
    let mine : is_that_task (task_of s.processor) t.0 ≡ true = subst (λ (p : Processor). is_that_task (task_of p) t.0 ≡ true) (sym e) (eq-eqb t.0 t.0 refl) in
    let same : inside_as (is_some (internal_of app t.0)) x.activity ≡ x.activity = ap (λ (b : Bool). inside_as b x.activity) (sym (h.current t.0 mine)) ∙ same_flag x.activity in
    ap (λ (a : Activity). with_task s t.0 (record x { activity = a })) same ∙ ap (λ (tasks : List TaskState). record s { tasks = tasks }) (set-get_or s.tasks t.0 suspended)
kept_same app s (processor.Interrupted k over) e h = refl

pub kept_is_same : (app : App) (s : State) → IsInside app s → kept app s ≡ s
kept_is_same app s h = kept_same app s s.processor refl h
