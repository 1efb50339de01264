-- An instruction that leaves the tasks, an arrival and a latch leave them as they were.
use Rattle.std.proofs.Common.{◌≡◌, ◌==◌, ◌||◌, not, ℕ, Bool, List, true, false, None, Some, is_some, slice_index_or, refl, sym, ap, ◌∙◌, subst, inl, inr, arith, option_map, nat_lt, ◌+◌, ◌<◌, length, get_or-set_same, get_or-set_other}
use Rattle.std.proofs.{lemmas.Bool.{cases_Bool, false≢true}, Math.ListN.{length-set}}
use Rattle.std.specs.{Prelude.{if◌then◌else◌}, declared.option.Option.{Option}}
use Rattle.osek_values.specs.declared.{event.Event.{Event, TheVariants.{Run, Irq, Tick}}, numbers.{SourceNo.{SourceNo}}}
use Rattle.osek_values.specs.declared.status.Ask.{Ask}
use Rattle.osek_values.specs.declared.status.Ask.TheVariants as ask
use Rattle.osek_standard.specs.declared.{app.App.{App}, block.{Block.{Block}, Kind.{Kind}}, state.{State.{State}, Processor.{Processor}, Caller.{Caller, TheVariants.{Nobody, Task, Routine}}}}
use Rattle.osek_standard.specs.declared.task_state.{Place.{Place}, TaskState.{TaskState}, Activity.{Activity, TheVariants.{Suspended, Live, Waiting}}}
use Rattle.osek_standard.specs.{Apps.{is_counter, is_cycle, is_extended, max_of, the_block}, TaskStates.{is_inside_in, is_suspended, suspended}, States.{alarm_state, caller, here, nowhere, with_latch, task_of, task_state}, Internal.{inside_as, internal_of, kept, kept_by, with_inside}}
use Rattle.osek_standard.specs.{Effects.{Effect, asked_by, asks_as, effect, effect_at, effect_by, moved, moved_by, moved_to, noted, place_at, standing_at, task_at}, Services.{Answer, cancel_alarm, count_up, counted_by, due, expire, get_alarm, get_event, is_due_at, is_idle, set_abs_alarm, set_rel_alarm, time_left, unnoted, value_of}, Arrivals.{arrival, entered}}
use Rattle.osek_standard.specs.{Dispatch.{Keep, Stepped, concluded, outcome_by, outcome_of, silent}, Kernel.{entered_or, run_by}, Well.{Well, IsActive, IsProcessor}}
use Rattle.osek_standard.specs.declared.block.Kind.TheVariants as kind
use Rattle.osek_standard.specs.declared.state.Processor.TheVariants as processor
use Rattle.osek_standard.proofs.{BoolLaws.{either_way}, Keeps.{task_after}}
use Rattle.image_model.specs.CallNames as call
use Rattle.image_model.specs.{declared.{image.Image.{Image}, site.Site.{Site}}, ImageStep.{formed_at, image_step, instructed}}
use Rattle.image_run.proofs.OtherEffects.{asked_no}
use Rattle.image_run.specs.Quiet.{IsQuiet, IsQuietAt, IsQuietHere, IsSettled, KeepsTasks, leaves_tasks}

moved_processor : (s : State) (p : Processor) (to : Place) → (moved_by s p to).processor ≡ s.processor
moved_processor s processor.Halted to = refl
moved_processor s processor.Idle to = refl
moved_processor s (processor.Running t) to = refl
moved_processor s (processor.Interrupted k over) to = refl

-- at another place, and inside or not as before, a task differs in its place alone
settled_there : (b : Bool) (a : Activity) (to : Place) → is_inside_in a ≡ b → standing_at (inside_as b (standing_at a to)) nowhere ≡ standing_at a nowhere
settled_there b Suspended to e = refl
settled_there b (Live x) to e = ap (λ (c : Bool). Live (record x { at = nowhere; inside = c })) (sym e)
settled_there b (Waiting w) to e = refl

module _ (app : App) (s : State) (w : Well app s) (to : Place) where
  -- a move, and the processor kept
  kept_moved : (p : Processor) → IsProcessor app s p → IsSettled app s p → (t : ℕ) → task_at (task_state (kept_by app (moved_by s p to) p) t) nowhere ≡ task_at (task_state s t) nowhere
  kept_moved processor.Halted h e t = refl
  kept_moved processor.Idle h e t = refl
  kept_moved (processor.Running u) h e t =
      let x = task_state s u.0 in
      let b = is_some (internal_of app u.0) in
      let r = moved_by s (processor.Running u) to in
      let there : u.0 < length s.tasks = omega (arith, w.tasks_len, h.running.0) in
      let here : task_state r u.0 ≡ task_at x to = get_or-set_same s.tasks u.0 (task_at x to) suspended there in
      task_after r u.0 (record (task_state r u.0) { activity = inside_as b (task_state r u.0).activity }) (omega (arith, there, length-set s.tasks u.0 (task_at x to)))
      (λ (v : ℕ) (y : TaskState). task_at y nowhere ≡ task_at (task_state s v) nowhere)
      (subst (λ (y : TaskState). task_at (record y { activity = inside_as b y.activity }) nowhere ≡ task_at x nowhere) (sym here)
      (ap (λ (a : Activity). record x { activity = a }) (settled_there b x.activity to e)))
      (λ v other. ap (λ (y : TaskState). task_at y nowhere) (get_or-set_other s.tasks u.0 v (task_at x to) suspended other)) t
  kept_moved (processor.Interrupted k over) h e t = refl

  kept_processor : (r : State) (p : Processor) → task_of (kept_by app r p).processor ≡ task_of r.processor
  kept_processor r processor.Halted = refl
  kept_processor r processor.Idle = refl
  kept_processor r (processor.Running u) = refl
  kept_processor r (processor.Interrupted k over) = refl

  tasks_kept : (q m : State) (p : Processor) → q.tasks ≡ m.tasks → (kept_by app q p).tasks ≡ (kept_by app m p).tasks
  tasks_kept q m processor.Halted e = e
  tasks_kept q m processor.Idle e = e
  tasks_kept q m (processor.Running u) e = ap (λ (l : List TaskState). (with_inside (record m { tasks = l }) u.0 (is_some (internal_of app u.0))).tasks) e
  tasks_kept q m (processor.Interrupted k over) e = e

  -- a state that has the tasks and the processor of a move
  moves_on : (q : State) → q.tasks ≡ (moved s to).tasks → q.processor ≡ (moved s to).processor → IsSettled app s s.processor → KeepsTasks s (kept app q)
  moves_on q tasks processor e = let same : q.processor ≡ s.processor = processor ∙ moved_processor s s.processor to in record {
    current = kept_processor q q.processor ∙ ap task_of same;
    tasks = λ t. subst (λ (p : Processor). task_at (task_state (kept_by app q p) t) nowhere ≡ task_at (task_state s t) nowhere) (sym same)
        (ap (λ (l : List TaskState). task_at (slice_index_or l t suspended) nowhere) (tasks_kept q (moved s to) s.processor tasks) ∙ kept_moved s.processor w.processor e t);
  }

-- an answer that changes no task and not the processor, and asks nothing
abbrev IsAside : State → Answer → Type 0
IsAside r a = ((a.state.tasks ≡ r.tasks) × (a.state.processor ≡ r.processor)) × (a.ask ≡ ask.No)

module _ (app : App) (r : State) where
  counted_aside : (c : Caller) → IsAside r (unnoted (counted_by app r c) ask.No)
  unfolding count_up
  counted_aside Nobody = ((refl, refl), refl)
  counted_aside (Task t) = ((refl, refl), refl)
  counted_aside (Routine k) =
      ((either_way (λ (q : State). q.tasks ≡ r.tasks) (is_counter app k.0) _ _ refl refl, either_way (λ (q : State). q.processor ≡ r.processor) (is_counter app k.0) _ _ refl refl), refl)

  get_event_aside : (t : ℕ) → IsAside r (get_event app r t)
  unfolding get_event
  get_event_aside t = either_way (IsAside r) (not (is_extended app t)) _ _ ((refl, refl), refl)
      (either_way (IsAside r) (is_suspended (task_state r t)) _ _ ((refl, refl), refl) ((refl, refl), refl))

  cancel_alarm_aside : (a : ℕ) → IsAside r (cancel_alarm app r a)
  unfolding cancel_alarm
  cancel_alarm_aside a = either_way (IsAside r) (is_idle (alarm_state r a)) _ _ ((refl, refl), refl) ((refl, refl), refl)

  time_left_aside : (a : ℕ) (o : Option ℕ) → IsAside r (time_left app r a o)
  time_left_aside a None = ((refl, refl), refl)
  time_left_aside a (Some at) = ((refl, refl), refl)

  get_alarm_aside : (a : ℕ) → IsAside r (get_alarm app r a)
  unfolding get_alarm
  get_alarm_aside a = time_left_aside a (due (alarm_state r a))

  expire_aside : (a : ℕ) → is_due_at (due (alarm_state r a)) (value_of app r a) ≡ false → IsAside r (expire app r a)
  unfolding expire
  expire_aside a e = (rw e ((refl, refl), refl))

  set_rel_alarm_aside : (a i y : ℕ) → IsAside r (set_rel_alarm app r a i y)
  unfolding set_rel_alarm
  set_rel_alarm_aside a i y = either_way (IsAside r) (not (is_idle (alarm_state r a))) _ _ ((refl, refl), refl)
      (either_way (IsAside r) ((i == 0) || nat_lt (max_of app a) i || not (is_cycle app a y)) _ _ ((refl, refl), refl) ((refl, refl), refl))

  set_abs_alarm_aside : (a i y : ℕ) → IsAside r (set_abs_alarm app r a i y)
  unfolding set_abs_alarm
  set_abs_alarm_aside a i y = either_way (IsAside r) (not (is_idle (alarm_state r a))) _ _ ((refl, refl), refl)
      (either_way (IsAside r) (nat_lt (max_of app a) i || not (is_cycle app a y)) _ _ ((refl, refl), refl) ((refl, refl), refl))

-- a move is at no other time
due_moved : (app : App) (s : State) (to : Place) (a : ℕ) (p : Processor) →
    is_due_at (due (alarm_state (moved_by s p to) a)) (value_of app (moved_by s p to) a) ≡ is_due_at (due (alarm_state s a)) (value_of app s a)
due_moved app s to a processor.Halted = refl
due_moved app s to a processor.Idle = refl
due_moved app s to a (processor.Running t) = refl
due_moved app s to a (processor.Interrupted k over) = refl

not_true : (b : Bool) → not b ≡ true → b ≡ false
not_true true e = absurd (false≢true e)
not_true false e = refl

module _ (app : App) (s : State) (choice : Bool) where
  -- the effect is a move, and changes beside it no task and not the processor
  record IsMove (e : Effect) : Type 0 where
    to : Place
    tasks : e.state.tasks ≡ (moved s to).tasks
    processor : e.state.processor ≡ (moved s to).processor
    asks : e.ask ≡ ask.No

  -- a move alone
  alone : (to : Place) (e : Effect) → e ≡ noted app (unnoted (moved s to) ask.No) → IsMove e
  alone to e is = record {
    to = to;
    tasks = ap (λ (x : Effect). x.state.tasks) is;
    processor = ap (λ (x : Effect). x.state.processor) is;
    asks = ap (λ (x : Effect). x.ask) is;
  }

  by_call : (b : Block) (k : Kind) (a : Answer) → IsAside (moved_to s b.next) a → IsMove (noted app (asks_as app (caller s.processor) k a))
  by_call b k a h = record {
    to = place_at b.next 0;
    tasks = h.0.0;
    processor = h.0.1;
    asks = ap (asked_by app (caller s.processor) k) h.1 ∙ asked_no app (caller s.processor) k;
  }

  moves_by : (p : Place) (b : Block) (k : Kind) → leaves_tasks app s k ≡ true → IsMove (effect_at app s choice p b k)
  moves_by p b (kind.Work n) e = elim (cases_Bool (nat_lt (p.offset + 1) n)) [
    | inl f ↦ alone (place_at p.block (p.offset + 1)) _ (rw f refl)
    | inr f ↦ alone (place_at b.next 0) _ (rw f refl)
  ]
  moves_by p b (kind.Choice other) e = alone (place_at (if choice then b.next else other) 0) _ refl
  moves_by p b kind.Loop e = by_call b _ _ ((refl, refl), refl)
  moves_by p b kind.CountUp e = by_call b _ _ (counted_aside app (moved_to s b.next) (caller s.processor))
  moves_by p b (kind.Call (call.Lock l)) e = by_call b _ _ ((refl, refl), refl)
  moves_by p b (kind.Call (call.Plain call.GetTaskId)) e = by_call b _ _ ((refl, refl), refl)
  moves_by p b (kind.Call (call.Plain call.GetActiveApplicationMode)) e = by_call b _ _ ((refl, refl), refl)
  moves_by p b (kind.Call (call.Task call.GetEvent t)) e = by_call b _ _ (get_event_aside app (moved_to s b.next) t.0)
  moves_by p b (kind.Call (call.Task call.GetTaskState t)) e = by_call b _ _ ((refl, refl), refl)
  moves_by p b (kind.Call (call.Alarm call.CancelAlarm a)) e = by_call b _ _ (cancel_alarm_aside app (moved_to s b.next) a.0)
  moves_by p b (kind.Call (call.Alarm call.GetAlarm a)) e = by_call b _ _ (get_alarm_aside app (moved_to s b.next) a.0)
  moves_by p b (kind.Call (call.Arm call.SetRelAlarm a i y)) e = by_call b _ _ (set_rel_alarm_aside app (moved_to s b.next) a.0 i y)
  moves_by p b (kind.Call (call.Arm call.SetAbsAlarm a i y)) e = by_call b _ _ (set_abs_alarm_aside app (moved_to s b.next) a.0 i y)
  moves_by p b (kind.Call (call.Plain call.TerminateTask)) e = absurd (cc)
  moves_by p b (kind.Call (call.Plain call.Schedule)) e = absurd (cc)
  moves_by p b (kind.Call (call.Task call.ActivateTask t)) e = absurd (cc)
  moves_by p b (kind.Call (call.Task call.ChainTask t)) e = absurd (cc)
  moves_by p b (kind.Call (call.Resource v r)) e = absurd (cc)
  moves_by p b (kind.Call (call.SetEvent t m)) e = absurd (cc)
  moves_by p b (kind.Call (call.Mask v m)) e = absurd (cc)
  moves_by p b (kind.Call call.ShutdownOs) e = absurd (cc)
  moves_by p b kind.TaskEnd e = absurd (cc)
  moves_by p b kind.IsrEnd e = absurd (cc)
  moves_by p b (kind.Expire a) e =
      by_call b _ _ (expire_aside app (moved_to s b.next) a.0 (due_moved app s (place_at b.next 0) a.0 s.processor ∙ not_true (is_due_at (due (alarm_state s a.0)) (value_of app s a.0)) e))

  moves : IsActive s.processor → leaves_tasks app s (the_block app (here s).block.0).kind ≡ true → IsMove (effect app s choice)
  unfolding effect
  moves active e = moves_from s.processor active where
    moves_from : (p : Processor) → IsActive p → IsMove (effect_by app s choice p)
    moves_from processor.Halted h = absurd h
    moves_from processor.Idle h = absurd h
    moves_from (processor.Running t) h = moves_by (here s) (the_block app (here s).block.0) (the_block app (here s).block.0).kind e
    moves_from (processor.Interrupted k over) h = moves_by (here s) (the_block app (here s).block.0) (the_block app (here s).block.0).kind e

module _ (i : Image) (s : State) (w : Well i.app s) where
  instructed_quietly : (choice : Bool) (r : Stepped) → IsActive s.processor → IsQuietHere i s → instructed i s choice ≡ Some r → KeepsTasks s r.state
  unfolding instructed
  instructed_quietly choice r active q is =
      let m = moves i.app s choice active q.leaves in
      let known : Some (concluded i.app (effect i.app s choice) (outcome_of i.app (effect i.app s choice))) ≡ Some r =
      subst (λ (o : Option Site). option_map (concluded i.app (effect i.app s choice)) (formed_at i.app (effect i.app s choice) o) ≡ Some r) q.no_site is in
      let keeps : concluded i.app (effect i.app s choice) (outcome_of i.app (effect i.app s choice)) ≡ concluded i.app (effect i.app s choice) Keep =
      ap (λ (a : Ask). concluded i.app (effect i.app s choice) (outcome_by i.app (effect i.app s choice).state a)) m.asks in
      let after : r ≡ concluded i.app (effect i.app s choice) Keep = cc in
      subst (λ (n : Stepped). KeepsTasks s n.state) (sym after) (moves_on i.app s w m.to (effect i.app s choice).state m.tasks m.processor q.settled)

  silently : (r : Stepped) → Some (silent s) ≡ Some r → KeepsTasks s r.state
  silently r e = let same : silent s ≡ r = cc in subst (λ (n : Stepped). KeepsTasks s n.state) same (record { current = refl; tasks = λ t. refl })

  enters : (k : SourceNo) (r : Stepped) → Some (silent (entered i.app s k)) ≡ Some r → KeepsTasks s r.state
  enters k r e = let same : silent (entered i.app s k) ≡ r = cc in subst (λ (n : Stepped). KeepsTasks s n.state) same (record { current = refl; tasks = λ t. refl })

  entered_quietly : (d : Option Stepped) (o : Option SourceNo) (r : Stepped) → (d ≡ Some r → KeepsTasks s r.state) → entered_or Some i.app s d o ≡ Some r → KeepsTasks s r.state
  entered_quietly d None r h e = h e
  entered_quietly d (Some k) r h e = enters k r e

  run_quietly : (choice : Bool) (r : Stepped) (p : Processor) → s.processor ≡ p → IsQuietAt i s p → run_by Some i.app s (instructed i s choice) p ≡ Some r → KeepsTasks s r.state
  run_quietly choice r processor.Halted at q e = silently r e
  run_quietly choice r processor.Idle at q e = entered_quietly (Some (silent s)) (arrival i.app s) r (silently r) e
  run_quietly choice r (processor.Running t) at q e =
      entered_quietly (instructed i s choice) (arrival i.app s) r (instructed_quietly choice r (subst IsActive (sym at) tt) q) e
  run_quietly choice r (processor.Interrupted k over) at q e =
      entered_quietly (instructed i s choice) (arrival i.app s) r (instructed_quietly choice r (subst IsActive (sym at) tt) q) e

  latches : (k : ℕ) (r : Stepped) → Some (silent (with_latch s k true)) ≡ Some r → KeepsTasks s r.state
  latches k r e = let same : silent (with_latch s k true) ≡ r = cc in subst (λ (n : Stepped). KeepsTasks s n.state) same (record { current = refl; tasks = λ t. refl })

  pub steps_quietly : (e : Event) (r : Stepped) → IsQuiet i s e → image_step i s e ≡ Some r → KeepsTasks s r.state
  steps_quietly (Run choice) r q is = run_quietly choice r s.processor refl q is
  steps_quietly (Irq k) r q is = latches (length i.app.counters + k.0) r is
  steps_quietly (Tick c) r q is = latches c.0 r is
