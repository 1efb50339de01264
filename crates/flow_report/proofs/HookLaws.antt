-- The hooks of a step are those that are due, by where it begins and what it shows.
use Rattle.std.proofs.Common.{◌≡◌, ℕ, Bool, true, false, ◌||◌, ◌&&◌, not, nat_lt, nat_eq, ◌+◌, refl, sym, ap, ap₂, subst, ◌∙◌, Some, None}
use Rattle.std.specs.{Prelude.{⊤, is_some, bit_or}, declared.option.Option.{Option}}
use Rattle.std.proofs.Math.Bool.{or-true}
use Rattle.osek_values.specs.declared.{status.Ask.{Ask}, hooks.HookSet.{HookSet}, event.Event.{Event, TheVariants.{Run, Irq, Tick}}}
use Rattle.osek_values.specs.declared.status.Ask.TheVariants as ask
use Rattle.osek_values.specs.declared.numbers.{TaskNo.{TaskNo}, BlockNo.{BlockNo}, ResNo.{ResNo}, SourceNo.{SourceNo}}
use Rattle.osek_values.specs.Hooks.{hook_set, shutdown, error, pre_task, post_task, when}
use Rattle.oil_system.specs.declared.objects.{Schedule.{Schedule, TheVariants.{Full, Non}}}
use Rattle.osek_standard.specs.declared.{app.App.{App}, block.{Block.{Block}, Kind.{Kind}}, call.Call.{Call}, task_state.Place.{Place}}
use Rattle.osek_standard.specs.declared.block.Kind.TheVariants as kind
use Rattle.image_model.specs.CallNames as call
use Rattle.osek_standard.specs.declared.state.{State.{State}, Processor.{Processor}, Caller.{Caller, TheVariants.{Nobody, Task, Routine}}}
use Rattle.osek_standard.specs.declared.state.Processor.TheVariants as processor
use Rattle.osek_standard.specs.declared.state.Source.TheVariants as source
use Rattle.osek_standard.specs.{Apps.{the_block, the_task, is_extended, is_cycle, max_of}, TaskStates.{held, is_suspended}, States.{task_of, caller, here, task_state, alarm_state, is_taken, with_source}}
use Rattle.osek_standard.specs.{Priority.{base_priority, ceiling}, Levels.{interrupt_ceiling, next_routine, own_level}, Well.{IsActive}, Arrivals.{arrival}, Points.{point_at, point_of}}
use Rattle.osek_standard.specs.Services.{Answer, activate_task, cancel_alarm, chain_task, clear_event, due, expire, get_alarm, get_event, get_resource, get_resource_by, get_resource_isr}
use Rattle.osek_standard.specs.Services.{holds_some, is_due_at, is_full, is_idle, is_on_top, release_resource, release_resource_by, release_resource_isr, schedule, set_abs_alarm}
use Rattle.osek_standard.specs.Services.{set_event, set_rel_alarm, share, stack_of_source, terminate_task, time_left, unnoted, value_of, wait_event, waits_for}
use Rattle.osek_standard.specs.Effects.{Effect, effect, effect_at, is_error, is_schedule, wanted, noted, row, called, asked_by, asked_under, asks_as, end_task, given_back}
use Rattle.osek_standard.specs.Effects.{goes_on_unless_left, asked_over, moved, moved_to, place_at, returned_by, returned_to}
use Rattle.osek_standard.specs.Dispatch.{Outcome, Keep, To, Stepped, outcome, outcome_by, outcome_of, outcome_hooks, is_left, preempted_by, instruction, silent, hooks_of}
use Rattle.osek_standard.specs.{Kernel.{step, run_by, entered_or}, Outcomes.{Mark, Silent, did, arrived_or, shown_by, shows}}
use Rattle.osek_standard.proofs.BoolLaws.{either_way}
use Rattle.generic_kernel.proofs.EffectLaws.{effect_here}
use Rattle.flow_report.specs.Noting.{is_shutdown, over_some, dispatch_hooks_at, shuts_down, due_hooks}
use Rattle.flow_report.proofs.HookBits.{and_over_or, wanted_none}

-- ---- what an effect notes

either_alone : (b : Bool) → when b error ≡ bit_or (when b error) 0
either_alone true = refl
either_alone false = refl

module _ (app : App) where
  HasHooks : Kind → Effect → Type 0
  HasHooks k e = e.notes.hooks ≡ wanted app (bit_or (when (is_error e.notes.status) error) (when (is_shutdown k) shutdown))

  has_by : (k : Kind) (e : Effect) → e.notes.hooks ≡ wanted app (when (is_error e.notes.status) error) → is_shutdown k ≡ false → HasHooks k e
  unfolding HasHooks
  has_by k e is other =
      is ∙ ap (wanted app) (either_alone (is_error e.notes.status)) ∙ ap (λ (b : Bool). wanted app (bit_or (when (is_error e.notes.status) error) (when b shutdown))) (sym other)

  effect_at_has : (s : State) (choice : Bool) (p : Place) (b : Block) (k : Kind) → HasHooks k (effect_at app s choice p b k)
  unfolding HasHooks
  effect_at_has s choice p b (kind.Work n) = has_by (kind.Work n) (effect_at app s choice p b (kind.Work n)) refl refl
  effect_at_has s choice p b (kind.Choice other) = has_by (kind.Choice other) (effect_at app s choice p b (kind.Choice other)) refl refl
  effect_at_has s choice p b (kind.Call (call.Mask call.WaitEvent m)) = has_by (kind.Call (call.Mask call.WaitEvent m)) (effect_at app s choice p b (kind.Call (call.Mask call.WaitEvent m))) refl refl
  effect_at_has s choice p b (kind.Call call.ShutdownOs) = refl
  effect_at_has s choice p b kind.TaskEnd = has_by kind.TaskEnd (effect_at app s choice p b kind.TaskEnd) refl refl
  effect_at_has s choice p b kind.IsrEnd = has_by kind.IsrEnd (effect_at app s choice p b kind.IsrEnd) refl refl
  effect_at_has s choice p b k = has_by k (effect_at app s choice p b k) refl refl

-- ---- no service asks as the end of a routine over none

abbrev pub is_free : Ask → Bool
is_free ask.No = false
is_free ask.Maybe = false
is_free ask.Left = false
is_free ask.Free = true

abbrev IsUnfree : Answer → Type 0
IsUnfree a = is_free a.ask ≡ false

module _ (app : App) (s : State) where
  activate_unfree : (t : ℕ) → IsUnfree (activate_task app s t)
  unfolding activate_task
  activate_unfree t = either_way IsUnfree (is_full app s t) _ _ refl refl

  terminate_unfree : (c : Caller) → IsUnfree (terminate_task app s c)
  unfolding terminate_task
  terminate_unfree Nobody = refl
  terminate_unfree (Routine k) = refl
  terminate_unfree (Task c) = either_way IsUnfree (holds_some s c.0) _ _ refl refl

  chain_unfree : (c : Caller) (t : ℕ) → IsUnfree (chain_task app s c t)
  unfolding chain_task
  chain_unfree Nobody t = refl
  chain_unfree (Routine k) t = refl
  chain_unfree (Task c) t = either_way IsUnfree (holds_some s c.0) _ _ refl (either_way IsUnfree (not (nat_eq t c.0) && is_full app s t) _ _ refl refl)

  schedule_unfree : (c : Caller) → IsUnfree (schedule s c)
  unfolding schedule
  schedule_unfree Nobody = refl
  schedule_unfree (Routine k) = refl
  schedule_unfree (Task c) = either_way IsUnfree (holds_some s c.0) _ _ refl refl

  get_resource_unfree : (c : Caller) (r : ResNo) → IsUnfree (get_resource_by app s c r)
  unfolding get_resource get_resource_isr
  get_resource_unfree Nobody r = refl
  get_resource_unfree (Routine k) r = either_way IsUnfree (is_taken s r.0 || nat_lt (interrupt_ceiling app r.0) (own_level app k.0)) _ _ refl refl
  get_resource_unfree (Task c) r = either_way IsUnfree (is_taken s r.0 || nat_lt (ceiling app r.0) (base_priority app c.0)) _ _ refl refl

  release_resource_unfree : (c : Caller) (r : ResNo) → IsUnfree (release_resource_by app s c r)
  unfolding release_resource release_resource_isr
  release_resource_unfree Nobody r = refl
  release_resource_unfree (Routine k) r =
      either_way IsUnfree (nat_lt (interrupt_ceiling app r.0) (own_level app k.0)) _ _ refl (either_way IsUnfree (is_on_top r.0 (stack_of_source app s k.0)) _ _ refl refl)
  release_resource_unfree (Task c) r = either_way IsUnfree (nat_lt (ceiling app r.0) (base_priority app c.0)) _ _ refl (either_way IsUnfree (is_on_top r.0 (held (task_state s c.0))) _ _ refl refl)

  set_event_unfree : (t m : ℕ) → IsUnfree (set_event app s t m)
  unfolding set_event
  set_event_unfree t m = either_way IsUnfree (not (is_extended app t)) _ _ refl (either_way IsUnfree (is_suspended (task_state s t)) _ _ refl (either_way IsUnfree (waits_for app s t m) _ _ refl refl))

  clear_event_unfree : (c : Caller) (m : ℕ) → IsUnfree (clear_event app s c m)
  unfolding clear_event
  clear_event_unfree Nobody m = refl
  clear_event_unfree (Routine k) m = refl
  clear_event_unfree (Task c) m = either_way IsUnfree (not (is_extended app c.0)) _ _ refl refl

  get_event_unfree : (t : ℕ) → IsUnfree (get_event app s t)
  unfolding get_event
  get_event_unfree t = either_way IsUnfree (not (is_extended app t)) _ _ refl (either_way IsUnfree (is_suspended (task_state s t)) _ _ refl refl)

  wait_event_unfree : (c : Caller) (m : ℕ) (next : BlockNo) → IsUnfree (goes_on_unless_left next (wait_event app s c m))
  unfolding wait_event
  wait_event_unfree Nobody m next = refl
  wait_event_unfree (Routine k) m next = refl
  wait_event_unfree (Task c) m next =
      let P : Answer → Type 0 = λ a. IsUnfree (goes_on_unless_left next a) in
      either_way P (not (is_extended app c.0)) _ _ refl (either_way P (holds_some s c.0) _ _ refl (either_way P (share (task_state s c.0).events.0 m) _ _ refl refl))

  wait_alone_unfree : (c : Caller) (m : ℕ) → IsUnfree (wait_event app s c m)
  unfolding wait_event
  wait_alone_unfree Nobody m = refl
  wait_alone_unfree (Routine k) m = refl
  wait_alone_unfree (Task c) m = either_way IsUnfree (not (is_extended app c.0)) _ _ refl (either_way IsUnfree (holds_some s c.0) _ _ refl (either_way IsUnfree (share (task_state s c.0).events.0 m) _ _ refl refl))

  set_rel_alarm_unfree : (a i c : ℕ) → IsUnfree (set_rel_alarm app s a i c)
  unfolding set_rel_alarm
  set_rel_alarm_unfree a i c = either_way IsUnfree (not (is_idle (alarm_state s a))) _ _ refl (either_way IsUnfree (nat_eq i 0 || nat_lt (max_of app a) i || not (is_cycle app a c)) _ _ refl refl)

  set_abs_alarm_unfree : (a i c : ℕ) → IsUnfree (set_abs_alarm app s a i c)
  unfolding set_abs_alarm
  set_abs_alarm_unfree a i c = either_way IsUnfree (not (is_idle (alarm_state s a))) _ _ refl (either_way IsUnfree (nat_lt (max_of app a) i || not (is_cycle app a c)) _ _ refl refl)

  cancel_alarm_unfree : (a : ℕ) → IsUnfree (cancel_alarm app s a)
  unfolding cancel_alarm
  cancel_alarm_unfree a = either_way IsUnfree (is_idle (alarm_state s a)) _ _ refl refl

  time_left_unfree : (a : ℕ) (o : Option ℕ) → IsUnfree (time_left app s a o)
  time_left_unfree a None = refl
  time_left_unfree a (Some at) = refl

  get_alarm_unfree : (a : ℕ) → IsUnfree (get_alarm app s a)
  unfolding get_alarm
  get_alarm_unfree a = time_left_unfree a (due (alarm_state s a))

  expire_unfree : (a : ℕ) → IsUnfree (expire app s a)
  unfolding expire
  expire_unfree a = either_way IsUnfree (is_due_at (due (alarm_state s a)) (value_of app s a)) _ _ refl refl

  row_unfree : (c : Caller) (k : Call) → IsUnfree (row app s c k)
  row_unfree c (call.Task call.ActivateTask t) = activate_unfree t.0
  row_unfree c (call.Plain call.TerminateTask) = terminate_unfree c
  row_unfree c (call.Task call.ChainTask t) = chain_unfree c t.0
  row_unfree c (call.Plain call.Schedule) = schedule_unfree c
  row_unfree c (call.Resource call.GetResource r) = get_resource_unfree c r
  row_unfree c (call.Resource call.ReleaseResource r) = release_resource_unfree c r
  row_unfree c (call.SetEvent t m) = set_event_unfree t.0 m.0
  row_unfree c (call.Mask call.ClearEvent m) = clear_event_unfree c m.0
  row_unfree c (call.Task call.GetEvent t) = get_event_unfree t.0
  row_unfree c (call.Mask call.WaitEvent m) = wait_alone_unfree c m.0
  row_unfree c (call.Arm call.SetRelAlarm a i y) = set_rel_alarm_unfree a.0 i y
  row_unfree c (call.Arm call.SetAbsAlarm a i y) = set_abs_alarm_unfree a.0 i y
  row_unfree c (call.Alarm call.CancelAlarm a) = cancel_alarm_unfree a.0
  row_unfree c (call.Alarm call.GetAlarm a) = get_alarm_unfree a.0
  row_unfree c (call.Plain call.GetTaskId) = refl
  row_unfree c (call.Task call.GetTaskState t) = refl
  row_unfree c (call.Plain call.GetActiveApplicationMode) = refl
  row_unfree c call.ShutdownOs = refl
  row_unfree c (call.Lock l) = refl

  called_unfree : (c : Caller) (k : Kind) → IsUnfree (called app s c k)
  called_unfree c (kind.Work n) = refl
  called_unfree c (kind.Choice o) = refl
  called_unfree c kind.Loop = refl
  called_unfree c (kind.Call k) = row_unfree c k
  called_unfree c kind.TaskEnd = refl
  called_unfree c kind.IsrEnd = refl
  called_unfree c kind.CountUp = refl
  called_unfree c (kind.Expire a) = expire_unfree a.0

-- ---- from whom the processor goes

-- a task asks otherwise, and a routine asks nothing
AsksAs : Caller → Ask → Type 0
AsksAs Nobody a = ⊤
AsksAs (Routine k) a = a ≡ ask.No
AsksAs (Task t) a = is_free a ≡ false

asks_nothing : (c : Caller) → AsksAs c ask.No
unfolding AsksAs
asks_nothing Nobody = tt
asks_nothing (Routine k) = refl
asks_nothing (Task t) = refl

under_unfree : (x : Schedule) (k : Kind) → is_free (asked_under x k) ≡ false
under_unfree Full k = refl
under_unfree Non k = either_way (λ (a : Ask). is_free a ≡ false) (is_schedule k) _ _ refl refl

abbrev pub has_task : Processor → Bool
has_task processor.Halted = false
has_task processor.Idle = false
has_task (processor.Running t) = true
has_task (processor.Interrupted k over) = is_some over

kept : (x : Option TaskNo) → Keep ≡ To x → ⊥
kept x e = cc

module _ (app : App) where
  asked_unfree : (t : TaskNo) (k : Kind) (a : Ask) → is_free a ≡ false → is_free (asked_by app (Task t) k a) ≡ false
  asked_unfree t k ask.No e = refl
  asked_unfree t k ask.Maybe e = under_unfree (the_task app t.0).schedule k
  asked_unfree t k ask.Left e = refl
  asked_unfree t k ask.Free e = e

  row_asks : (c : Caller) (k : Kind) (a : Answer) → IsUnfree a → AsksAs c (noted app (asks_as app c k a)).ask
  unfolding AsksAs
  row_asks Nobody k a h = tt
  row_asks (Routine r) k a h = refl
  row_asks (Task t) k a h = asked_unfree t k a.ask h

  wait_asks : (s : State) (c : Caller) (m : ℕ) (next : BlockNo) → AsksAs c (noted app (goes_on_unless_left next (wait_event app s c m))).ask
  unfolding AsksAs wait_event
  wait_asks s Nobody m next = tt
  wait_asks s (Routine k) m next = refl
  wait_asks s (Task c) m next = wait_event_unfree app s (Task c) m next

  end_asks : (s : State) (c : Caller) → AsksAs c (noted app (end_task app s c)).ask
  unfolding AsksAs
  end_asks s Nobody = tt
  end_asks s (Routine k) = refl
  end_asks s (Task c) = refl

  -- where a task gets the processor or none does, it goes from the task that the point is of or over
  abbrev PostsAs : Processor → Effect → Type 0
  PostsAs q e = (x : Option TaskNo) → outcome_of app e ≡ To x → (is_left e.ask || is_some (task_of e.state.processor)) ≡ has_task q

  preempts : (s : State) (q : Processor) (x : Option TaskNo) → preempted_by app s (caller q) ≡ To x → is_some (task_of q) ≡ true
  preempts s processor.Halted x e = absurd (kept x e)
  preempts s processor.Idle x e = absurd (kept x e)
  preempts s (processor.Running t) x e = refl
  preempts s (processor.Interrupted k over) x e = absurd (kept x e)

  posts_by : (s : State) (a : Ask) (x : Option TaskNo) → is_free a ≡ false → outcome_by app s a ≡ To x → (is_left a || is_some (task_of s.processor)) ≡ true
  posts_by s ask.No x u e = absurd (kept x e)
  posts_by s ask.Maybe x u e = preempts s s.processor x e
  posts_by s ask.Left x u e = refl
  posts_by s ask.Free x u e = absurd (cc)

  from_caller : (q : Processor) (e : Effect) → IsActive q → AsksAs (caller q) e.ask → PostsAs q e
  unfolding AsksAs
  from_caller processor.Halted e active h = absurd active
  from_caller processor.Idle e active h = absurd active
  from_caller (processor.Running t) e active h = λ x o. posts_by e.state e.ask x h o
  from_caller (processor.Interrupted k over) e active h = λ x o. absurd (kept x (sym (ap (outcome_by app e.state) h) ∙ o))

  given_back_posts : (s : State) (k : SourceNo) (over : Option TaskNo) → PostsAs (processor.Interrupted k over) (noted app (given_back app s over))
  given_back_posts s k None = λ x o. refl
  given_back_posts s k (Some t) = λ x o. or-true (is_left (asked_over (the_task app t.0).schedule))

  -- a routine that goes on asks nothing
  returned_to_posts : (s : State) (k : SourceNo) (over : Option TaskNo) (next : Option SourceNo) → PostsAs (processor.Interrupted k over) (noted app (returned_to app s over next))
  returned_to_posts s k over None = given_back_posts s k over
  returned_to_posts s k over (Some j) = λ x o. absurd (kept x o)

  returned_posts : (s : State) (q : Processor) → IsActive q → PostsAs q (noted app (returned_by app s q))
  returned_posts s processor.Halted active = absurd active
  returned_posts s processor.Idle active = absurd active
  returned_posts s (processor.Running t) active = λ x o. absurd (kept x o)
  returned_posts s (processor.Interrupted k over) active =
      let after : State = with_source s k.0 source.Out in
      returned_to_posts after k over (next_routine app after)

  effect_at_posts : (s : State) (choice : Bool) (p : Place) (b : Block) (k : Kind) → IsActive s.processor → PostsAs s.processor (effect_at app s choice p b k)
  effect_at_posts s choice p b (kind.Work n) active =
      from_caller s.processor (effect_at app s choice p b (kind.Work n)) active
      (either_way (λ (a : Answer). AsksAs (caller s.processor) (noted app a).ask) (nat_lt (p.offset + 1) n) (unnoted (moved s (place_at p.block (p.offset + 1))) ask.No) (unnoted (moved_to s b.next) ask.No)
      (asks_nothing (caller s.processor)) (asks_nothing (caller s.processor)))
  effect_at_posts s choice p b (kind.Choice other) active = from_caller s.processor (effect_at app s choice p b (kind.Choice other)) active (asks_nothing (caller s.processor))
  effect_at_posts s choice p b (kind.Call (call.Mask call.WaitEvent m)) active = from_caller s.processor (effect_at app s choice p b (kind.Call (call.Mask call.WaitEvent m))) active (wait_asks s (caller s.processor) m.0 b.next)
  effect_at_posts s choice p b (kind.Call call.ShutdownOs) active = from_caller s.processor (effect_at app s choice p b (kind.Call call.ShutdownOs)) active (asks_nothing (caller s.processor))
  effect_at_posts s choice p b kind.TaskEnd active = from_caller s.processor (effect_at app s choice p b kind.TaskEnd) active (end_asks s (caller s.processor))
  effect_at_posts s choice p b kind.IsrEnd active = returned_posts s s.processor active
  effect_at_posts s choice p b k active =
      from_caller s.processor (effect_at app s choice p b k) active
      (row_asks (caller s.processor) k (called app (moved_to s b.next) (caller s.processor) k) (called_unfree app (moved_to s b.next) (caller s.processor) k))

-- ---- a step

module _ (app : App) (s : State) where
  abbrev kind_here : Kind
  kind_here = (the_block app (here s).block.0).kind

  -- where somebody has the processor
  shut_at : (b : BlockNo) (q : Processor) → IsActive q → shuts_down app (point_at b q) ≡ is_shutdown (the_block app b.0).kind
  shut_at b processor.Halted active = absurd active
  shut_at b processor.Idle active = absurd active
  shut_at b (processor.Running t) active = refl
  shut_at b (processor.Interrupted k over) active = refl

  over_at : (b : BlockNo) (q : Processor) → IsActive q → over_some (point_at b q) ≡ has_task q
  over_at b processor.Halted active = absurd active
  over_at b processor.Idle active = absurd active
  over_at b (processor.Running t) active = refl
  over_at b (processor.Interrupted k over) active = refl

  module _ (choice : Bool) (active : IsActive s.processor) where
    abbrev here_effect : Effect
    here_effect = effect_at app s choice (here s) (the_block app (here s).block.0) kind_here

    is_here : effect app s choice ≡ here_effect
    is_here = effect_here app s choice (here s) active refl

    noted_hooks : (effect app s choice).notes.hooks ≡ wanted app (bit_or (when (is_error (effect app s choice).notes.status) error) (when (shuts_down app (point_of s)) shutdown))
    unfolding HasHooks
    noted_hooks =
        subst (λ (e : Effect). e.notes.hooks ≡ wanted app (bit_or (when (is_error e.notes.status) error) (when (shuts_down app (point_of s)) shutdown))) (sym is_here)
        (subst (λ (b : Bool). here_effect.notes.hooks ≡ wanted app (bit_or (when (is_error here_effect.notes.status) error) (when b shutdown))) (sym (shut_at (here s).block s.processor active))
        (effect_at_has app s choice (here s) (the_block app (here s).block.0) kind_here))

    posts : PostsAs app s.processor (effect app s choice)
    posts = subst (PostsAs app s.processor) (sym is_here) (effect_at_posts app s choice (here s) (the_block app (here s).block.0) kind_here active)

    dispatch_by : (o : Outcome) → outcome app s choice ≡ o → outcome_hooks (effect app s choice).state (effect app s choice).ask o ≡ dispatch_hooks_at (point_of s) o
    dispatch_by Keep is = refl
    dispatch_by (To x) is = ap (λ (b : Bool). bit_or (when b post_task) (when (is_some x) pre_task)) (posts x is ∙ sym (over_at (here s).block s.processor active))

    instruction_hooks : (instruction app s choice).notes.hooks ≡ wanted app (due_hooks app (point_of s) (did app s choice))
    unfolding instruction
    instruction_hooks =
        let e = effect app s choice in
        let o = outcome app s choice in
        let due = bit_or (when (is_error e.notes.status) error) (when (shuts_down app (point_of s)) shutdown) in
        ap₂ (λ (h : HookSet) (n : ℕ). hooks_of h (wanted app n)) noted_hooks (dispatch_by o refl)
        ∙ ap hook_set (and_over_or app.hooks.0 due (dispatch_hooks_at (point_of s) o))

  abbrev itself : Stepped → Stepped
  itself n = n

  abbrev DueAt : Mark → Stepped → Type 0
  DueAt m n = n.notes.hooks ≡ wanted app (due_hooks app (point_of s) m)

  nothing_due : hook_set 0 ≡ wanted app 0
  nothing_due = sym (wanted_none app)

  entered_due : (m : Mark) (n : Stepped) (a : Option SourceNo) → DueAt m n → DueAt (arrived_or m a) (entered_or itself app s n a)
  entered_due m n None h = h
  entered_due m n (Some k) h = nothing_due

  run_due : (choice : Bool) (q : Processor) → s.processor ≡ q → DueAt (shown_by app s choice q) (run_by itself app s (instruction app s choice) q)
  run_due choice processor.Halted is = nothing_due
  run_due choice processor.Idle is = entered_due Silent (silent s) (arrival app s) nothing_due
  run_due choice (processor.Running t) is = entered_due (did app s choice) (instruction app s choice) (arrival app s) (instruction_hooks choice (subst IsActive (sym is) tt))
  run_due choice (processor.Interrupted k over) is = entered_due (did app s choice) (instruction app s choice) (arrival app s) (instruction_hooks choice (subst IsActive (sym is) tt))

  -- a step notes the hooks that are due
  pub step_due : (e : Event) → (step app s e).notes.hooks ≡ wanted app (due_hooks app (point_of s) (shows app s e))
  step_due (Run choice) = run_due choice s.processor refl
  step_due (Irq i) = nothing_due
  step_due (Tick c) = nothing_due
