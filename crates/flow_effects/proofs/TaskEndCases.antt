-- The cases of a task's end, TerminateTask, ChainTask and Schedule are their effects.
use Rattle.std.proofs.Common.{◌≡◌, ℕ, ◌<◌, Bool, true, false, not, nat_eq, List, [], ◌∷◌, length, refl, sym, ap, subst, ◌∙◌, inl, inr, arith, Some, None, IsTrue}
use Rattle.std.specs.Prelude.{◌==◌}
use Rattle.std.proofs.lemmas.Bool.{cases_Bool, cases_eq}
use Rattle.std.specs.declared.option.Option.{Option}
use Rattle.osek_values.specs.declared.numbers.{TaskNo.{TaskNo}, BlockNo.{BlockNo}, ResNo.{ResNo}, SourceNo.{SourceNo}}
use Rattle.osek_values.specs.declared.status.Status.TheVariants as status
use Rattle.osek_values.specs.declared.status.Ask.TheVariants as ask
use Rattle.oil_system.specs.declared.objects.Schedule.{Schedule, TheVariants.{Non, Full}}
use Rattle.osek_standard.specs.declared.{app.App.{App}, block.Kind.{Kind}}
use Rattle.osek_standard.specs.declared.block.Kind.TheVariants as kind
use Rattle.flow_effects.specs.CallNames as call
use Rattle.osek_standard.specs.declared.{state.{State.{State}, Caller.{Caller, TheVariants.{Task, Routine}}}, task_state.{TaskState.{TaskState}, Activity.{Activity}, Place.{Place}}}
use Rattle.osek_standard.specs.declared.task_state.Activity.TheVariants as activity
use Rattle.osek_standard.specs.{Apps.{the_task, the_block}, TaskStates.{further, further_in, is_live, is_live_activity}, States.{task_state, with_task, caller, place_in}}
use Rattle.osek_standard.specs.{Services.{unnoted, refused, accepted, left, ended, ended_by, holds_some, terminate_task, schedule}, Internal.{inside_as, with_inside}}
use Rattle.osek_standard.specs.{Effects.{noted, end_task, place_at, standing_at, moved_to, called, asked_under}, Well.{Well}}
use Rattle.abstract_state.specs.declared.value.ComponentNo.{ComponentNo}
use Rattle.abstract_state.specs.declared.value.{Component.{Component}, PartValue.{PartValue, TheVariants.{OfTask}}, Val.{Val, TheVariants.{Suspended, Live, Waiting}}}
use Rattle.abstract_state.specs.declared.value.Component.TheVariants as component
use Rattle.abstract_state.specs.Components.{component_count, component_at, abstract_of, live_val, part_of, value_in}
use Rattle.abstract_state.proofs.SettledParts.{inside_point}
use Rattle.flow_model.specs.declared.case.EffectCase.{EffectCase}
use Rattle.flow_model.specs.declared.case.Asked.TheVariants as asked
use Rattle.flow_model.specs.declared.test.Condition.{Condition}
use Rattle.flow_model.specs.declared.test.Test.TheVariants as test
use Rattle.flow_model.specs.declared.change.Update.{Update}
use Rattle.flow_model.specs.declared.change.Update.TheVariants as update
use Rattle.flow_model.specs.declared.runner.Runner.{Runner}
use Rattle.flow_model.specs.declared.runner.Runner.TheVariants as runner
use Rattle.flow_model.specs.{Values.{outside_at}, Tests.{passes, updated, PassesAll, value_after}, Runners.{Stands, OwnsBlock, change, runner_point}, Cases.{asked_for, asked_when}}
use Rattle.flow_model.proofs.{ChangeLaws.{passes_both, passes_left, passes_none, passes_right}, Standing.{next_owned, point_there, task_calls, routine_calls}, Instructions.{effect_there}}
use Rattle.flow_model.proofs.Moves.{activity_parts, change_here, change_there, moved_has, moved_held, moved_keeps_of, moved_parts, went_on}
use Rattle.flow_model.proofs.Calls.{IsCall, asked_none, call_goes_on, call_has, has_effect, moved_line, same_line}
use Rattle.flow_model.specs.Effects.{AreCasesOf}
use Rattle.flow_effects.specs.Conditions.{of_task}
use Rattle.flow_effects.specs.TaskEnds.{further_test, end_update, end_change, and_further, ends, both_ends, task_end_cases, refused_holding, holding_nothing, terminate_cases, reschedules, schedule_cases}
use Rattle.flow_services.proofs.Seeing.{task_value}
use Rattle.flow_effects.proofs.Listed.{IsEffect, IsTaken, are_cases, more_listed, one_listed, taken_then}
use Rattle.flow_effects.proofs.TaskValues.{further_is, is_further, task_passes, passes_task, some_is, holds_none, none_holds, stands_block}
use Rattle.flow_effects.proofs.MoveCases.{goes_on_cases, idle_cases}

-- who leaves the processor changes no component
pub left_parts : (s : State) (k : Component) → part_of (left s) k ≡ part_of s k
left_parts s (component.Task t) = refl
left_parts s (component.Event t j) = refl
left_parts s (component.Alarm a) = refl
left_parts s (component.Source k) = refl

-- a task that becomes something whatever another change made of it
pub changed_over : (t : ℕ) (u v : Update) (c : ℕ) (w : PartValue) → (c ≡ t → updated u (updated v w) ≡ updated u w) → value_after (change t u ∷ []) c (value_after (change t v ∷ []) c w) ≡ value_after (change t u ∷ []) c w
changed_over t u v c w over = elim (cases_eq c t) [
  | inl same ↦ change_here t u c (value_after (change t v ∷ []) c w) same ∙ ap (updated u) (change_here t v c w same) ∙ over same ∙ sym (change_here t u c w same)
  | inr other ↦ change_there t u c (value_after (change t v ∷ []) c w) other ∙ change_there t v c w other ∙ sym (change_there t u c w other)
]

-- what is so of each value of a task is so of what it is in a state
task_over : (app : App) (s : State) (t : TaskNo) → t.0 < length app.tasks → (P : PartValue → Type 0) → ((v : Val) → P (OfTask v)) → (c : ℕ) → c ≡ t.0 → P (abstract_of app s c)
task_over app s t known P each c same = subst P (sym (ap (abstract_of app s) same ∙ task_value app s t.0 known)) (each (value_in (task_state s t.0).activity))

-- what becomes of a task that ends, whatever a move made of it
end_over : (app : App) (t : TaskNo) (more : Bool) (n : BlockNo) (v : Val) → updated (end_update app t more) (updated (update.Block n) (OfTask v)) ≡ updated (end_update app t more) (OfTask v)
end_over app t false n v = refl
end_over app t true n Suspended = refl
end_over app t true n (Live x) = refl
end_over app t true n (Waiting b) = refl

-- the end of a Live task, by what is left of its activations
ended_value : (app : App) (t : TaskNo) (more : Bool) (a : Activity) → is_live_activity a ≡ true → (further_in a == 0) ≡ not more → updated (end_update app t more) (OfTask (value_in a)) ≡ OfTask (value_in (ended_by app t.0 a))
ended_value app t more activity.Suspended live e = absurd (cc)
ended_value app t true (activity.Live x) live e = (let some : nat_eq x.further 0 ≡ false = e in rw some refl)
ended_value app t false (activity.Live x) live e = (let none : nat_eq x.further 0 ≡ true = e in rw none refl)
ended_value app t more (activity.Waiting b) live e = absurd (cc)

module _ (app : App) (s : State) (w : Well app s) (t : TaskNo) (known : t.0 < length app.tasks) where
  there : t.0 < length s.tasks
  there = omega (arith, known, w.tasks_len)

  abbrev over : TaskState
  over = record (task_state s t.0) { activity = ended_by app t.0 (task_state s t.0).activity }

  pub ended_parts : (more : Bool) → is_live (task_state s t.0) ≡ true → (further (task_state s t.0) == 0) ≡ not more → (c : ℕ) → c < component_count app →
      abstract_of app (left (ended app s t.0)) c ≡ value_after (end_change app t more ∷ []) c (abstract_of app s c)
  ended_parts more live e c lt =
      left_parts (with_task s t.0 over) (component_at app c)
      ∙ activity_parts app s t.0 over there refl (end_update app t more) known (ended_value app t more (task_state s t.0).activity live e) c lt

further_at : (a : Activity) (p : Place) → further_in (standing_at a p) ≡ further_in a
further_at activity.Suspended p = refl
further_at (activity.Live x) p = refl
further_at (activity.Waiting b) p = refl

-- at Schedule a non-preemptive task asks too
asked_at_schedule : (t : TaskNo) (x : Schedule) → asked_when t (asked_under x (kind.Call (call.Plain call.Schedule))) ≡ asked.Maybe t
asked_at_schedule t Full = refl
asked_at_schedule t Non = refl

always_asked : (app : App) (t : TaskNo) → asked_for app (runner.Task t) (kind.Call (call.Plain call.Schedule)) ask.Maybe ≡ asked.Maybe t
always_asked app t = asked_at_schedule t (the_task app t.0).schedule

-- a Live task outside, at the block where it stands
outside_value : (n : BlockNo) (a : Activity) → is_live_activity a ≡ true → (place_in a).block ≡ n → outside_at n (value_in a) ≡ value_in (inside_as false a)
outside_value n activity.Suspended live at = absurd (cc)
outside_value n (activity.Live x) live at = ap (λ (b : BlockNo). Live (live_val b x.further false x.held)) (sym at)
outside_value n (activity.Waiting b) live at = absurd (cc)

outside_over : (n : BlockNo) (v : Val) → updated (update.Leave n) (updated (update.Block n) (OfTask v)) ≡ updated (update.Leave n) (OfTask v)
outside_over n Suspended = refl
outside_over n (Live x) = refl
outside_over n (Waiting b) = refl

module _ (app : App) (t : TaskNo) (b : BlockNo) (owns : OwnsBlock app (runner.Task t) b) where
  abbrev r : Runner
  r = runner.Task t

  abbrev next : BlockNo
  next = (the_block app b.0).next

  abbrev after : State → State
  after s = moved_to s next

  -- with what is left of its activations besides
  pub and_passes : (s : State) (conditions : List Condition) (more : Bool) → PassesAll app conditions (abstract_of app s) → (further (task_state s t.0) == 0) ≡ not more → PassesAll app (and_further conditions t more) (abstract_of app s)
  and_passes s conditions more passing e =
      passes_both app (abstract_of app s) conditions (of_task t (further_test more) ∷ []) passing (passes_task app s t owns.0 (further_test more) (is_further app s t owns.0 more e))

  -- a state takes one of the two ends, if it passes the other conditions
  pub end_taken : (s : State) (conditions : List Condition) → PassesAll app conditions (abstract_of app s) → IsTaken app r b s (both_ends app t conditions)
  end_taken s conditions passing = elim (cases_Bool (further (task_state s t.0) == 0)) [
    | inl none ↦ record { case = ends app t conditions false; among = inl refl; passes = and_passes s conditions false passing none }
    | inr some ↦ record { case = ends app t conditions true; among = inr (inl refl); passes = and_passes s conditions true passing some }
  ]

  pub further_left : (s : State) (conditions : List Condition) (more : Bool) → PassesAll app (and_further conditions t more) (abstract_of app s) → (further (task_state s t.0) == 0) ≡ not more
  further_left s conditions more passing =
      further_is app s t owns.0 more (task_passes app s t owns.0 (further_test more) (passes_right app (abstract_of app s) conditions (of_task t (further_test more) ∷ []) passing))

  pub others_pass : (s : State) (conditions : List Condition) (more : Bool) → PassesAll app (and_further conditions t more) (abstract_of app s) → PassesAll app conditions (abstract_of app s)
  others_pass s conditions more passing = passes_left app (abstract_of app s) conditions (of_task t (further_test more) ∷ []) passing

  -- the end of a task
  module _ (is : (the_block app b.0).kind ≡ kind.TaskEnd) where
    task_ends : (more : Bool) → IsEffect app r b (ends app t [] more)
    task_ends more s choice h passing =
        has_effect app (ends app t [] more) s choice (noted app (unnoted (left (ended app s t.0)) ask.Left))
        (effect_there app s r b kind.TaskEnd choice h is ∙ ap (λ (c : Caller). noted app (end_task app s c)) (task_calls app s t b h))
        passing refl (ended_parts app s h.well t owns.0 more h.runs.has.1 (further_left s [] more passing)) (refl, refl) (same_line asked.Left s (left (ended app s t.0)) refl) refl

    pub task_end : AreCasesOf app (runner_point r b) (task_end_cases app r b)
    task_end = are_cases app r b owns (both_ends app t [])
        (more_listed app r b (ends app t [] false) (ends app t [] true ∷ []) (tt, task_ends false) (one_listed app r b (ends app t [] true) (tt, task_ends true)))
        (λ s h. end_taken s [] (passes_none app (abstract_of app s)))

  -- what the caller holds is as before the move
  pub same_holds : (s : State) → Stands app s r b → holds_some (after s) t.0 ≡ holds_some s t.0
  same_holds s h = ap (λ (g : List ResNo). not (length g == 0)) (moved_held app s h.well (place_at next 0) t.0)

  -- RESOURCE, by a call whose row says so
  pub refused_is : (k : Kind) → IsCall app k → (the_block app b.0).kind ≡ k → ((s : State) → holds_some s t.0 ≡ true → called app s (Task t) k ≡ refused s status.Resource) → IsEffect app r b (refused_holding t next)
  refused_is k call is row s choice h passing =
      let holds : holds_some s t.0 ≡ true = sym (some_is app s t owns.0) ∙ task_passes app s t owns.0 test.HoldsSome passing in
      call_goes_on app s choice r b k _ asked.No (Some status.Resource) None ask.No call h is
      (ap (λ (c : Caller). called app (after s) c k) (task_calls app s t b h) ∙ row (after s) (same_holds s h ∙ holds))
      (asked_none app r k) passing tt

  -- nothing is held before the call, and so after the move
  pub nothing_held : (s : State) → Stands app s r b → IsTrue (passes test.HoldsNothing (abstract_of app s t.0)) → holds_some (after s) t.0 ≡ false
  nothing_held s h passing = same_holds s h ∙ holds_none app s t owns.0 passing

  -- the task ended, behind its move
  pub same_further : (s : State) → Stands app s r b → further (task_state (after s) t.0) ≡ further (task_state s t.0)
  same_further s h = moved_keeps_of app s h.well (place_at next 0) (λ (x : TaskState). further x) (λ x. further_at x.activity (place_at next 0)) t.0

  pub ended_after : (s : State) → Stands app s r b → (more : Bool) → (further (task_state s t.0) == 0) ≡ not more → (c : ℕ) → c < component_count app →
      abstract_of app (left (ended app (after s) t.0)) c ≡ value_after (end_change app t more ∷ []) c (abstract_of app s c)
  ended_after s h more e c lt =
      let on = went_on app s r b next h (next_owned app s r b h) in
      ended_parts app (after s) on.well t owns.0 more on.runs.has.1 (ap (λ (n : ℕ). n == 0) (same_further s h) ∙ e) c lt
      ∙ ap (value_after (end_change app t more ∷ []) c) (moved_parts app s next 0 r b h c lt)
      ∙ changed_over t.0 (end_update app t more) (update.Block next) c (abstract_of app s c)
      (task_over app s t owns.0 (λ (w : PartValue). updated (end_update app t more) (updated (update.Block next) w) ≡ updated (end_update app t more) w) (end_over app t more next) c)

  -- a state that holds resources takes the first case, and one that holds none another
  pub either_held : (ys : List EffectCase) (s : State) → (PassesAll app (holding_nothing t) (abstract_of app s) → IsTaken app r b s ys) → IsTaken app r b s (refused_holding t next ∷ ys)
  either_held ys s free = elim (cases_Bool (holds_some s t.0)) [
    | inl some ↦ record { case = refused_holding t next; among = inl refl; passes = passes_task app s t owns.0 test.HoldsSome (some_is app s t owns.0 ∙ some) }
    | inr none ↦ taken_then app r b s (refused_holding t next ∷ []) ys (free (passes_task app s t owns.0 test.HoldsNothing (none_holds app s t owns.0 none)))
  ]

  -- TerminateTask
  module _ (is : (the_block app b.0).kind ≡ kind.Call (call.Plain call.TerminateTask)) where
    abbrev terminate : Kind
    terminate = kind.Call (call.Plain call.TerminateTask)

    terminate_refused : (s : State) → holds_some s t.0 ≡ true → terminate_task app s (Task t) ≡ refused s status.Resource
    unfolding terminate_task
    terminate_refused s e = rw e refl

    terminate_ends : (s : State) → holds_some s t.0 ≡ false → terminate_task app s (Task t) ≡ unnoted (left (ended app s t.0)) ask.Left
    unfolding terminate_task
    terminate_ends s e = rw e refl

    terminates : (more : Bool) → IsEffect app r b (ends app t (holding_nothing t) more)
    terminates more s choice h passing =
        let none = nothing_held s h (task_passes app s t owns.0 test.HoldsNothing (others_pass s (holding_nothing t) more passing)) in
        call_has app (ends app t (holding_nothing t) more) s choice r b terminate (unnoted (left (ended app (after s) t.0)) ask.Left) (λ u ch p x. refl) h is
        (ap (λ (c : Caller). terminate_task app (after s) c) (task_calls app s t b h) ∙ terminate_ends (after s) none) passing (record {
          point = refl;
          parts = ended_after s h more (further_left s (holding_nothing t) more passing);
          asked = refl;
          kept = refl;
          line = same_line asked.Left s (left (ended app (after s) t.0)) (moved_line s (place_at next 0));
          status = refl;
        })

    pub terminate_task_cases : AreCasesOf app (runner_point r b) (terminate_cases app r next)
    terminate_task_cases = are_cases app r b owns (terminate_cases app r next)
        (more_listed app r b (refused_holding t next) (both_ends app t (holding_nothing t)) (tt, refused_is terminate (λ u ch p x. refl) is terminate_refused)
        (more_listed app r b (ends app t (holding_nothing t) false) (ends app t (holding_nothing t) true ∷ []) (tt, terminates false) (one_listed app r b (ends app t (holding_nothing t) true) (tt, terminates true))))
        (λ s h. either_held (both_ends app t (holding_nothing t)) s (end_taken s (holding_nothing t)))

  -- Schedule
  module _ (is : (the_block app b.0).kind ≡ kind.Call (call.Plain call.Schedule)) where
    abbrev scheduling : Kind
    scheduling = kind.Call (call.Plain call.Schedule)

    schedule_refused : (s : State) → holds_some s t.0 ≡ true → schedule s (Task t) ≡ refused s status.Resource
    unfolding schedule
    schedule_refused s e = rw e refl

    schedule_asks : (s : State) → holds_some s t.0 ≡ false → schedule s (Task t) ≡ accepted (with_inside s t.0 false) ask.Maybe
    unfolding schedule
    schedule_asks s e = rw e refl

    -- the components, behind the move
    left_inside : (s : State) → Stands app s r b → (c : ℕ) → c < component_count app → abstract_of app (with_inside (after s) t.0 false) c ≡ value_after (change t.0 (update.Leave next) ∷ []) c (abstract_of app s c)
    left_inside s h c lt =
        let on = went_on app s r b next h (next_owned app s r b h) in
        let here : t.0 < length (after s).tasks = (let lx = owns.0 in omega (arith, lx, on.well.tasks_len)) in
        let a : Activity = (task_state (after s) t.0).activity in
        activity_parts app (after s) t.0 (record (task_state (after s) t.0) { activity = inside_as false a }) here refl (update.Leave next) owns.0
        (ap OfTask (outside_value next a on.runs.has.1 (stands_block app (after s) t next on))) c lt
        ∙ ap (value_after (change t.0 (update.Leave next) ∷ []) c) (moved_parts app s next 0 r b h c lt)
        ∙ changed_over t.0 (update.Leave next) (update.Block next) c (abstract_of app s c)
        (task_over app s t owns.0 (λ (w : PartValue). updated (update.Leave next) (updated (update.Block next) w) ≡ updated (update.Leave next) w) (outside_over next) c)

    schedules : IsEffect app r b (reschedules t next)
    schedules s choice h passing =
        let none = nothing_held s h (task_passes app s t owns.0 test.HoldsNothing passing) in
        let on = went_on app s r b next h (next_owned app s r b h) in
        call_has app (reschedules t next) s choice r b scheduling (accepted (with_inside (after s) t.0 false) ask.Maybe) (λ u ch p x. refl) h is
        (ap (λ (c : Caller). schedule (after s) c) (task_calls app s t b h) ∙ schedule_asks (after s) none) passing (record {
          point = inside_point (after s) t.0 false ∙ point_there app (after s) r next on;
          parts = left_inside s h;
          asked = always_asked app t;
          kept = moved_has app s h.well (place_at next 0);
          line = same_line (asked.Maybe t) s (with_inside (after s) t.0 false) (moved_line s (place_at next 0));
          status = refl;
        })

    pub schedule_task_cases : AreCasesOf app (runner_point r b) (schedule_cases r next)
    schedule_task_cases = are_cases app r b owns (schedule_cases r next)
        (more_listed app r b (refused_holding t next) (reschedules t next ∷ []) (tt, refused_is scheduling (λ u ch p x. refl) is schedule_refused) (one_listed app r b (reschedules t next) (tt, schedules)))
        (λ s h. either_held (reschedules t next ∷ []) s (λ passing. record { case = reschedules t next; among = inl refl; passes = passing }))

-- a routine's calls of these are refused, and it has no task's end
module _ (app : App) (k : SourceNo) (z : ComponentNo) (over : Option TaskNo) (b : BlockNo) (owns : OwnsBlock app (runner.Routine k z over) b) where
  abbrev q : Runner
  q = runner.Routine k z over

  abbrev onto : BlockNo
  onto = (the_block app b.0).next

  terminate_at_interrupt : (s : State) (c : Caller) → c ≡ Routine k → terminate_task app s c ≡ refused s status.CallLevel
  unfolding terminate_task
  terminate_at_interrupt s c e = ap (terminate_task app s) e

  schedule_at_interrupt : (s : State) (c : Caller) → c ≡ Routine k → schedule s c ≡ refused s status.CallLevel
  unfolding schedule
  schedule_at_interrupt s c e = ap (schedule s) e

  pub terminate_routine_cases : (the_block app b.0).kind ≡ kind.Call (call.Plain call.TerminateTask) → AreCasesOf app (runner_point q b) (terminate_cases app q onto)
  terminate_routine_cases is = goes_on_cases app q b owns (kind.Call (call.Plain call.TerminateTask)) (Some status.CallLevel) (λ u ch p x. refl) is
      (λ s h. terminate_at_interrupt (moved_to s onto) (caller s.processor) (routine_calls app s k z over b h))

  pub schedule_routine_cases : (the_block app b.0).kind ≡ kind.Call (call.Plain call.Schedule) → AreCasesOf app (runner_point q b) (schedule_cases q onto)
  schedule_routine_cases is = goes_on_cases app q b owns (kind.Call (call.Plain call.Schedule)) (Some status.CallLevel) (λ u ch p x. refl) is
      (λ s h. schedule_at_interrupt (moved_to s onto) (caller s.processor) (routine_calls app s k z over b h))

  end_at_interrupt : (s : State) (c : Caller) → c ≡ Routine k → end_task app s c ≡ unnoted s ask.No
  end_at_interrupt s c e = ap (end_task app s) e

  pub routine_task_end : (the_block app b.0).kind ≡ kind.TaskEnd → AreCasesOf app (runner_point q b) (task_end_cases app q b)
  routine_task_end is = idle_cases app q b owns (λ s choice h.
      effect_there app s q b kind.TaskEnd choice h is ∙ ap (noted app) (end_at_interrupt s (caller s.processor) (routine_calls app s k z over b h)))

module _ (app : App) (b : BlockNo) where
  pub all_task_ends : (r : Runner) → OwnsBlock app r b → (the_block app b.0).kind ≡ kind.TaskEnd → AreCasesOf app (runner_point r b) (task_end_cases app r b)
  all_task_ends (runner.Task t) owns is = task_end app t b owns is
  all_task_ends (runner.Routine k z over) owns is = routine_task_end app k z over b owns is

  pub all_terminates : (r : Runner) → OwnsBlock app r b → (the_block app b.0).kind ≡ kind.Call (call.Plain call.TerminateTask) → AreCasesOf app (runner_point r b) (terminate_cases app r (the_block app b.0).next)
  all_terminates (runner.Task t) owns is = terminate_task_cases app t b owns is
  all_terminates (runner.Routine k z over) owns is = terminate_routine_cases app k z over b owns is

  pub all_schedules : (r : Runner) → OwnsBlock app r b → (the_block app b.0).kind ≡ kind.Call (call.Plain call.Schedule) → AreCasesOf app (runner_point r b) (schedule_cases r (the_block app b.0).next)
  all_schedules (runner.Task t) owns is = schedule_task_cases app t b owns is
  all_schedules (runner.Routine k z over) owns is = schedule_routine_cases app k z over b owns is
