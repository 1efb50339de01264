-- Where Schedule is accepted and its caller goes on, no ready task is above its own priority.
use Rattle.std.proofs.Common.{◌≡◌, ◌≢◌, ℕ, ◌<◌, ◌≤◌, Bool, true, false, not, ◌||◌, length, refl, sym, subst, ap, ◌∙◌, arith, nat_eq, nat_lt, inl, inr, Some, None, get_or-set_same}
use Rattle.std.proofs.lemmas.Bool.{Decides.{nat_tests}, cases_eq, eqb-true, false≢true}
use Rattle.std.specs.{declared.option.Option.{Option}}
use Rattle.osek_values.specs.declared.{event.Event.{Event}, numbers.TaskNo.{TaskNo}, status.{Ask.{Ask}}}
use Rattle.osek_values.specs.declared.status.Ask.TheVariants as ask
use Rattle.osek_values.specs.declared.status.Status.TheVariants as status
use Rattle.osek_standard.specs.declared.{app.App.{App}, block.Kind.{Kind}, state.{State.{State}, Caller.{Caller, TheVariants.{Nobody, Task, Routine}}}}
use Rattle.osek_standard.specs.declared.task_state.{TaskState.{TaskState}, Activity.{Activity, TheVariants.{Suspended, Live, Waiting}}}
use Rattle.osek_standard.specs.{Apps.{the_task}, TaskStates.{held_in, is_live, suspended}, States.{caller, task_state}, Internal.{inside_as, occupied}}
use Rattle.osek_standard.specs.{Effects.{Effect, asked_by, effect, is_schedule}, Priority.{base_priority, best, current_priority, highest}, Services.{Answer, holds_some, schedule}, Well.{IsActive, Well}, Kernel.{step}}
use Rattle.osek_standard.specs.Dispatch.{Outcome, if_above, instruction, outcome_by, preempted_by, settled}
use Rattle.osek_standard.specs.declared.block.Kind.TheVariants as kind
use Rattle.osek_standard.specs.declared.state.Processor.TheVariants as processor
use Rattle.osek_standard.proofs.{Callers.{task_level_of}, PriorityLaws.{best_is, none_live}}
use Rattle.kernel_guarantees.specs.{Reached.{IsReached}, Scheduling.{IsKeptAtSchedule, kind_at}, Underway.{is_current}}
use Rattle.kernel_guarantees.proofs.Onward.{effect_as, effect_is, onward, onward_processor, onward_well}
use Rattle.kernel_guarantees.proofs.{Outcomes.{alone, as_high, next, unmoved}, Reaching.{reached_is_well}, Serving.{asks_at_schedule, either_by}, Stacked.{none_is_base}, Stepping.{does_is}}
use Rattle.kernel_guarantees.proofs.CallNames as call

schedule_is : (k : Kind) → is_schedule k ≡ true → k ≡ kind.Call (call.Plain call.Schedule)
schedule_is (kind.Call (call.Plain call.Schedule)) e = refl
schedule_is _ e = absurd (false≢true e)

module _ (app : App) where
  -- without a resource a task that is let out has its own priority
  out_is_base : (t : ℕ) (x : TaskState) (a : Activity) → not (nat_eq (length (held_in a)) 0) ≡ false
      → highest app (base_priority app t) (occupied app t (record x { activity = inside_as false a })) ≡ base_priority app t
  out_is_base t x Suspended e = none_is_base app (base_priority app t) _ false refl
  out_is_base t x (Live y) e = none_is_base app (base_priority app t) y.held false (ap (λ (b : Bool). b || false) e)
  out_is_base t x (Waiting b) e = none_is_base app (base_priority app t) _ false refl

  -- the caller gave all back, and asks whether another task is to run
  record GivesWay (c : TaskNo) (r : State) (a : Ask) : Type 0 where
    runs : r.processor ≡ processor.Running c
    own : current_priority app r c.0 ≡ base_priority app c.0
    asks : a ≡ ask.Maybe

  schedule_gives : (m : State) (c : TaskNo) (k : Kind) → is_schedule k ≡ true → Well app m → m.processor ≡ processor.Running c → (schedule m (Task c)).status ≡ Some status.Ok
      → GivesWay c (schedule m (Task c)).state (asked_by app (Task c) k (schedule m (Task c)).ask)
  unfolding schedule
  schedule_gives m c k is w runs ok = either_by (λ (a : Answer). a.status ≡ Some status.Ok → GivesWay c a.state (asked_by app (Task c) k a.ask)) (holds_some m c.0) _ _
      (λ _ f. absurd (cc (f))) (λ bare _. record {
        runs = runs;
        own =
            let known : c.0 < length m.tasks = omega (arith, (task_level_of app m c w runs).running.0, w.tasks_len) in
            ap (λ (z : TaskState). highest app (base_priority app c.0) (occupied app c.0 z)) (get_or-set_same m.tasks c.0 _ suspended known)
            ∙ out_is_base c.0 (task_state m c.0) (task_state m c.0).activity bare;
        asks = asks_at_schedule (the_task app c.0).schedule k is;
      }) ok

  module _ (r : State) (c : TaskNo) (runs : r.processor ≡ processor.Running c) (u : ℕ) (live : is_live (task_state r u) ≡ true) where
    -- where the caller keeps the processor, none is above it
    stays_highest_by : (o : Option TaskNo) → best app r ≡ o → is_current (settled app r (if_above app r c o)) c.0 ≡ true → current_priority app r u ≤ current_priority app r c.0
    stays_highest_by None found now = absurd (false≢true (sym (none_live app r found u) ∙ live))
    stays_highest_by (Some x) found now = either_by (λ (o : Outcome). is_current (settled app r o) c.0 ≡ true → current_priority app r u ≤ current_priority app r c.0) (nat_lt (current_priority app r c.0) (current_priority app r x.0)) _ _
        (λ above f. absurd (let high : current_priority app r c.0 < current_priority app r x.0 = grind (arith, nat_tests) in
        omega (arith, high, ap (λ (v : ℕ). current_priority app r v) (eqb-true x.0 c.0 f)))) (λ below _. at_most below) now where
          at_most : nat_lt (current_priority app r c.0) (current_priority app r x.0) ≡ false → current_priority app r u ≤ current_priority app r c.0
          at_most below =
              let low : current_priority app r x.0 ≤ current_priority app r c.0 = grind (arith, nat_tests) in
              elim (cases_eq u x.0) [
                | inl is ↦ omega (arith, low, ap (λ (n : ℕ). current_priority app r n) is)
                | inr other ↦ elim ((best_is app r x found).others u live other) [ inl less ↦ omega (arith, low, less) | inr tie ↦ omega (arith, low, tie.0) ]
              ]

    stays_highest : (d : Caller) → caller r.processor ≡ d → is_current (settled app r (preempted_by app r d)) c.0 ≡ true → current_priority app r u ≤ current_priority app r c.0
    stays_highest Nobody e now = absurd (cc (ap caller runs, e))
    stays_highest (Routine k) e now = absurd (cc (ap caller runs, e))
    stays_highest (Task d) e now =
        let same : c ≡ d = cc (ap caller runs, e) in
        stays_highest_by (best app r) refl (subst (λ (v : TaskNo). is_current (settled app r (if_above app r v (best app r))) c.0 ≡ true) (sym same) now)

  module _ (s : State) (w : Well app s) (active : IsActive s.processor) (choice : Bool) (c : TaskNo) (runs : s.processor ≡ processor.Running c) where
    abbrev Gives : Effect → Type 0
    Gives e = e.notes.status ≡ Some status.Ok → GivesWay c e.state e.ask

    gives_at : (d : Caller) → caller s.processor ≡ d → (k : Kind) → k ≡ kind.Call (call.Plain call.Schedule)
        → (schedule (onward app s) d).status ≡ Some status.Ok → GivesWay c (schedule (onward app s) d).state (asked_by app d (kind.Call (call.Plain call.Schedule)) (schedule (onward app s) d).ask)
    gives_at Nobody e k is ok = absurd (cc (ap caller runs, e))
    gives_at (Routine j) e k is ok = absurd (cc (ap caller runs, e))
    gives_at (Task d) e k is ok = let same : c ≡ d = cc (ap caller runs, e) in
        subst (λ (v : TaskNo). (schedule (onward app s) (Task v)).status ≡ Some status.Ok → GivesWay c (schedule (onward app s) (Task v)).state (asked_by app (Task v) (kind.Call (call.Plain call.Schedule)) (schedule (onward app s) (Task v)).ask)) same
        (schedule_gives (onward app s) c (kind.Call (call.Plain call.Schedule)) refl (onward_well app s w active) (onward_processor app s ∙ runs)) ok

    effect_gives : is_schedule (kind_at app s) ≡ true → Gives (effect app s choice)
    effect_gives is =
        let e : kind_at app s ≡ kind.Call (call.Plain call.Schedule) = schedule_is (kind_at app s) is in
        subst Gives (sym (effect_is app s w active choice ∙ ap (effect_as app s choice) e)) (gives_at (caller s.processor) refl (kind_at app s) e)

    gives_way : is_schedule (kind_at app s) ≡ true → (effect app s choice).notes.status ≡ Some status.Ok → is_current (next app s w active choice) c.0 ≡ true
        → (u : ℕ) → is_live (task_state (next app s w active choice) u) ≡ true → u ≢ c.0 → current_priority app (next app s w active choice) u ≤ base_priority app c.0
    unfolding instruction
    gives_way is ok now u live other =
        let e = effect app s choice in
        let g = effect_gives is ok in
        let beside = alone app s w active choice (next app s w active choice) c.0 u now other in
        let was_live : is_live (task_state e.state u) ≡ true = subst (λ (z : TaskState). is_live z ≡ true) (unmoved app s w active choice u beside) live in
        let kept : is_current (settled app e.state (outcome_by app e.state ask.Maybe)) c.0 ≡ true = subst (λ (a : Ask). is_current (settled app e.state (outcome_by app e.state a)) c.0 ≡ true) g.asks now in
        let low = stays_highest e.state c g.runs u was_live (caller e.state.processor) refl kept in
        omega (arith, low, g.own, as_high app s w active choice u beside)

pub schedule_gives_way : (app : App) (s : State) (e : Event) (c : TaskNo) (u : ℕ) → IsReached app s → IsKeptAtSchedule app s e c → is_live (task_state (step app s e).state u) ≡ true → u ≢ c.0
    → current_priority app (step app s e).state u ≤ base_priority app c.0
schedule_gives_way app s e c u reached k live other =
    let done = does_is app s e k.does in
    subst (λ (m : State). current_priority app m u ≤ base_priority app c.0) (sym done)
    (gives_way app s (reached_is_well app s reached) k.does.active k.does.choice c k.runs k.calls k.accepted (subst (λ (m : State). is_current m c.0 ≡ true) done k.keeps) u
    (subst (λ (m : State). is_live (task_state m u) ≡ true) done live) other)
