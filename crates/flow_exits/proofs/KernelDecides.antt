-- What the scheduler decides by the values of the tasks is what the kernel does.
use Rattle.std.proofs.Common.{◌≡◌, ◌≢◌, ℕ, ◌+◌, ◌<◌, ◌≤◌, Bool, true, false, not, List, [], ◌∷◌, ◌++◌, length, refl, sym, ap, subst, ◌∙◌, ◌⊎◌, inl, inr, arith, Some, None, nat_lt, IsTrue}
use Rattle.std.specs.{Prelude.{if◌then◌else◌}, declared.option.Option.{Option}}
use Rattle.std.proofs.lemmas.Bool.{cases_Bool, cases_lt, cases_eq, eqb-true, ne_eqb, false≢true, Decides.{nat_tests}}
use Rattle.osek_values.specs.{declared.numbers.TaskNo.{TaskNo}, Line.{place_in_line}}
use Rattle.osek_values.specs.declared.status.Ask.TheVariants as ask
use Rattle.osek_standard.specs.declared.{app.App.{App}, task_state.{TaskState.{TaskState}, Activity.{Activity}}, state.{State.{State}, Processor.{Processor}}}
use Rattle.osek_standard.specs.declared.task_state.Activity.TheVariants as activity
use Rattle.osek_standard.specs.declared.state.Processor.TheVariants as processor
use Rattle.osek_standard.specs.declared.point.Point.TheVariants as point
use Rattle.osek_standard.specs.{TaskStates.{is_live, is_live_activity}, States.{task_of, task_state, is_that_task, caller}, Line.{turn, places}, Internal.{occupied}}
use Rattle.osek_standard.specs.{Priority.{base_priority, highest, current_priority, best, IsBest}, Effects.{Effect}, Points.{point_of}}
use Rattle.osek_standard.specs.{Dispatch.{Keep, To, outcome_of, outcome_by, preempted_by, if_above, if_any, settled}, Well.{Well, HasProcessor, IsProcessor, IsTaskLevel}}
use Rattle.osek_standard.proofs.{PriorityLaws.{live_known, best_is, is_best, best_none, none_live, some_best}, PlaceLaws.{places_in}}
use Rattle.abstract_state.specs.{declared.value.PartValue.{PartValue}, Components.{value_in, part_of}, Concrete.{val_of}, Choices.{IsFirstIfThere}}
use Rattle.abstract_state.proofs.{ComponentLaws.{task_counted, task_at_its_number}, SettledParts.{settled_block, kept_point}}
use Rattle.flow_model.proofs.LinesAfter.{some_due}
use Rattle.flow_model.specs.declared.case.{Asked.{Asked}, Decision.{Decision}, Leaving.{Leaving}}
use Rattle.flow_model.specs.declared.case.Asked.TheVariants as asked
use Rattle.flow_model.specs.declared.case.Decision.TheVariants as decision
use Rattle.flow_model.specs.{Values.{is_live_value, occupied_by, block_of, value_priority}, Effects.{Asks, LeavesLine, IsLineAfter}}
use Rattle.flow_model.specs.Scheduling.{outcome_of_decision, may_tie, is_live_task, task_priority, IsLiveTask, IsBestTask, NoneLive, NoneAbove, IsAbove, Decides, DecidesBy, end_point}
use Rattle.flow_exits.specs.Deciding.{HasValues, GoesFirst, IsKernelDecision}
use Rattle.flow_exits.proofs.Staying.{block_value}
use Rattle.flow_exits.proofs.LinePlaces.{place_behind, place_within, place_before, place_of_itself, behind_first}

-- what a table keeps of a task tells whether it is Live, its priority, and its block
live_value : (a : Activity) → is_live_value (value_in a) ≡ is_live_activity a
live_value activity.Suspended = refl
live_value (activity.Live x) = refl
live_value (activity.Waiting b) = refl

occupied_value : (app : App) (u : ℕ) (x : TaskState) (a : Activity) → occupied_by app u (value_in a) ≡ occupied app u (record x { activity = a })
occupied_value app u x activity.Suspended = refl
occupied_value app u x (activity.Live y) = refl
occupied_value app u x (activity.Waiting b) = refl

priority_value : (app : App) (u : ℕ) (x : TaskState) → value_priority app u (value_in x.activity) ≡ highest app (base_priority app u) (occupied app u x)
priority_value app u x = ap (highest app (base_priority app u)) (occupied_value app u x x.activity)

module _ (app : App) (s : State) (well : Well app s) (value : ℕ → PartValue) (same : HasValues app s value) where
  val_is : (u : ℕ) → u < length app.tasks → val_of (value u) ≡ value_in (task_state s u).activity
  val_is u lt = ap val_of (same u (task_counted app u lt) ∙ ap (part_of s) (task_at_its_number app u lt))

  live_is : (u : ℕ) → u < length app.tasks → is_live_task app value u ≡ is_live (task_state s u)
  live_is u lt = ap is_live_value (val_is u lt) ∙ live_value (task_state s u).activity

  priority_is : (u : ℕ) → u < length app.tasks → task_priority app value u ≡ current_priority app s u
  priority_is u lt = ap (value_priority app u) (val_is u lt) ∙ priority_value app u (task_state s u)

  known_live : (u : ℕ) → is_live (task_state s u) ≡ true → u < length app.tasks
  known_live u e = let k = live_known s u e in let long = well.tasks_len in omega (arith, k, long)

  live_task : (u : ℕ) → is_live (task_state s u) ≡ true → IsLiveTask app value u
  live_task u e = record { known = known_live u e; live = live_is u (known_live u e) ∙ e }

  task_live : (u : ℕ) → IsLiveTask app value u → is_live (task_state s u) ≡ true
  task_live u h = sym (live_is u h.known) ∙ h.live

  -- ---- turns

  current_first : (u : ℕ) → is_that_task (task_of s.processor) u ≡ true → turn s u ≡ 0
  current_first u e = rw e refl

  by_line : (u : ℕ) → is_that_task (task_of s.processor) u ≡ false → turn s u ≡ 1 + place_in_line s.line u
  by_line u e = rw e refl

  -- a Live task that doesn't run stands in the line
  stands_in_line : (u : ℕ) → is_live (task_state s u) ≡ true → is_that_task (task_of s.processor) u ≡ false → 0 < places s u
  stands_in_line u live e = subst (λ (n : ℕ). 0 < n) (sym (well.line u)) (some_due (task_of s.processor) u (task_state s u).activity live e)

  -- a task that was put last comes after each other one
  last_comes_last : (before : State) (t : TaskNo) (u : ℕ) → IsLineAfter (Some t) before s → is_that_task (task_of s.processor) t.0 ≡ false → is_live (task_state s u) ≡ true → u ≢ t.0 → turn s u < turn s t.0
  last_comes_last before t u line waits live other =
      let line_is : s.line ≡ before.line ++ t ∷ [] = line.is ∙ ap (λ (l : List TaskNo). before.line ++ l) line.new.0 in
      let behind : place_in_line s.line t.0 ≡ length before.line = ap (λ (l : List TaskNo). place_in_line l t.0) line_is ∙ place_behind before.line t.0 (t ∷ []) line.new.1
      ∙ ap (λ (n : ℕ). length before.line + n) (place_of_itself t) ∙ omega arith in
      elim (cases_Bool (is_that_task (task_of s.processor) u)) [
        | inl e ↦ omega (arith, current_first u e, by_line t.0 waits)
        | inr e ↦
            (let some : 0 < places_in before.line u = line.old u (ne_eqb t.0 u (λ same. other (sym same))) e (stands_in_line u live e) in
            let within : place_in_line s.line u < length before.line = subst (λ (l : List TaskNo). place_in_line l u < length before.line) (sym line_is) (place_within before.line u (t ∷ []) some) in
            omega (arith, by_line u e, by_line t.0 waits, behind, within))
      ]

  -- so it wins no tie
  may_be_first : (last : Option TaskNo) (before : State) (x u : ℕ) → IsLineAfter last before s → is_that_task (task_of s.processor) x ≡ false → is_live (task_state s u) ≡ true → u ≢ x → turn s x < turn s u → IsTrue (may_tie last x)
  may_be_first None before x u line waits live other earlier = refl
  may_be_first (Some t) before x u line waits live other earlier = elim (cases_eq t.0 x) [
    | inl same ↦
        (let later = last_comes_last before t u line (subst (λ (y : ℕ). is_that_task (task_of s.processor) y ≡ false) (sym same) waits) live (λ e. other (e ∙ same)) in
        let earlier_too = subst (λ (y : ℕ). turn s y < turn s u) (sym same) earlier in
        absurd (omega (arith, later, earlier_too)))
    | inr differ ↦ ap not (ne_eqb t.0 x differ)
  ]

  -- one that comes first goes before each other one that doesn't run
  goes_first : (last : Option TaskNo) (x u : ℕ) → (is_that_task last x ≡ true) ⊎ (place_in_line s.line x ≡ 0) → IsTrue (may_tie last x) → is_that_task (task_of s.processor) x ≡ false → is_that_task (task_of s.processor) u ≡ false → u ≢ x → turn s x < turn s u
  goes_first last x u (inl was_last) may waits e other = absurd (false≢true (ap not (sym was_last) ∙ may))
  goes_first last x u (inr first) may waits e other = omega (arith, first, by_line x waits, by_line u e, behind_first s.line x u first other)

  -- a Live task that came first before the effect does so after it, or was put last by it
  still_first : (last : Option TaskNo) (before : State) (x : ℕ) → IsLineAfter last before s → is_live (task_state s x) ≡ true → is_that_task (task_of s.processor) x ≡ false → IsFirstIfThere x before →
      (is_that_task last x ≡ true) ⊎ (place_in_line s.line x ≡ 0)
  still_first last before x line live waits first = elim (cases_Bool (is_that_task last x)) [
    | inl e ↦ inl e
    | inr e ↦
        (let some : 0 < places_in before.line x = line.old x e waits (stands_in_line x live waits) in
        inr (ap (λ (l : List TaskNo). place_in_line l x) line.is ∙ place_before before.line x line.more some ∙ first some))
  ]

  -- ---- the best task

  best_task : (last : Option TaskNo) (before : State) (x : ℕ) → IsLineAfter last before s → is_that_task (task_of s.processor) x ≡ false → IsBest app s x → IsBestTask app value last x
  best_task last before x line waits h = record {
    is = live_task x h.live;
    others = λ u l other. elim (h.others u (task_live u l) other) [
      | inl less ↦ inl (omega (arith, less, priority_is x (known_live x h.live), priority_is u l.known))
      | inr equal ↦ inr (
        priority_is u l.known ∙ equal.0 ∙ sym (priority_is x (known_live x h.live)),
        may_be_first last before x u line waits (task_live u l) other equal.1,
      )
    ];
  }

  task_best : (last : Option TaskNo) (x : ℕ) → IsBestTask app value last x → (is_that_task last x ≡ true) ⊎ (place_in_line s.line x ≡ 0) → is_that_task (task_of s.processor) x ≡ false →
      ((u : ℕ) → is_that_task (task_of s.processor) u ≡ true → task_priority app value u < task_priority app value x) → IsBest app s x
  task_best last x h first waits above = record {
    live = task_live x h.is;
    others = λ u live other. (
        let known = known_live u live in
        elim (cases_Bool (is_that_task (task_of s.processor) u)) [
          | inl e ↦ inl (omega (arith, above u e, priority_is x h.is.known, priority_is u known))
          | inr e ↦ elim (h.others u (live_task u live) other) [
            | inl less ↦ inl (omega (arith, less, priority_is x h.is.known, priority_is u known))
            | inr equal ↦ inr (sym (priority_is u known) ∙ equal.0 ∙ priority_is x h.is.known, goes_first last x u first equal.1 waits e other)
          ]
        ]);
  }

  best_is_task : (last : Option TaskNo) (x : TaskNo) → IsBestTask app value last x.0 → (is_that_task last x.0 ≡ true) ⊎ (place_in_line s.line x.0 ≡ 0) → is_that_task (task_of s.processor) x.0 ≡ false →
      ((u : ℕ) → is_that_task (task_of s.processor) u ≡ true → task_priority app value u < task_priority app value x.0) → best app s ≡ Some x
  best_is_task last x h first waits above = is_best app s x.0 (task_best last x.0 h first waits above)

  -- where nobody has the processor
  module _ (idle : s.processor ≡ processor.Idle) where
    none_runs : (u : ℕ) → is_that_task (task_of s.processor) u ≡ false
    none_runs u = ap (λ (p : Processor). is_that_task (task_of p) u) idle

    idle_best : (last : Option TaskNo) (x : TaskNo) → IsBestTask app value last x.0 → (is_that_task last x.0 ≡ true) ⊎ (place_in_line s.line x.0 ≡ 0) → best app s ≡ Some x
    idle_best last x h first = best_is_task last x h first (none_runs x.0) (λ u e. absurd (false≢true (sym (none_runs u) ∙ e)))

  no_best : NoneLive app value → best app s ≡ None
  no_best none = best_none app s (λ u lt. no_live u none)
    where
      no_live : (u : ℕ) → NoneLive app value → is_live (task_state s u) ≡ false
      no_live u none = elim (cases_Bool (is_live (task_state s u))) [
        | inl l ↦ absurd (none u (live_task u l))
        | inr f ↦ f
      ]

  to_point : (x : TaskNo) → x.0 < length app.tasks → point_of (settled app s (To (Some x))) ≡ point.Task (block_of (val_of (value x.0)))
  to_point x lt = ap point.Task (settled_block app s (To (Some x)) x.0 ∙ sym (block_value (task_state s x.0).activity) ∙ ap block_of (sym (val_is x.0 lt)))

  -- a task that runs
  module _ (t : TaskNo) (runs : s.processor ≡ processor.Running t) where
    has_it : HasProcessor app s t
    has_it = let level : IsTaskLevel app s t = subst (IsProcessor app s) runs well.processor in level.running

    by_caller : outcome_by app s ask.Maybe ≡ if_above app s t (best app s)
    by_caller = ap (λ (p : Processor). preempted_by app s (caller p)) runs

    running : IsLiveTask app value t.0
    running = live_task t.0 has_it.1

    above_not : (o : Option TaskNo) → best app s ≡ o → NoneAbove app value t.0 → if_above app s t o ≡ Keep
    above_not None e h = refl
    above_not (Some x) e h =
        let live = (best_is app s x e).live in
        let low = h.each x.0 (live_task x.0 live) in
        let f : nat_lt (current_priority app s t.0) (current_priority app s x.0) ≡ false = not_less (task_priority app value t.0) (task_priority app value x.0) _ _ low (priority_is t.0 running.known) (priority_is x.0 (known_live x.0 live)) in
        ap (λ (b : Bool). if b then To (Some x) else Keep) f
      where
        not_less : (p q m n : ℕ) → q ≤ p → p ≡ m → q ≡ n → nat_lt m n ≡ false
        not_less p q m n low e f = grind (arith, nat_tests)

    keeps : NoneAbove app value t.0 → outcome_by app s ask.Maybe ≡ Keep
    keeps h = by_caller ∙ above_not (best app s) refl h

    it_runs : (u : ℕ) → is_that_task (task_of s.processor) u ≡ true → u ≡ t.0
    it_runs u e = sym (eqb-true t.0 u (sym (ap (λ (p : Processor). is_that_task (task_of p) u) runs) ∙ e))

    other_waits : (u : ℕ) → u ≢ t.0 → is_that_task (task_of s.processor) u ≡ false
    other_waits u other = ap (λ (p : Processor). is_that_task (task_of p) u) runs ∙ ne_eqb t.0 u (λ e. other (sym e))

    gets : (last : Option TaskNo) (x : TaskNo) → IsAbove app value last t.0 x.0 → (is_that_task last x.0 ≡ true) ⊎ (place_in_line s.line x.0 ≡ 0) → outcome_by app s ask.Maybe ≡ To (Some x)
    gets last x h first =
        let f : nat_lt (current_priority app s t.0) (current_priority app s x.0) ≡ true = less (task_priority app value t.0) (task_priority app value x.0) _ _ h.above (priority_is t.0 running.known) (priority_is x.0 h.best.is.known) in
        let differs : x.0 ≢ t.0 = λ e. (let same : task_priority app value x.0 ≡ task_priority app value t.0 = ap (task_priority app value) e in let higher = h.above in absurd (omega (arith, same, higher))) in
        let over = λ (u : ℕ) (e : is_that_task (task_of s.processor) u ≡ true). subst (λ (v : ℕ). task_priority app value v < task_priority app value x.0) (sym (it_runs u e)) h.above in
        by_caller ∙ ap (if_above app s t) (best_is_task last x h.best first (other_waits x.0 differs) over) ∙ ap (λ (b : Bool). if b then To (Some x) else Keep) f
      where
        less : (p q m n : ℕ) → p < q → p ≡ m → q ≡ n → nat_lt m n ≡ true
        less p q m n low e f = grind (arith, nat_tests)

    at_most_best : (x u : ℕ) → IsBest app s x → IsLiveTask app value u → task_priority app value u ≤ task_priority app value x
    at_most_best x u h l = elim (cases_eq u x) [
      | inl e ↦ subst (λ (v : ℕ). task_priority app value v ≤ task_priority app value x) (sym e) (omega arith)
      | inr other ↦ elim (h.others u (task_live u l) other) [
        | inl less ↦ omega (arith, less, priority_is x (known_live x h.live), priority_is u l.known)
        | inr equal ↦ (let e = equal.0 in omega (arith, e, priority_is x (known_live x h.live), priority_is u l.known))
      ]
    ]

    -- one of the two
    maybe_cases : (last : Option TaskNo) (before : State) → IsLineAfter last before s → NoneAbove app value t.0 ⊎ ((x : TaskNo) × IsAbove app value last t.0 x.0 × (best app s ≡ Some x))
    maybe_cases last before line =
        let first = some_best app s t.0 has_it.1 in
        let x = first.0 in
        elim (cases_lt (task_priority app value t.0) (task_priority app value x.0)) [
          | inl higher ↦
              (let differs : x.0 ≢ t.0 = λ e. (let same : task_priority app value x.0 ≡ task_priority app value t.0 = ap (task_priority app value) e in absurd (omega (arith, same, higher))) in
              inr (x, record { running = running; best = best_task last before x.0 line (other_waits x.0 differs) first.1; above = higher }, is_best app s x.0 first.1))
          | inr low ↦ inl (record { running = running; each = λ u l. (let most = at_most_best x.0 u first.1 l in omega (arith, most, low)) })
        ]

    above_so : (last : Option TaskNo) (x : TaskNo) → IsAbove app value last t.0 x.0 → best app s ≡ Some x → outcome_by app s ask.Maybe ≡ To (Some x)
    above_so last x h e =
        let f : nat_lt (current_priority app s t.0) (current_priority app s x.0) ≡ true = higher (task_priority app value t.0) (task_priority app value x.0) _ _ h.above (priority_is t.0 running.known) (priority_is x.0 h.best.is.known) in
        by_caller ∙ ap (if_above app s t) e ∙ ap (λ (b : Bool). if b then To (Some x) else Keep) f
      where
        higher : (p q m n : ℕ) → p < q → p ≡ m → q ≡ n → nat_lt m n ≡ true
        higher p q m n low e f = grind (arith, nat_tests)

  none_lives : best app s ≡ None → NoneLive app value
  none_lives e u l = (let f = none_live app s e u in let live = task_live u l in absurd (cc))

module _ (app : App) (leaving : Leaving) (e : Effect) (value : ℕ → PartValue) (well : Well app e.state) (same : HasValues app e.state value) where
  -- the kernel does it, and the processor stands there then
  abbrev Does : Decision → Type 0
  Does d = (outcome_of app e ≡ outcome_of_decision d) × (point_of (settled app e.state (outcome_of_decision d)) ≡ end_point app value (point_of e.state) d)

  each_by : (a : Asked) → Asks a e → (d : Decision) → DecidesBy app value leaving.last a d → GoesFirst leaving.last e.state d → Does d
  each_by asked.No asks decision.Keep h first = (ap (outcome_by app e.state) asks, kept_point app e.state)
  each_by asked.No asks (decision.To x) h first = absurd h
  each_by (asked.Maybe t) asks decision.Keep h first = (ap (outcome_by app e.state) asks.0 ∙ keeps app e.state well value same t asks.1 h, kept_point app e.state)
  each_by (asked.Maybe t) asks (decision.To None) h first = absurd h
  each_by (asked.Maybe t) asks (decision.To (Some x)) h first =
      (ap (outcome_by app e.state) asks.0 ∙ gets app e.state well value same t asks.1 leaving.last x h first, to_point app e.state well value same x h.best.is.known)
  each_by asked.Left asks decision.Keep h first = absurd h
  each_by asked.Left asks (decision.To None) h first = (ap (outcome_by app e.state) asks.0 ∙ ap To (no_best app e.state well value same h), refl)
  each_by asked.Left asks (decision.To (Some x)) h first =
      (ap (outcome_by app e.state) asks.0 ∙ ap To (idle_best app e.state well value same asks.1 leaving.last x h first), to_point app e.state well value same x h.is.known)
  each_by asked.Free asks decision.Keep h first = (ap (outcome_by app e.state) asks.0 ∙ ap if_any (no_best app e.state well value same h), kept_point app e.state)
  each_by asked.Free asks (decision.To None) h first = absurd h
  each_by asked.Free asks (decision.To (Some x)) h first =
      (ap (outcome_by app e.state) asks.0 ∙ ap if_any (idle_best app e.state well value same asks.1 leaving.last x h first), to_point app e.state well value same x h.is.known)

  -- and so it decides
  record DoesBy (a : Asked) (d : Decision) : Type 0 where
    decides : DecidesBy app value leaving.last a d
    outcome : outcome_of app e ≡ outcome_of_decision d
    point : point_of (settled app e.state (outcome_of_decision d)) ≡ end_point app value (point_of e.state) d

  module _ (s : State) where
    best_by : (asks : (e.ask ≡ ask.Left) × (e.state.processor ≡ processor.Idle)) → IsLineAfter leaving.last s e.state → (o : Option TaskNo) → best app e.state ≡ o → DoesBy asked.Left (decision.To o)
    best_by asks line None b = record { decides = none_lives app e.state well value same b; outcome = ap (outcome_by app e.state) asks.0 ∙ ap To b; point = refl }
    best_by asks line (Some x) b =
        let h = best_is app e.state x b in
        record {
          decides = best_task app e.state well value same leaving.last s x.0 line (none_runs app e.state well value same asks.1 x.0) h;
          outcome = ap (outcome_by app e.state) asks.0 ∙ ap To b;
          point = to_point app e.state well value same x (known_live app e.state well value same x.0 h.live);
        }

    free_by : (asks : (e.ask ≡ ask.Free) × (e.state.processor ≡ processor.Idle)) → IsLineAfter leaving.last s e.state → (o : Option TaskNo) → best app e.state ≡ o → (d : Decision) × DoesBy asked.Free d
    free_by asks line None b = (decision.Keep, record { decides = none_lives app e.state well value same b; outcome = ap (outcome_by app e.state) asks.0 ∙ ap if_any b; point = kept_point app e.state })
    free_by asks line (Some x) b =
        let h = best_is app e.state x b in (
          decision.To (Some x),
          record {
            decides = best_task app e.state well value same leaving.last s x.0 line (none_runs app e.state well value same asks.1 x.0) h;
            outcome = ap (outcome_by app e.state) asks.0 ∙ ap if_any b;
            point = to_point app e.state well value same x (known_live app e.state well value same x.0 h.live);
          },
        )

    by : (a : Asked) → Asks a e → LeavesLine a leaving.last s e.state → (d : Decision) × DoesBy a d
    by asked.No asks line = (decision.Keep, record { decides = tt; outcome = ap (outcome_by app e.state) asks; point = kept_point app e.state })
    by (asked.Maybe t) asks line = elim (maybe_cases app e.state well value same t asks.1 leaving.last s line) [
      | inl none ↦ (decision.Keep, record { decides = none; outcome = ap (outcome_by app e.state) asks.0 ∙ keeps app e.state well value same t asks.1 none; point = kept_point app e.state })
      | inr some ↦ (
        decision.To (Some some.0),
        record {
          decides = some.1;
          outcome = ap (outcome_by app e.state) asks.0 ∙ above_so app e.state well value same t asks.1 leaving.last some.0 some.1 some.2;
          point = to_point app e.state well value same some.0 some.1.best.is.known;
        },
      )
    ]
    by asked.Left asks line = (decision.To (best app e.state), best_by asks line (best app e.state) refl)
    by asked.Free asks line = free_by asks line (best app e.state) refl

pub each_decided : (app : App) (leaving : Leaving) (e : Effect) (value : ℕ → PartValue) → Well app e.state → Asks leaving.asked e → HasValues app e.state value → (d : Decision) → Decides app value leaving d → GoesFirst leaving.last e.state d →
    IsKernelDecision app leaving e value d
each_decided app leaving e value well asks same d h first = let x = each_by app leaving e value well same leaving.asked asks d h first in record { decides = h; outcome = x.0; point = x.1 }

-- what the kernel does is decided
pub choice_decided : (app : App) (leaving : Leaving) (s : State) (e : Effect) (value : ℕ → PartValue) → Well app e.state → Asks leaving.asked e → LeavesLine leaving.asked leaving.last s e.state → HasValues app e.state value →
    (d : Decision) × IsKernelDecision app leaving e value d
choice_decided app leaving s e value well asks line same =
    let c = by app leaving e value well same s leaving.asked asks line in
    (c.0, record { decides = c.1.decides; outcome = c.1.outcome; point = c.1.point })

module _ (app : App) (s : State) (e : Effect) (well : Well app e.state) (leaving : Leaving) (asks : Asks leaving.asked e) (line : LeavesLine leaving.asked leaving.last s e.state)
    (value : ℕ → PartValue) (same : HasValues app e.state value) where
  abbrev r : State
  r = e.state

  winner_first : (a : Asked) → Asks a e → LeavesLine a leaving.last s r → (d : Decision) → DecidesBy app value leaving.last a d → ((w : TaskNo) → d ≡ decision.To (Some w) → IsFirstIfThere w.0 s) → GoesFirst leaving.last r d
  winner_first a asks line decision.Keep h first = tt
  winner_first a asks line (decision.To None) h first = tt
  winner_first asked.No asks line (decision.To (Some w)) h first = absurd h
  winner_first (asked.Maybe t) asks line (decision.To (Some w)) h first =
      let differs : w.0 ≢ t.0 = λ same. (let equal : task_priority app value w.0 ≡ task_priority app value t.0 = ap (task_priority app value) same in let higher = h.above in absurd (omega (arith, equal, higher))) in
      still_first app r well value same leaving.last s w.0 line (task_live app r well value same w.0 h.best.is) (other_waits app r well value same t asks.1 w.0 differs) (first w refl)
  winner_first asked.Left asks line (decision.To (Some w)) h first = still_first app r well value same leaving.last s w.0 line (task_live app r well value same w.0 h.is) (none_runs app r well value same asks.1 w.0) (first w refl)
  winner_first asked.Free asks line (decision.To (Some w)) h first = still_first app r well value same leaving.last s w.0 line (task_live app r well value same w.0 h.is) (none_runs app r well value same asks.1 w.0) (first w refl)

  -- what is decided is the kernel's, where who gets the processor came first before the effect
  pub decided_so : (d : Decision) → Decides app value leaving d → ((w : TaskNo) → d ≡ decision.To (Some w) → IsFirstIfThere w.0 s) → IsKernelDecision app leaving e value d
  decided_so d h first = each_decided app leaving e value well asks same d h (winner_first leaving.asked asks line d h first)

  -- and the kernel's is decided
  pub some_decided : (d : Decision) × IsKernelDecision app leaving e value d
  some_decided = choice_decided app leaving s e value well asks line same
