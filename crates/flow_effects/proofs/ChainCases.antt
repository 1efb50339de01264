-- The cases of ChainTask are its effects.
use Rattle.std.proofs.Common.{◌≡◌, ℕ, ◌<◌, Bool, true, false, not, ◌&&◌, nat_eq, List, [], ◌∷◌, ◌++◌, length, refl, sym, ap, subst, ◌∙◌, inl, inr, arith, Some, None, IsTrue, get_or-set_same, get_or-set_other}
use Rattle.std.specs.{Prelude.{◌==◌}, declared.option.Option.{Option}}
use Rattle.std.proofs.{lemmas.Bool.{and_from, and_parts, cases_Bool, eq-eqb, eqb-true, eqb-false, ne_eqb, not-true}, Math.ListN.{length-set}}
use Rattle.osek_values.specs.declared.numbers.{TaskNo.{TaskNo}, BlockNo.{BlockNo}, SourceNo.{SourceNo}}
use Rattle.osek_values.specs.declared.status.Status.TheVariants as status
use Rattle.osek_values.specs.declared.status.Ask.TheVariants as ask
use Rattle.osek_standard.specs.declared.{app.App.{App}, block.Kind.{Kind}}
use Rattle.osek_standard.specs.declared.block.Kind.TheVariants as kind
use Rattle.flow_effects.specs.CallNames as call
use Rattle.osek_standard.specs.declared.{state.{State.{State}, Processor.{Processor}, Caller.{Caller, TheVariants.{Task, Routine}}}, task_state.{TaskState.{TaskState}, Activity.{Activity}}}
use Rattle.osek_standard.specs.declared.task_state.Activity.TheVariants as activity
use Rattle.osek_standard.specs.{Apps.{the_task, the_block, tables}, Validity.{NamesEntries}, TaskStates.{further, further_in, is_live, is_live_activity, suspended, is_suspended, is_suspended_activity}}
use Rattle.osek_standard.specs.{States.{task_of, is_that_task, task_state, caller}, Services.{unnoted, refused, left, ended, ended_by, activated, holds_some, is_full, is_full_by, chain_task}, Effects.{place_at, moved_to}}
use Rattle.osek_standard.specs.Line.{places, places_due}
use Rattle.osek_standard.proofs.{LineLaws.{due_waiting}, TaskServiceKeeps.{room_to_chain}}
use Rattle.abstract_state.specs.Components.{component_count, abstract_of}
use Rattle.flow_model.specs.declared.case.EffectCase.{EffectCase}
use Rattle.flow_model.specs.declared.case.Asked.TheVariants as asked
use Rattle.flow_model.specs.declared.change.Change.{Change}
use Rattle.osek_standard.specs.declared.point.Point.TheVariants as point
use Rattle.flow_model.specs.declared.test.{Test.{Test}, Condition.{Condition}}
use Rattle.flow_model.specs.declared.test.Test.TheVariants as test
use Rattle.flow_model.specs.declared.runner.Runner.{Runner}
use Rattle.flow_model.specs.declared.runner.Runner.TheVariants as runner
use Rattle.flow_model.specs.{Changes.{activating, activating_more}, Tests.{passes, PassesAll, value_after}, Runners.{Stands, OwnsBlock, runner_point}, Effects.{HasEffect, IsLineAfter, AreCasesOf}}
use Rattle.flow_model.specs.Cases.{effect_case, with_last}
use Rattle.flow_model.proofs.{Activations.{activated_parts, more_parts}, ChangeLaws.{each_passes, passes_each}, Standing.{next_owned, task_calls, routine_calls}}
use Rattle.flow_model.proofs.{LinesAfter.{line_with_last, line_with_more, some_due}, Moves.{moved_keeps_of, moved_suspended, moved_live, went_on}, Calls.{asked_none, call_goes_on, call_has, moved_line}}
use Rattle.flow_effects.specs.Conditions.{of_task}
use Rattle.flow_effects.specs.TaskEnds.{further_test, end_change, and_further, refused_holding, chains_start, chains_more, holding_nothing, holding_nothing_and, limited, chain_to_itself, chain_to_another, chain_cases}
use Rattle.flow_effects.proofs.Listed.{IsEffect, IsTaken, are_cases, more_listed, one_listed}
use Rattle.flow_services.proofs.{ActivationLaws.{activated_is, idle_has_room, live_by_room}, Seeing.{still_full, tests_full, tests_room, tests_suspended}, ServiceListing.{operands_of}}
use Rattle.flow_effects.proofs.{TaskValues.{counted, holds_none}, TaskEndCases.{and_passes, either_held, ended_after, further_left, others_pass, refused_is, same_further, same_holds}, MoveCases.{goes_on_cases}}

-- what ended with no further activation is suspended, and else Live
suspended_after : (app : App) (t : ℕ) (a : Activity) → is_live_activity a ≡ true → (further_in a == 0) ≡ true → is_suspended_activity (ended_by app t a) ≡ true
suspended_after app t activity.Suspended live e = refl
suspended_after app t (activity.Live y) live e = (let none : nat_eq y.further 0 ≡ true = e in rw none refl)
suspended_after app t (activity.Waiting b) live e = refl

live_after : (app : App) (t : ℕ) (a : Activity) → is_live_activity a ≡ true → (further_in a == 0) ≡ false → is_live_activity (ended_by app t a) ≡ true
live_after app t activity.Suspended live e = absurd (cc)
live_after app t (activity.Live y) live e = (let some : nat_eq y.further 0 ≡ false = e in rw some refl)
live_after app t (activity.Waiting b) live e = absurd (cc)

-- who has the processor stands in the line for each further activation
placed_further : (t : TaskNo) (a : Activity) → is_live_activity a ≡ true → (further_in a == 0) ≡ false → 0 < places_due (Some t) t.0 a
placed_further t activity.Suspended live e = absurd (cc)
placed_further t (activity.Live y) live e =
    let some = eqb-false y.further 0 e in
    let same : is_that_task (Some t) t.0 ≡ true = eq-eqb t.0 t.0 refl in
    (rw same (omega (arith, some)))
placed_further t (activity.Waiting b) live e = absurd (cc)

-- what is suspended has no place
idle_due : (o : Option TaskNo) (t : ℕ) (a : Activity) → is_suspended_activity a ≡ true → places_due o t a ≡ 0
idle_due o t activity.Suspended e = refl
idle_due o t (activity.Live y) e = absurd (cc)
idle_due o t (activity.Waiting c) e = absurd (cc)

module _ (app : App) (t : TaskNo) (b : BlockNo) (owns : OwnsBlock app (runner.Task t) b) (x : TaskNo) (is : (the_block app b.0).kind ≡ kind.Call (call.Task call.ChainTask x)) where
  abbrev r : Runner
  r = runner.Task t

  abbrev next : BlockNo
  next = (the_block app b.0).next

  abbrev after : State → State
  after s = moved_to s next

  abbrev chaining : Kind
  chaining = kind.Call (call.Task call.ChainTask x)

  abbrev most : ℕ
  most = (the_task app x.0).activation

  known : x.0 < length app.tasks
  known = subst (NamesEntries (tables app)) is (operands_of app r b owns)

  on : (s : State) → Stands app s r b → Stands app (after s) r next
  on s h = went_on app s r b next h (next_owned app s r b h)

  row_refused : (s : State) → holds_some s t.0 ≡ true → chain_task app s (Task t) x.0 ≡ refused s status.Resource
  unfolding chain_task
  row_refused s e = rw e refl

  row_limited : (s : State) → holds_some s t.0 ≡ false → (not (nat_eq x.0 t.0) && is_full app s x.0) ≡ true → chain_task app s (Task t) x.0 ≡ refused s status.Limit
  unfolding chain_task
  row_limited s e f = rw (e, f) refl

  abbrev chained : State → State
  chained s = activated app (left (ended app s t.0)) x.0

  abbrev over : State → State
  over s = left (ended app (after s) t.0)

  row_chains : (s : State) → holds_some s t.0 ≡ false → (not (nat_eq x.0 t.0) && is_full app s x.0) ≡ false → chain_task app s (Task t) x.0 ≡ unnoted (chained s) ask.Left
  unfolding chain_task
  row_chains s e f = rw (e, f) refl

  -- a test of the caller's resources, and one of the other task
  free_of : (s : State) (more : List Condition) → PassesAll app (of_task t test.HoldsNothing ∷ more) (abstract_of app s) → Stands app s r b → holds_some (after s) t.0 ≡ false
  free_of s more passing h =
      same_holds app t b owns s h
      ∙ holds_none app s t owns.0 (each_passes app (abstract_of app s) (of_task t test.HoldsNothing ∷ more) passing (of_task t test.HoldsNothing) (inl refl) (counted app s t owns.0))

  other_of : (s : State) (z : Test) → PassesAll app (holding_nothing_and t x z) (abstract_of app s) → IsTrue (passes z (abstract_of app s x.0))
  other_of s z passing = each_passes app (abstract_of app s) (holding_nothing_and t x z) passing (of_task x z) (inr (inl refl)) (counted app s x known)

  passes_both : (s : State) (z : Test) → PassesAll app (holding_nothing t) (abstract_of app s) → IsTrue (passes z (abstract_of app s x.0)) → PassesAll app (holding_nothing_and t x z) (abstract_of app s)
  passes_both s z free h = passes_each app (abstract_of app s) (holding_nothing_and t x z) (λ y n. elim n [
    | inl e ↦ subst (λ (c : Condition). IsTrue (passes c.test (abstract_of app s c.component.0))) (sym e)
        (each_passes app (abstract_of app s) (holding_nothing t) free (of_task t test.HoldsNothing) (inl refl) (counted app s t owns.0))
    | inr (inl e) ↦ subst (λ (c : Condition). IsTrue (passes c.test (abstract_of app s c.component.0))) (sym e) h
    | inr (inr more) ↦ absurd more
  ])

  -- the other task takes a further activation after the move where it does before it
  full_after : (s : State) → Stands app s r b → is_full app (after s) x.0 ≡ is_full app s x.0
  full_after s h = moved_keeps_of app s h.well (place_at next 0) (λ (y : TaskState). is_full_by most y.activity) (λ y. still_full most y.activity (place_at next 0)) x.0

  -- the components after a chain, by what an activation makes of them after the end
  module _ (s : State) (h : Stands app s r b) (more : Bool) (further_is : (further (task_state s t.0) == 0) ≡ not more) where
    here : x.0 < length (over s).tasks
    here =
        let gone : TaskState = record (task_state (after s) t.0) { activity = ended_by app t.0 (task_state (after s) t.0).activity } in
        let lx = known in
        omega (arith, lx, (on s h).well.tasks_len, length-set (after s).tasks t.0 gone)

    begun_parts : is_suspended (task_state (over s) x.0) ≡ true → (c : ℕ) → c < component_count app → abstract_of app (chained (after s)) c ≡ value_after (end_change app t more ∷ activating app x.0) c (abstract_of app s c)
    begun_parts off c lt =
        ap (λ (m : State). abstract_of app m c) (activated_is app x.0 (over s) off)
        ∙ activated_parts app (over s) x.0 here known c lt
        ∙ ap (value_after (activating app x.0) c) (ended_after app t b owns s h more further_is c lt)

    again_parts : is_live (task_state (over s) x.0) ≡ true → is_full app (over s) x.0 ≡ false → (c : ℕ) → c < component_count app → abstract_of app (chained (after s)) c ≡ value_after (end_change app t more ∷ activating_more x.0) c (abstract_of app s c)
    again_parts live room c lt =
        more_parts app (over s) x.0 here known live room c lt
        ∙ ap (value_after (activating_more x.0) c) (ended_after app t b owns s h more further_is c lt)

  chains_has : (s : State) (choice : Bool) (conditions : List Condition) (changes : List Change) (last : Option TaskNo) → Stands app s r b → holds_some (after s) t.0 ≡ false → (not (nat_eq x.0 t.0) && is_full app (after s) x.0) ≡ false →
      ((c : ℕ) → c < component_count app → abstract_of app (chained (after s)) c ≡ value_after changes c (abstract_of app s c)) → IsLineAfter last s (chained (after s)) → PassesAll app conditions (abstract_of app s) →
      HasEffect app (with_last last (effect_case conditions changes asked.Left None point.Idle)) s choice
  chains_has s choice conditions changes last h free may parts line passing =
      call_has app (with_last last (effect_case conditions changes asked.Left None point.Idle)) s choice r b chaining (unnoted (chained (after s)) ask.Left) (λ u ch p y. refl) h is
      (ap (λ (c : Caller). chain_task app (after s) c x.0) (task_calls app s t b h) ∙ row_chains (after s) free may) passing
      (record { point = refl; parts = parts; asked = refl; kept = refl; line = line; status = refl })

  -- the place that the chain puts at the end of the line
  line_is : (s : State) → (chained (after s)).line ≡ s.line ++ x ∷ []
  line_is s = ap (λ (l : List TaskNo). l ++ x ∷ []) (moved_line s (place_at next 0))

  refused_first : IsEffect app r b (refused_holding t next)
  refused_first = refused_is app t b owns chaining (λ u ch p y. refl) is row_refused

  -- the caller after its end
  module _ (s : State) (h : Stands app s r b) where
    gone_is : (task_state (over s) t.0).activity ≡ ended_by app t.0 (task_state (after s) t.0).activity
    gone_is =
        let there : t.0 < length (after s).tasks = (let lt = owns.0 in omega (arith, lt, (on s h).well.tasks_len)) in
        ap (λ (y : TaskState). y.activity) (get_or-set_same (after s).tasks t.0 (record (task_state (after s) t.0) { activity = ended_by app t.0 (task_state (after s) t.0).activity }) suspended there)

    room_for : (not (nat_eq x.0 t.0) && is_full app (after s) x.0) ≡ false → is_full app (over s) x.0 ≡ false
    room_for may = room_to_chain app (after s) t x.0 (on s h).well (on s h).runs.runs may

    due_is : places s t.0 ≡ places_due (Some t) t.0 (task_state s t.0).activity
    due_is = h.well.line t.0 ∙ ap (λ (p : Processor). places_due (task_of p) t.0 (task_state s t.0).activity) h.runs.runs

  -- to itself
  module _ (same : (x.0 == t.0) ≡ true) where
    is_t : x.0 ≡ t.0
    is_t = eqb-true x.0 t.0 same

    itself_may : (s : State) → (not (nat_eq x.0 t.0) && is_full app (after s) x.0) ≡ false
    itself_may s = ap (λ (a : Bool). not a && is_full app (after s) x.0) same

    abbrev starts : EffectCase
    starts = chains_start app t x (holding_nothing t) false

    abbrev again : EffectCase
    again = chains_more app t x (holding_nothing t) true

    starts_is : IsEffect app r b starts
    starts_is s choice h passing =
        let none = further_left app t b owns s (holding_nothing t) false passing in
        let none_after : (further (task_state (after s) t.0) == 0) ≡ true = ap (λ (n : ℕ). n == 0) (same_further app t b owns s h) ∙ none in
        let off : is_suspended (task_state (over s) t.0) ≡ true = ap is_suspended_activity (gone_is s h) ∙ suspended_after app t.0 (task_state (after s) t.0).activity (on s h).runs.has.1 none_after in
        let unplaced : places s t.0 ≡ 0 = due_is s h ∙ due_waiting t (task_state s t.0).activity (eqb-true (further (task_state s t.0)) 0 none) h.runs.has.1 in
        chains_has s choice (and_further (holding_nothing t) t false) (end_change app t false ∷ activating app x.0) (Some x) h (free_of s (of_task t (further_test false) ∷ []) passing h) (itself_may s)
        (begun_parts s h false none (ap (λ (n : ℕ). is_suspended (task_state (over s) n)) is_t ∙ off))
        (line_with_last s (chained (after s)) x (line_is s) (ap (places s) is_t ∙ unplaced)) passing

    again_is : IsEffect app r b again
    again_is s choice h passing =
        let some = further_left app t b owns s (holding_nothing t) true passing in
        let some_after : (further (task_state (after s) t.0) == 0) ≡ false = ap (λ (n : ℕ). n == 0) (same_further app t b owns s h) ∙ some in
        let live : is_live (task_state (over s) t.0) ≡ true = ap is_live_activity (gone_is s h) ∙ live_after app t.0 (task_state (after s) t.0).activity (on s h).runs.has.1 some_after in
        let placed : 0 < places s t.0 = subst (λ (n : ℕ). 0 < n) (sym (due_is s h)) (placed_further t (task_state s t.0).activity h.runs.has.1 some) in
        chains_has s choice (and_further (holding_nothing t) t true) (end_change app t true ∷ activating_more x.0) None h (free_of s (of_task t (further_test true) ∷ []) passing h) (itself_may s)
        (again_parts s h true some (ap (λ (n : ℕ). is_live (task_state (over s) n)) is_t ∙ live) (room_for s h (itself_may s)))
        (line_with_more s (chained (after s)) x (line_is s) (λ waits. subst (λ (n : ℕ). 0 < places s n) (sym is_t) placed)) passing

    itself_taken : (s : State) → PassesAll app (holding_nothing t) (abstract_of app s) → IsTaken app r b s (starts ∷ again ∷ [])
    itself_taken s free = elim (cases_Bool (further (task_state s t.0) == 0)) [
      | inl none ↦ record { case = starts; among = inl refl; passes = and_passes app t b owns s (holding_nothing t) false free none }
      | inr some ↦ record { case = again; among = inr (inl refl); passes = and_passes app t b owns s (holding_nothing t) true free some }
    ]

    to_itself : AreCasesOf app (runner_point r b) (chain_to_itself app t next x)
    to_itself = are_cases app r b owns (chain_to_itself app t next x)
        (more_listed app r b (refused_holding t next) (starts ∷ again ∷ []) (tt, refused_first)
        (more_listed app r b starts (again ∷ []) (tt, starts_is) (one_listed app r b again (tt, again_is))))
        (λ s h. either_held app t b owns (starts ∷ again ∷ []) s (itself_taken s))

  -- to another
  module _ (other : (x.0 == t.0) ≡ false) where
    abbrev idle : List Condition
    idle = holding_nothing_and t x test.Suspended

    abbrev room : List Condition
    room = holding_nothing_and t x (test.Room most)

    -- it is as before the end
    other_stays : (s : State) → task_state (over s) x.0 ≡ task_state (after s) x.0
    other_stays s = get_or-set_other (after s).tasks t.0 x.0 (record (task_state (after s) t.0) { activity = ended_by app t.0 (task_state (after s) t.0).activity }) suspended (eqb-false x.0 t.0 other)

    other_may : (s : State) → Stands app s r b → (not (nat_eq x.0 t.0) && is_full app (after s) x.0) ≡ is_full app s x.0
    other_may s h = ap (λ (a : Bool). not a && is_full app (after s) x.0) other ∙ full_after s h

    limited_is : IsEffect app r b (limited app t next x)
    limited_is s choice h passing =
        let full : is_full app s x.0 ≡ true = sym (tests_full app s x.0 known most) ∙ other_of s (test.Full most) passing in
        call_goes_on app s choice r b chaining (holding_nothing_and t x (test.Full most)) asked.No (Some status.Limit) None ask.No (λ u ch p y. refl) h is
        (ap (λ (c : Caller). chain_task app (after s) c x.0) (task_calls app s t b h) ∙ row_limited (after s) (free_of s (of_task x (test.Full most) ∷ []) passing h) (other_may s h ∙ full))
        (asked_none app r chaining) passing tt

    begins_is : (more : Bool) → IsEffect app r b (chains_start app t x idle more)
    begins_is more s choice h passing =
        let those = others_pass app t b owns s idle more passing in
        let off : is_suspended (task_state s x.0) ≡ true = sym (tests_suspended app s x.0 known) ∙ other_of s test.Suspended those in
        let off_after : is_suspended (task_state (over s) x.0) ≡ true = ap is_suspended (other_stays s) ∙ moved_suspended app s h.well (place_at next 0) x.0 ∙ off in
        chains_has s choice (and_further idle t more) (end_change app t more ∷ activating app x.0) (Some x) h (free_of s (of_task x test.Suspended ∷ []) those h) (other_may s h ∙ idle_has_room most (task_state s x.0).activity off)
        (begun_parts s h more (further_left app t b owns s idle more passing) off_after)
        (line_with_last s (chained (after s)) x (line_is s) (h.well.line x.0 ∙ idle_due (task_of s.processor) x.0 (task_state s x.0).activity off)) passing

    waits_there : (s : State) → Stands app s r b → is_that_task (task_of s.processor) x.0 ≡ false
    waits_there s h = ap (λ (p : Processor). is_that_task (task_of p) x.0) h.runs.runs ∙ ne_eqb t.0 x.0 (λ e. eqb-false x.0 t.0 other (sym e))

    goes_on_is : (more : Bool) → IsEffect app r b (chains_more app t x room more)
    goes_on_is more s choice h passing =
        let those = others_pass app t b owns s room more passing in
        let both = and_parts (not (is_suspended (task_state s x.0))) (not (is_full app s x.0)) (sym (tests_room app s x.0 known most) ∙ other_of s (test.Room most) those) in
        let awake : is_suspended (task_state s x.0) ≡ false = not-true (is_suspended (task_state s x.0)) both.0 in
        let free : is_full app s x.0 ≡ false = not-true (is_full app s x.0) both.1 in
        let live : is_live (task_state s x.0) ≡ true = live_by_room most (task_state s x.0).activity awake free in
        let live_then : is_live (task_state (over s) x.0) ≡ true = ap is_live (other_stays s) ∙ moved_live app s h.well (place_at next 0) x.0 ∙ live in
        let may = other_may s h ∙ free in
        chains_has s choice (and_further room t more) (end_change app t more ∷ activating_more x.0) None h (free_of s (of_task x (test.Room most) ∷ []) those h) may
        (again_parts s h more (further_left app t b owns s room more passing) live_then (room_for s h may))
        (line_with_more s (chained (after s)) x (line_is s)
        (λ waits. subst (λ (n : ℕ). 0 < n) (sym (h.well.line x.0)) (some_due (task_of s.processor) x.0 (task_state s x.0).activity live (waits_there s h)))) passing

    abbrev going_on : List EffectCase
    going_on = chains_more app t x room false ∷ chains_more app t x room true ∷ []

    abbrev beginning : List EffectCase
    beginning = chains_start app t x idle true ∷ going_on

    abbrev others : List EffectCase
    others = limited app t next x ∷ chains_start app t x idle false ∷ beginning

    other_taken : (s : State) → PassesAll app (holding_nothing t) (abstract_of app s) → IsTaken app r b s others
    other_taken s free = elim (cases_Bool (is_suspended (task_state s x.0))) [
      | inl off ↦
          (let passing = passes_both s test.Suspended free (tests_suspended app s x.0 known ∙ off) in
          elim (cases_Bool (further (task_state s t.0) == 0)) [
            | inl none ↦ record { case = chains_start app t x idle false; among = inr (inl refl); passes = and_passes app t b owns s idle false passing none }
            | inr some ↦ record { case = chains_start app t x idle true; among = inr (inr (inl refl)); passes = and_passes app t b owns s idle true passing some }
          ])
      | inr awake ↦ elim (cases_Bool (is_full app s x.0)) [
        | inl full ↦ record { case = limited app t next x; among = inl refl; passes = passes_both s (test.Full most) free (tests_full app s x.0 known most ∙ full) }
        | inr has_room ↦
            (let passing = passes_both s (test.Room most) free
            (tests_room app s x.0 known most ∙ and_from (not (is_suspended (task_state s x.0))) (not (is_full app s x.0)) (ap not awake) (ap not has_room)) in
            elim (cases_Bool (further (task_state s t.0) == 0)) [
              | inl none ↦ record { case = chains_more app t x room false; among = inr (inr (inr (inl refl))); passes = and_passes app t b owns s room false passing none }
              | inr some ↦ record { case = chains_more app t x room true; among = inr (inr (inr (inr (inl refl)))); passes = and_passes app t b owns s room true passing some }
            ])
      ]
    ]

    to_another : AreCasesOf app (runner_point r b) (chain_to_another app t next x)
    to_another = are_cases app r b owns (chain_to_another app t next x)
        (more_listed app r b (refused_holding t next) others (tt, refused_first)
        (more_listed app r b (limited app t next x) (chains_start app t x idle false ∷ beginning) (tt, limited_is)
        (more_listed app r b (chains_start app t x idle false) beginning (tt, begins_is false)
        (more_listed app r b (chains_start app t x idle true) going_on (tt, begins_is true)
        (more_listed app r b (chains_more app t x room false) (chains_more app t x room true ∷ []) (tt, goes_on_is false) (one_listed app r b (chains_more app t x room true) (tt, goes_on_is true)))))))
        (λ s h. either_held app t b owns others s (other_taken s))

  pub chain_task_cases : AreCasesOf app (runner_point r b) (chain_cases app r next x)
  chain_task_cases = elim (cases_Bool (x.0 == t.0)) [
    | inl same ↦ (rw same (to_itself same))
    | inr other ↦ (rw other (to_another other))
  ]

-- a routine's call is refused
module _ (app : App) (b : BlockNo) (x : TaskNo) (is : (the_block app b.0).kind ≡ kind.Call (call.Task call.ChainTask x)) where
  at_interrupt : (s : State) (c : Caller) (k : SourceNo) → c ≡ Routine k → chain_task app s c x.0 ≡ refused s status.CallLevel
  unfolding chain_task
  at_interrupt s c k e = ap (λ (d : Caller). chain_task app s d x.0) e

  pub all_chains : (r : Runner) → OwnsBlock app r b → AreCasesOf app (runner_point r b) (chain_cases app r (the_block app b.0).next x)
  all_chains (runner.Task t) owns = chain_task_cases app t b owns x is
  all_chains (runner.Routine k z over) owns = goes_on_cases app (runner.Routine k z over) b owns (kind.Call (call.Task call.ChainTask x)) (Some status.CallLevel) (λ u ch p y. refl) is
      (λ s h. at_interrupt (moved_to s (the_block app b.0).next) (caller s.processor) k (routine_calls app s k z over b h))
