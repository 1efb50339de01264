-- The cases of GetResource and ReleaseResource are their effects.
use Rattle.std.proofs.Common.{◌≡◌, ℕ, ◌-◌, ◌<◌, Bool, true, false, not, ◌||◌, List, [], ◌∷◌, ◌++◌, length, take, refl, sym, ap, subst, ◌∙◌, inl, inr, arith, Some, None, IsTrue, get_or-set_same}
use Rattle.std.specs.{Prelude.{if◌then◌else◌}, List.{list_any, range_with_len}}
use Rattle.std.proofs.lemmas.{Bool.{cases_Bool, lt-ltb, false≢true}, List.Folds.{list_any_at}}
use Rattle.osek_values.specs.{Numbers.{mask, task_no}, declared.limits.TheConstants.{MAX_RESOURCES}}
use Rattle.osek_values.specs.declared.numbers.{TaskNo.{TaskNo}, BlockNo.{BlockNo}, ResNo.{ResNo}}
use Rattle.osek_values.specs.declared.status.Status.TheVariants as status
use Rattle.osek_values.specs.declared.status.{Status.{Status}, Ask.{Ask}}
use Rattle.osek_values.specs.declared.status.Ask.TheVariants as ask
use Rattle.osek_values.specs.Bits.{has_bit}
use Rattle.osek_standard.specs.declared.{app.App.{App}, block.Kind.{Kind}}
use Rattle.osek_standard.specs.declared.block.Kind.TheVariants as kind
use Rattle.flow_effects.specs.CallNames as call
use Rattle.osek_standard.specs.declared.state.{State.{State}, Source.{Source}, Processor.{Processor}, Caller.{Caller, TheVariants.{Task}}}
use Rattle.osek_standard.specs.declared.task_state.{TaskState.{TaskState}, Activity.{Activity}}
use Rattle.osek_standard.specs.declared.task_state.Activity.TheVariants as activity
use Rattle.osek_standard.specs.declared.point.Point.TheVariants as point
use Rattle.osek_standard.specs.declared.state.Source.TheVariants as source
use Rattle.osek_standard.specs.declared.state.Processor.TheVariants as processor
use Rattle.osek_standard.specs.{Apps.{the_block, tables}, Validity.{NamesEntries}, TaskStates.{suspended, further, further_in, is_inside, is_inside_in, is_live_activity, held, holds}}
use Rattle.osek_standard.specs.{States.{task_state, source_state, held_by_source, place_by, place_in, is_taken}, Points.{point_at, point_of}}
use Rattle.osek_standard.specs.Services.{refused, accepted, with_stack, with_held, is_on_top, get_resource, release_resource}
use Rattle.osek_standard.specs.Effects.{place_at, moved_to, called}
use Rattle.osek_standard.proofs.Members.{among_map, map_among, among_range, range_among}
use Rattle.osek_standard.specs.Well.{Well, IsProcessor}
use Rattle.osek_standard.proofs.StackLaws.{IsTakable, held_stack, not_taken, room_on}
use Rattle.flow_services.proofs.ServiceListing.{operands_of}
use Rattle.abstract_state.specs.declared.value.{Val.{Val, TheVariants.{Live}}, PartValue.{PartValue, TheVariants.{OfTask}}}
use Rattle.abstract_state.specs.Components.{component_count, abstract_of, value_in, live_val}
use Rattle.flow_model.specs.declared.case.{Asked.{Asked}, EffectCase.{EffectCase}}
use Rattle.flow_model.specs.declared.case.Asked.TheVariants as asked
use Rattle.flow_model.specs.declared.test.Condition.{Condition}
use Rattle.flow_model.specs.declared.test.Test.TheVariants as test
use Rattle.flow_model.specs.declared.change.Update.{Update}
use Rattle.flow_model.specs.declared.change.Update.TheVariants as update
use Rattle.flow_model.specs.declared.runner.Runner.{Runner}
use Rattle.flow_model.specs.declared.runner.Runner.TheVariants as runner
use Rattle.flow_model.specs.{Values.{with_top, without_top}, Tests.{passes, updated, PassesAll, value_after}}
use Rattle.flow_model.specs.{Runners.{Stands, OwnsBlock, change, runner_point}, Effects.{HasEffect, AreCasesOf}, Cases.{goes_on, asked_after, asked_for}}
use Rattle.flow_model.proofs.{ChangeLaws.{each_passes, passes_each}, Standing.{next_owned, task_calls}}
use Rattle.flow_model.proofs.{Moves.{activity_parts, moved_held, moved_parts, moved_has, went_on}, Calls.{IsCall, KeepsOrLeaves, asked_none, asked_maybe, call_goes_on, call_has, moved_line, same_line}}
use Rattle.flow_effects.specs.{Conditions.{of_task}, Moves.{goes_on_as, refuses}}
use Rattle.flow_effects.specs.Resources.{only, nobody_holds, taken_cases, takes, gives_back, isnt_on_top, is_barred, get_cases, release_cases}
use Rattle.flow_effects.proofs.Listed.{IsEffect, IsCase, AreListed, IsTaken, are_cases, both_listed, more_listed, one_listed, taken_first, taken_then}
use Rattle.flow_effects.proofs.{TaskValues.{counted, held_value, task_passes, passes_task, test_value, stands_block, stands_value}, TaskEndCases.{changed_over}}
use Rattle.flow_effects.proofs.{MoveCases.{goes_on_cases}, ResourceTests.{any_at, any_only, not-true, or_last, restacked_moved}, RoutineResourceCases.{get_routine_cases, release_routine_cases}}

-- at task level no routine holds a resource
no_routine_holds : (m : State) → ((k : ℕ) → source_state m k ≡ source.Out) → (res : ℕ) → list_any (λ x. holds (held_by_source x) res) m.sources ≡ false
no_routine_holds m out res = elim (cases_Bool (list_any (λ x. holds (held_by_source x) res) m.sources)) [
  | inl some ↦
      (let at = any_at source.Out (λ x. holds (held_by_source x) res) m.sources some in
      let held_there : holds (held_by_source (source_state m at.0)) res ≡ true = at.2 in
      absurd (false≢true (sym (ap (λ (x : Source). holds (held_by_source x) res) (out at.0)) ∙ held_there)))
  | inr none ↦ none
]

-- another stack
stack_value : (n : BlockNo) (a : Activity) (g : List ResNo) → is_live_activity a ≡ true → (place_in a).block ≡ n → value_in (with_stack a g) ≡ Live (live_val n (further_in a) (is_inside_in a) g)
stack_value n activity.Suspended g e at = absurd (cc)
stack_value n (activity.Live x) g e at = ap (λ (b : BlockNo). Live (live_val b x.further x.inside g)) at
stack_value n (activity.Waiting b) g e at = absurd (cc)

stack_block : (a : Activity) (g : List ResNo) → (place_in (with_stack a g)).block ≡ (place_in a).block
stack_block activity.Suspended g = refl
stack_block (activity.Live x) g = refl
stack_block (activity.Waiting b) g = refl

-- what a Live task is at a block with a stack
abbrev with_stack_at : State → ℕ → BlockNo → List ResNo → PartValue
with_stack_at s t n g = OfTask (Live (live_val n (further (task_state s t)) (is_inside (task_state s t)) g))

-- the running task has another stack, by an update of its value
module _ (app : App) (s : State) (t : TaskNo) (n : BlockNo) (h : Stands app s (runner.Task t) n) (g : List ResNo) where
  abbrev x : TaskState
  x = record (task_state s t.0) { activity = with_stack (task_state s t.0).activity g }

  there : t.0 < length s.tasks
  there = let known = h.runs.has.0 in omega (arith, known, h.well.tasks_len)

  held_point : point_of (with_held s t.0 g) ≡ point.Task n
  held_point =
      ap (λ (p : Processor). point_at (place_by (with_held s t.0 g) p).block p) h.runs.runs
      ∙ ap (λ (y : TaskState). point.Task (place_in y.activity).block) (get_or-set_same s.tasks t.0 x suspended there)
      ∙ ap point.Task (stack_block (task_state s t.0).activity g ∙ stands_block app s t n h)

  held_parts : (u : Update) → updated u (with_stack_at s t.0 n (held (task_state s t.0))) ≡ with_stack_at s t.0 n g → (c : ℕ) → c < component_count app →
      abstract_of app (with_held s t.0 g) c ≡ value_after (change t.0 u ∷ []) c (abstract_of app s c)
  held_parts u becomes c lt = activity_parts app s t.0 x there refl u h.runs.has.0
      (ap (λ (v : Val). updated u (OfTask v)) (stands_value app s t n h) ∙ becomes ∙ ap OfTask (sym (stack_value n (task_state s t.0).activity g h.runs.has.1 (stands_block app s t n h)))) c lt

module _ (app : App) (t : TaskNo) (b : BlockNo) (owns : OwnsBlock app (runner.Task t) b) (res : ResNo) where
  abbrev r : Runner
  r = runner.Task t

  abbrev next : BlockNo
  next = (the_block app b.0).next

  abbrev after : State → State
  after s = moved_to s next

  abbrev barred : Bool
  barred = is_barred app t res

  on : (s : State) → Stands app s r b → Stands app (after s) r next
  on s h = went_on app s r b next h (next_owned app s r b h)

  -- while a task runs, tasks alone hold resources
  untaken_by : (s : State) (n : BlockNo) → Stands app s r n → list_any (λ y. holds (held y) res.0) s.tasks ≡ false → is_taken s res.0 ≡ false
  untaken_by s n h none =
      let has : IsProcessor app s (processor.Running t) = subst (IsProcessor app s) h.runs.runs h.well.processor in
      ap (λ (a : Bool). a || list_any (λ x. holds (held_by_source x) res.0) s.sources) none ∙ no_routine_holds s has.out res.0

  same_held : (s : State) → Stands app s r b → (u : ℕ) → held (task_state (after s) u) ≡ held (task_state s u)
  same_held s h u = moved_held app s h.well (place_at next 0) u

  -- the task takes or gives back a resource behind its move
  restacked_on : (k : Kind) → IsCall app k → (the_block app b.0).kind ≡ k → (s : State) (choice : Bool) (conditions : List Condition) (u : Update) (g : List ResNo) (a : Ask) (asks : Asked) → Stands app s r b → KeepsOrLeaves a s (with_held (after s) t.0 g) →
      called app (after s) (Task t) k ≡ accepted (with_held (after s) t.0 g) a → asked_for app r k a ≡ asks →
      ((v : PartValue) → updated u (updated (update.Block next) v) ≡ updated u v) → updated u (with_stack_at (after s) t.0 next (held (task_state (after s) t.0))) ≡ with_stack_at (after s) t.0 next g →
      PassesAll app conditions (abstract_of app s) → HasEffect app (goes_on_as t next conditions u asks) s choice
  restacked_on k call is s choice conditions u g a asks h kept row ask_is moved becomes passing =
      call_has app (goes_on_as t next conditions u asks) s choice r b k (accepted (with_held (after s) t.0 g) a) call h is
      (ap (λ (c : Caller). called app (after s) c k) (task_calls app s t b h) ∙ row) passing (record {
        point = held_point app (after s) t next (on s h) g;
        parts = λ c lt. held_parts app (after s) t next (on s h) g u becomes c lt
            ∙ ap (value_after (change t.0 u ∷ []) c) (moved_parts app s next 0 r b h c lt)
            ∙ changed_over t.0 u (update.Block next) c (abstract_of app s c) (λ _. moved (abstract_of app s c));
        asked = ask_is;
        kept = kept;
        line = same_line asks s (with_held (after s) t.0 g) (moved_line s (place_at next 0));
        status = refl;
      })

  -- the call is refused, and the caller goes on
  refused_on : (k : Kind) → IsCall app k → (the_block app b.0).kind ≡ k → (s : State) (choice : Bool) (conditions : List Condition) (e : Status) → Stands app s r b →
      called app (after s) (Task t) k ≡ refused (after s) e → PassesAll app conditions (abstract_of app s) → HasEffect app (goes_on r next conditions asked.No (Some e)) s choice
  refused_on k call is s choice conditions e h row passing =
      call_goes_on app s choice r b k conditions asked.No (Some e) None ask.No call h is (ap (λ (c : Caller). called app (after s) c k) (task_calls app s t b h) ∙ row) (asked_none app r k) passing tt

  -- what the values say of the resource
  holds_is : (s : State) (u : ℕ) → u < length app.tasks → passes (test.Holds res) (abstract_of app s u) ≡ holds (held (task_state s u)) res.0
  holds_is s u known = test_value app s (task_no u) known (test.Holds res) ∙ ap (λ (g : List ResNo). holds g res.0) (held_value (task_state s u).activity)

  none_is : (s : State) (u : ℕ) → u < length app.tasks → passes (test.HoldsNoneOf (mask (only res))) (abstract_of app s u) ≡ not (holds (held (task_state s u)) res.0)
  none_is s u known =
      test_value app s (task_no u) known (test.HoldsNoneOf (mask (only res)))
      ∙ ap (λ (g : List ResNo). not (list_any (λ (q : ResNo). has_bit (only res) q.0) g)) (held_value (task_state s u).activity)
      ∙ ap (λ (a : Bool). not a) (any_only res (held (task_state s u)))

  top_is : (s : State) → passes (test.OnTop res) (abstract_of app s t.0) ≡ is_on_top res.0 (held (task_state s t.0))
  top_is s = test_value app s t owns.0 (test.OnTop res) ∙ ap (λ (g : List ResNo). is_on_top res.0 g) (held_value (task_state s t.0).activity)

  below_is : (s : State) → passes (test.NotOnTop res) (abstract_of app s t.0) ≡ not (is_on_top res.0 (held (task_state s t.0)))
  below_is s = test_value app s t owns.0 (test.NotOnTop res) ∙ ap (λ (g : List ResNo). not (is_on_top res.0 g)) (held_value (task_state s t.0).activity)

  -- GetResource
  abbrev getting : Kind
  getting = kind.Call (call.Resource call.GetResource res)

  get_access : (s : State) → (is_taken s res.0 || barred) ≡ true → get_resource app s t.0 res ≡ refused s status.Access
  unfolding get_resource
  get_access s e = rw e refl

  get_takes : (s : State) → (is_taken s res.0 || barred) ≡ false → get_resource app s t.0 res ≡ accepted (with_held s t.0 (held (task_state s t.0) ++ res ∷ [])) ask.No
  unfolding get_resource
  get_takes s e = rw e refl

  module _ (is : (the_block app b.0).kind ≡ kind.Call (call.Resource call.GetResource res)) where
    get_barred : barred ≡ true → AreCasesOf app (runner_point r b) (refuses r next status.Access)
    get_barred e = goes_on_cases app r b owns getting (Some status.Access) (λ u ch p y. refl) is (λ s h.
        ap (λ (c : Caller). called app (after s) c getting) (task_calls app s t b h) ∙ get_access (after s) (or_last (is_taken (after s) res.0) barred e))

    -- some task holds it
    abbrev taken_by : ℕ → EffectCase
    taken_by u = goes_on r next (of_task (task_no u) (test.Holds res) ∷ []) asked.No (Some status.Access)

    taken_is : (u : ℕ) → u < length app.tasks → IsEffect app r b (taken_by u)
    taken_is u known s choice h passing =
        let held_there : holds (held (task_state s u)) res.0 ≡ true = sym (holds_is s u known) ∙ task_passes app s (task_no u) known (test.Holds res) passing in
        let held_after : holds (held (task_state (after s) u)) res.0 ≡ true = ap (λ (g : List ResNo). holds g res.0) (same_held s h u) ∙ held_there in
        let known_after : u < length (after s).tasks = let long = (on s h).well.tasks_len in omega (arith, known, long) in
        let some : list_any (λ y. holds (held y) res.0) (after s).tasks ≡ true = list_any_at (λ y. holds (held y) res.0) (after s).tasks u suspended known_after held_after in
        let taken : is_taken (after s) res.0 ≡ true = ap (λ (a : Bool). a || list_any (λ x. holds (held_by_source x) res.0) (after s).sources) some in
        refused_on getting (λ v ch p y. refl) is s choice _ status.Access h (get_access (after s) (ap (λ (a : Bool). a || barred) taken)) passing

    taken_listed : AreListed app r b (taken_cases t next res (length app.tasks))
    taken_listed y m =
        let back = map_among taken_by y (range_with_len 0 (length app.tasks)) m in
        let known : back.0 < length app.tasks = (let low = range_among 0 (length app.tasks) back.0 back.1 in omega (arith, low.1)) in
        subst (IsCase app r b) (sym back.2) (tt, taken_is back.0 known)

    -- none does
    module _ (free : barred ≡ false) where
      abbrev unheld : List Condition
      unheld = nobody_holds res (length app.tasks)

      abbrev unheld_by : ℕ → Condition
      unheld_by u = of_task (task_no u) (test.HoldsNoneOf (mask (only res)))

      abbrev takes_it : EffectCase
      takes_it = takes t next res (length app.tasks)

      free_at : (s : State) → PassesAll app unheld (abstract_of app s) → (u : ℕ) → u < length app.tasks → holds (held (task_state s u)) res.0 ≡ false
      free_at s passing u known =
          let one : IsTrue (passes (test.HoldsNoneOf (mask (only res))) (abstract_of app s u))
          = each_passes app (abstract_of app s) unheld passing (unheld_by u)
          (among_map unheld_by u (range_with_len 0 (length app.tasks)) (among_range 0 (length app.tasks) u (omega arith) (omega (arith, known))))
          (counted app s (task_no u) known) in
          not-true (holds (held (task_state s u)) res.0) (sym (none_is s u known) ∙ one)

      untaken : (s : State) → Stands app s r b → PassesAll app unheld (abstract_of app s) → is_taken (after s) res.0 ≡ false
      untaken s h passing = elim (cases_Bool (list_any (λ y. holds (held y) res.0) (after s).tasks)) [
        | inl taken ↦
            (let at = any_at suspended (λ y. holds (held y) res.0) (after s).tasks taken in
            let known : at.0 < length app.tasks = (let long = (on s h).well.tasks_len in let lt = at.1 in omega (arith, lt, long)) in
            let held_then : holds (held (task_state (after s) at.0)) res.0 ≡ true = at.2 in
            let none : holds (held (task_state (after s) at.0)) res.0 ≡ false = ap (λ (g : List ResNo). holds g res.0) (same_held s h at.0) ∙ free_at s passing at.0 known in
            absurd (cc))
        | inr none ↦ untaken_by (after s) next (on s h) none
      ]

      -- where no task has the resource there is room for it
      room : (m : State) → Well app m → is_taken m res.0 ≡ false → length (held (task_state m t.0)) < MAX_RESOURCES
      room m w none =
          let takable : IsTakable app res = subst (NamesEntries (tables app)) is (operands_of app r b owns) in
          let here_known : t.0 < length m.tasks = let long = w.tasks_len in let lt = owns.0 in omega (arith, lt, long) in
          room_on app (held (task_state m t.0)) res (held_stack app m t.0 w owns.0) takable (not_taken m res.0 none t.0 here_known)

      on_top : (m : State) → Well app m → is_taken m res.0 ≡ false → with_top (held (task_state m t.0)) res ≡ held (task_state m t.0) ++ res ∷ []
      on_top m w none = ap (λ (a : Bool). if a then held (task_state m t.0) ++ res ∷ [] else held (task_state m t.0)) (lt-ltb (length (held (task_state m t.0))) MAX_RESOURCES (room m w none))

      takes_is : IsEffect app r b takes_it
      takes_is s choice h passing =
          let none : is_taken (after s) res.0 ≡ false = untaken s h passing in
          restacked_on getting (λ v ch p y. refl) is s choice unheld (update.Take res next) (held (task_state (after s) t.0) ++ res ∷ []) ask.No asked.No h tt
          (get_takes (after s) (ap (λ (a : Bool). a || barred) none ∙ free)) (asked_none app r getting)
          (restacked_moved (λ g. with_top g res) next) (ap (λ (g : List ResNo). with_stack_at (after s) t.0 next g) (on_top (after s) (on s h).well none)) passing

      free_taken : (s : State) → Stands app s r b → list_any (λ y. holds (held y) res.0) s.tasks ≡ false → IsTaken app r b s (takes_it ∷ [])
      free_taken s h none =
          let none_at : (u : ℕ) → u < length app.tasks → holds (held (task_state s u)) res.0 ≡ false = λ u known. not_taken s res.0 (untaken_by s b h none) u (let long = h.well.tasks_len in omega (arith, known, long)) in
          record {
            case = takes_it;
            among = inl refl;
            passes = passes_each app (abstract_of app s) unheld (λ y m.
                let back = map_among unheld_by y (range_with_len 0 (length app.tasks)) m in
                let known : back.0 < length app.tasks = (let low = range_among 0 (length app.tasks) back.0 back.1 in omega (arith, low.1)) in
                subst (λ (z : Condition). IsTrue (passes z.test (abstract_of app s z.component.0))) (sym back.2)
                (none_is s back.0 known ∙ ap (λ (a : Bool). not a) (none_at back.0 known)));
          }

      taken_taken : (s : State) → Stands app s r b → list_any (λ y. holds (held y) res.0) s.tasks ≡ true → IsTaken app r b s (taken_cases t next res (length app.tasks))
      taken_taken s h taken =
          let at = any_at suspended (λ y. holds (held y) res.0) s.tasks taken in
          let known : at.0 < length app.tasks = (let long = h.well.tasks_len in let lt = at.1 in omega (arith, lt, long)) in
          record {
            case = taken_by at.0;
            among = among_map taken_by at.0 (range_with_len 0 (length app.tasks)) (among_range 0 (length app.tasks) at.0 (omega arith) (omega (arith, known)));
            passes = passes_task app s (task_no at.0) known (test.Holds res) (holds_is s at.0 known ∙ at.2);
          }

      get_free : AreCasesOf app (runner_point r b) (taken_cases t next res (length app.tasks) ++ takes_it ∷ [])
      get_free =
          are_cases app r b owns (taken_cases t next res (length app.tasks) ++ takes_it ∷ [])
          (both_listed app r b (taken_cases t next res (length app.tasks)) (takes_it ∷ []) taken_listed (one_listed app r b takes_it (tt, takes_is)))
          (λ s h. elim (cases_Bool (list_any (λ y. holds (held y) res.0) s.tasks)) [
            | inl taken ↦ taken_first app r b s (taken_cases t next res (length app.tasks)) (takes_it ∷ []) (taken_taken s h taken)
            | inr none ↦ taken_then app r b s (taken_cases t next res (length app.tasks)) (takes_it ∷ []) (free_taken s h none)
          ])

    pub get_task_cases : AreCasesOf app (runner_point r b) (get_cases app r next res)
    get_task_cases = elim (cases_Bool barred) [
      | inl e ↦ (rw e (get_barred e))
      | inr e ↦ (rw e (get_free e))
    ]

  -- ReleaseResource
  abbrev giving : Kind
  giving = kind.Call (call.Resource call.ReleaseResource res)

  release_barred : (s : State) → barred ≡ true → release_resource app s t.0 res ≡ refused s status.Access
  unfolding release_resource
  release_barred s e = rw e refl

  release_top : (s : State) → barred ≡ false → is_on_top res.0 (held (task_state s t.0)) ≡ true → release_resource app s t.0 res ≡ accepted (with_held s t.0 (take (length (held (task_state s t.0)) - 1) (held (task_state s t.0)))) ask.Maybe
  unfolding release_resource
  release_top s e f = rw (e, f) refl

  release_below : (s : State) → barred ≡ false → is_on_top res.0 (held (task_state s t.0)) ≡ false → release_resource app s t.0 res ≡ refused s status.NoFunc
  unfolding release_resource
  release_below s e f = rw (e, f) refl

  module _ (is : (the_block app b.0).kind ≡ kind.Call (call.Resource call.ReleaseResource res)) where
    give_barred : barred ≡ true → AreCasesOf app (runner_point r b) (refuses r next status.Access)
    give_barred e = goes_on_cases app r b owns giving (Some status.Access) (λ u ch p y. refl) is (λ s h.
        ap (λ (c : Caller). called app (after s) c giving) (task_calls app s t b h) ∙ release_barred (after s) e)

    module _ (free : barred ≡ false) where
      same_top : (s : State) → Stands app s r b → is_on_top res.0 (held (task_state (after s) t.0)) ≡ is_on_top res.0 (held (task_state s t.0))
      same_top s h = ap (λ (g : List ResNo). is_on_top res.0 g) (same_held s h t.0)

      given_is : IsEffect app r b (gives_back app t next res)
      given_is s choice h passing =
          let top : is_on_top res.0 (held (task_state s t.0)) ≡ true = sym (top_is s) ∙ task_passes app s t owns.0 (test.OnTop res) passing in
          restacked_on giving (λ v ch p y. refl) is s choice (of_task t (test.OnTop res) ∷ []) (update.Give next) (without_top (held (task_state (after s) t.0))) ask.Maybe (asked_after app r) h (moved_has app s h.well (place_at next 0))
          (release_top (after s) free (same_top s h ∙ top)) (asked_maybe app r giving refl) (restacked_moved without_top next) refl passing

      kept_is : IsEffect app r b (isnt_on_top t next res)
      kept_is s choice h passing =
          let below : is_on_top res.0 (held (task_state s t.0)) ≡ false = not-true (is_on_top res.0 (held (task_state s t.0))) (sym (below_is s) ∙ task_passes app s t owns.0 (test.NotOnTop res) passing) in
          refused_on giving (λ v ch p y. refl) is s choice (of_task t (test.NotOnTop res) ∷ []) status.NoFunc h (release_below (after s) free (same_top s h ∙ below)) passing

      give_free : AreCasesOf app (runner_point r b) (gives_back app t next res ∷ isnt_on_top t next res ∷ [])
      give_free = are_cases app r b owns (gives_back app t next res ∷ isnt_on_top t next res ∷ [])
          (more_listed app r b (gives_back app t next res) (isnt_on_top t next res ∷ []) (tt, given_is) (one_listed app r b (isnt_on_top t next res) (tt, kept_is)))
          (λ s h. elim (cases_Bool (is_on_top res.0 (held (task_state s t.0)))) [
            | inl top ↦ record { case = gives_back app t next res; among = inl refl; passes = passes_task app s t owns.0 (test.OnTop res) (top_is s ∙ top) }
            | inr below ↦ record { case = isnt_on_top t next res; among = inr (inl refl); passes = passes_task app s t owns.0 (test.NotOnTop res) (below_is s ∙ ap not below) }
          ])

    pub release_task_cases : AreCasesOf app (runner_point r b) (release_cases app r next res)
    release_task_cases = elim (cases_Bool barred) [
      | inl e ↦ (rw e (give_barred e))
      | inr e ↦ (rw e (give_free e))
    ]

-- of a task and of a routine
module _ (app : App) (b : BlockNo) (res : ResNo) where
  pub all_gets : (r : Runner) → OwnsBlock app r b → (the_block app b.0).kind ≡ kind.Call (call.Resource call.GetResource res) → AreCasesOf app (runner_point r b) (get_cases app r (the_block app b.0).next res)
  all_gets (runner.Task t) owns is = get_task_cases app t b owns res is
  all_gets (runner.Routine k z over) owns is = get_routine_cases app k z over b owns res is

  pub all_releases : (r : Runner) → OwnsBlock app r b → (the_block app b.0).kind ≡ kind.Call (call.Resource call.ReleaseResource res) → AreCasesOf app (runner_point r b) (release_cases app r (the_block app b.0).next res)
  all_releases (runner.Task t) owns is = release_task_cases app t b owns res is
  all_releases (runner.Routine k z over) owns is = release_routine_cases app k z over b owns res is
