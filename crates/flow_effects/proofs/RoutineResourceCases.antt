-- The cases of GetResource and ReleaseResource of a routine are their effects.
use Rattle.std.proofs.Common.{◌≡◌, ℕ, ◌-◌, ◌^◌, ◌<◌, Bool, true, false, not, ◌||◌, List, [], ◌∷◌, ◌++◌, length, map, take, refl, sym, ap, subst, ◌∙◌, inl, inr, arith, Some, None, IsTrue, get_or-set_same, get_or-set_other}
use Rattle.std.specs.{Prelude.{if◌then◌else◌}, List.{list_any, range_with_len}, declared.option.Option.{Option}}
use Rattle.std.proofs.lemmas.{Bool.{cases_Bool, cases_eq, lt-ltb}, List.Folds.{list_any_at}}
use Rattle.osek_values.specs.{Numbers.{mask, task_no}, Bits.{has_bit}, declared.limits.TheConstants.{MAX_RESOURCES}}
use Rattle.osek_values.specs.declared.numbers.{TaskNo.{TaskNo}, BlockNo.{BlockNo}, ResNo.{ResNo}, SourceNo.{SourceNo}}
use Rattle.osek_values.specs.declared.status.Status.{Status}
use Rattle.osek_values.specs.declared.status.Status.TheVariants as status
use Rattle.osek_values.specs.declared.status.Ask.TheVariants as ask
use Rattle.osek_standard.specs.declared.{app.App.{App}, block.Kind.{Kind}, task_state.Place.{Place}}
use Rattle.osek_standard.specs.declared.block.Kind.TheVariants as kind
use Rattle.flow_effects.specs.CallNames as call
use Rattle.osek_standard.specs.declared.state.{State.{State}, Source.{Source}, Processor.{Processor}, Caller.{Caller, TheVariants.{Routine}}}
use Rattle.osek_standard.specs.declared.state.Source.TheVariants as source
use Rattle.osek_standard.specs.declared.point.Point.TheVariants as point
use Rattle.osek_standard.specs.{Apps.{source_count, tables, the_block}, Validity.{NamesEntries}, TaskStates.{held, holds, suspended}, Points.{point_at}}
use Rattle.osek_standard.specs.States.{held_by_source, is_taken, place_by, place_of_source, source_state, task_state, with_source}
use Rattle.osek_standard.specs.Services.{accepted, refused, is_on_top, get_resource_isr, release_resource_isr, source_with_stack, stack_of_source, with_source_stack}
use Rattle.osek_standard.specs.{Effects.{called, moved_to, place_at, source_at}, Well.{Well}}
use Rattle.osek_standard.proofs.{Members.{Among, among_cases, among_left, among_map, among_range, among_right, map_among, range_among}, SourceKeeps.{sources_right}}
use Rattle.osek_standard.proofs.StackLaws.{IsTakable, not_taken, not_taken_by_routine, room_at_routine}
use Rattle.flow_services.proofs.ServiceListing.{operands_of}
use Rattle.abstract_state.specs.declared.value.{ComponentNo.{ComponentNo}, PartValue.{PartValue, TheVariants.{OfSource}}}
use Rattle.abstract_state.specs.declared.value.SourceVal.TheVariants as source_val
use Rattle.abstract_state.specs.Components.{abstract_of, component_count, routine_val, source_value}
use Rattle.flow_model.specs.declared.{change.Update.{Update}, runner.Runner.{Runner}, test.{Test.{Test}, Condition.{Condition}}}
use Rattle.flow_model.specs.declared.case.Asked.TheVariants as asked
use Rattle.flow_model.specs.declared.change.Update.TheVariants as update
use Rattle.flow_model.specs.declared.test.Test.TheVariants as test
use Rattle.flow_model.specs.declared.runner.Runner.TheVariants as runner
use Rattle.flow_model.specs.{Runners.{Stands, OwnsBlock, change, runner_point}, Values.{held_by_routine, restacked_routine, with_top, without_top}, Tests.{passes, updated, PassesAll, value_after}}
use Rattle.flow_model.specs.{Effects.{HasEffect, AreCasesOf}, Cases.{condition, goes_on}}
use Rattle.flow_model.proofs.{ChangeLaws.{each_passes, one_passes, passes_each, passes_one}, SourceTests.{source_counted, test_of_source}, Standing.{next_owned, routine_calls}}
use Rattle.flow_model.proofs.{Moves.{moved_held, moved_parts, routine_moved, source_parts, went_on}, Calls.{IsCall, asked_none, call_goes_on, call_has, moved_line, same_line}}
use Rattle.flow_effects.specs.{Conditions.{of_source, of_task}, Moves.{accepts, refuses}, RoutineResources.{is_below, of_all, is_held_by, gets, gives, gives_none, routine_gets, routine_gives}}
use Rattle.flow_effects.proofs.Listed.{IsEffect, IsCase, AreListed, IsTaken, are_cases, both_listed, more_listed, one_listed, taken_first, taken_then}
use Rattle.flow_effects.proofs.{TaskValues.{counted, held_value, test_value}, TaskEndCases.{changed_over}, MoveCases.{goes_on_cases}}
use Rattle.flow_effects.proofs.ResourceTests.{any_at, any_only, not-true, or_last, restacked_moved}

held_of_value : (x : Source) → held_by_routine (source_value x) ≡ held_by_source x
held_of_value source.Out = refl
held_of_value (source.In x) = refl

held_at_place : (x : Source) (to : Place) → held_by_source (source_at x to) ≡ held_by_source x
held_at_place source.Out to = refl
held_at_place (source.In x) to = refl

block_with_stack : (x : Source) (g : List ResNo) → (place_of_source (source_with_stack x g)).block ≡ (place_of_source x).block
block_with_stack source.Out g = refl
block_with_stack (source.In x) g = refl

-- a routine with another stack, by an update of its value
restacked_value : (f : List ResNo → List ResNo) (n : BlockNo) (x : Source) → (place_of_source x).block ≡ n → OfSource (restacked_routine f n (source_value x)) ≡ OfSource (source_value (source_with_stack x (f (held_by_source x))))
restacked_value f n source.Out e = refl
restacked_value f n (source.In x) e = ap (λ (b : BlockNo). OfSource (source_val.In (routine_val b (f x.held)))) (sym e)

module _ (app : App) (k : SourceNo) (z : ComponentNo) (over : Option TaskNo) (b : BlockNo) (owns : OwnsBlock app (runner.Routine k z over) b) (res : ResNo) where
  abbrev r : Runner
  r = runner.Routine k z over

  abbrev next : BlockNo
  next = (the_block app b.0).next

  abbrev after : State → State
  after s = moved_to s next

  abbrev below : Bool
  below = is_below app k res

  on : (s : State) → Stands app s r b → Stands app (after s) r next
  on s h = went_on app s r b next h (next_owned app s r b h)

  same_held : (s : State) → Stands app s r b → (u : ℕ) → held (task_state (after s) u) ≡ held (task_state s u)
  same_held s h u = moved_held app s h.well (place_at next 0) u

  -- what a routine holds is as before the move
  same_stack : (s : State) → Stands app s r b → (l : ℕ) → held_by_source (source_state (after s) l) ≡ held_by_source (source_state s l)
  same_stack s h l =
      let moved : Source = source_at (source_state s k.0) (place_at next 0) in
      let there : k.0 < length s.sources = omega (arith, owns.known, h.well.sources_len) in
      ap (λ (u : State). held_by_source (source_state u l)) (routine_moved app s next 0 k over h.runs.runs)
      ∙ elim (cases_eq l k.0) [
        | inl same ↦
            (ap (λ (n : ℕ). held_by_source (source_state (with_source s k.0 moved) n)) same
            ∙ ap held_by_source (get_or-set_same s.sources k.0 moved source.Out there)
            ∙ held_at_place (source_state s k.0) (place_at next 0)
            ∙ ap (λ (n : ℕ). held_by_source (source_state s n)) (sym same))
        | inr other ↦ ap held_by_source (get_or-set_other s.sources k.0 l moved source.Out other)
      ]

  -- the routine takes or gives back a resource behind its move
  restacked_on : (i : Kind) → IsCall app i → (the_block app b.0).kind ≡ i → (s : State) (choice : Bool) (conditions : List Condition) (u : Update) (g : List ResNo) → Stands app s r b →
      called app (after s) (Routine k) i ≡ accepted (with_source_stack app (after s) k.0 g) ask.No → ((v : PartValue) → updated u (updated (update.Block next) v) ≡ updated u v) →
      updated u (OfSource (source_value (source_state (after s) k.0))) ≡ OfSource (source_value (source_with_stack (source_state (after s) k.0) g)) →
      PassesAll app conditions (abstract_of app s) → HasEffect app (accepts r next conditions u asked.No) s choice
  restacked_on i call is s choice conditions u g h row moved becomes passing =
      let m = after s in
      let to = on s h in
      let x : Source = source_with_stack (source_state m k.0) g in
      let there : k.0 < length m.sources = omega (arith, owns.known, to.well.sources_len) in
      let at : (place_of_source (source_state m k.0)).block ≡ next = sym (ap (λ (p : Processor). (place_by m p).block) to.runs.runs) ∙ to.block in
      call_has app (accepts r next conditions u asked.No) s choice r b i (accepted (with_source_stack app m k.0 g) ask.No) call h is
      (ap (λ (c : Caller). called app m c i) (routine_calls app s k z over b h) ∙ row) passing (record {
        point =
            ap (λ (p : Processor). point_at (place_by (with_source m k.0 x) p).block p) to.runs.runs
            ∙ ap (λ (y : Source). point.Routine (place_of_source y).block over) (get_or-set_same m.sources k.0 x source.Out there)
            ∙ ap (λ (c : BlockNo). point.Routine c over) (block_with_stack (source_state m k.0) g ∙ at);
        parts = λ c lt. source_parts app m k.0 x there owns.known u z.0 owns.number becomes c lt
            ∙ ap (value_after (change z.0 u ∷ []) c) (moved_parts app s next 0 r b h c lt)
            ∙ changed_over z.0 u (update.Block next) c (abstract_of app s c) (λ _. moved (abstract_of app s c));
        asked = asked_none app r i;
        kept = tt;
        line = same_line asked.No s (with_source_stack app m k.0 g) (moved_line s (place_at next 0));
        status = refl;
      })

  -- the call is refused, and the caller goes on
  refused_on : (i : Kind) → IsCall app i → (the_block app b.0).kind ≡ i → (s : State) (choice : Bool) (conditions : List Condition) (e : Status) → Stands app s r b →
      called app (after s) (Routine k) i ≡ refused (after s) e → PassesAll app conditions (abstract_of app s) → HasEffect app (goes_on r next conditions asked.No (Some e)) s choice
  refused_on i call is s choice conditions e h row passing =
      call_goes_on app s choice r b i conditions asked.No (Some e) None ask.No call h is (ap (λ (c : Caller). called app (after s) c i) (routine_calls app s k z over b h) ∙ row) (asked_none app r i) passing tt

  -- ---- who holds the resource

  -- the condition is of a task, or of a source
  abbrev of_tasks : Test → List Condition
  of_tasks x = map (λ u. of_task (task_no u) x) (range_with_len 0 (length app.tasks))

  abbrev of_sources : Test → List Condition
  of_sources x = map (λ l. of_source app l x) (range_with_len 0 (source_count app))

  task_holds : (s : State) (u : ℕ) → u < length app.tasks → passes (test.Holds res) (abstract_of app s u) ≡ holds (held (task_state s u)) res.0
  task_holds s u known = test_value app s (task_no u) known (test.Holds res) ∙ ap (λ (g : List ResNo). holds g res.0) (held_value (task_state s u).activity)

  abbrev none_of_it : Test
  none_of_it = test.HoldsNoneOf (mask (2 ^ res.0))

  task_lacks : (s : State) (u : ℕ) → u < length app.tasks → passes none_of_it (abstract_of app s u) ≡ not (holds (held (task_state s u)) res.0)
  task_lacks s u known =
      test_value app s (task_no u) known none_of_it
      ∙ ap (λ (g : List ResNo). not (list_any (λ (q : ResNo). has_bit (2 ^ res.0) q.0) g)) (held_value (task_state s u).activity)
      ∙ ap (λ (a : Bool). not a) (any_only res (held (task_state s u)))

  source_holds : (s : State) (l : ℕ) → l < source_count app → passes (test.Holds res) (abstract_of app s (of_source app l none_of_it).component.0) ≡ holds (held_by_source (source_state s l)) res.0
  source_holds s l known = test_of_source app s l known (test.Holds res) ∙ ap (λ (g : List ResNo). holds g res.0) (held_of_value (source_state s l))

  source_lacks : (s : State) (l : ℕ) → l < source_count app → passes none_of_it (abstract_of app s (of_source app l none_of_it).component.0) ≡ not (holds (held_by_source (source_state s l)) res.0)
  source_lacks s l known =
      test_of_source app s l known none_of_it
      ∙ ap (λ (g : List ResNo). not (list_any (λ (q : ResNo). has_bit (2 ^ res.0) q.0) g)) (held_of_value (source_state s l))
      ∙ ap (λ (a : Bool). not a) (any_only res (held_by_source (source_state s l)))

  -- one who holds it has taken it
  abbrev Takes : State → Type 0
  Takes s = is_taken s res.0 ≡ true

  by_task : (s : State) (u : ℕ) → u < length s.tasks → holds (held (task_state s u)) res.0 ≡ true → Takes s
  by_task s u known e =
      ap (λ (a : Bool). a || list_any (λ x. holds (held_by_source x) res.0) s.sources) (list_any_at (λ y. holds (held y) res.0) s.tasks u suspended known e)

  by_source : (s : State) (l : ℕ) → l < length s.sources → holds (held_by_source (source_state s l)) res.0 ≡ true → Takes s
  by_source s l known e = or_last (list_any (λ y. holds (held y) res.0) s.tasks) (list_any (λ x. holds (held_by_source x) res.0) s.sources)
      (list_any_at (λ x. holds (held_by_source x) res.0) s.sources l source.Out known e)

  -- ---- GetResource

  abbrev getting : Kind
  getting = kind.Call (call.Resource call.GetResource res)

  get_access : (s : State) → (is_taken s res.0 || below) ≡ true → get_resource_isr app s k.0 res ≡ refused s status.Access
  unfolding get_resource_isr
  get_access s e = rw e refl

  get_takes : (s : State) → (is_taken s res.0 || below) ≡ false → get_resource_isr app s k.0 res ≡ accepted (with_source_stack app s k.0 (stack_of_source app s k.0 ++ res ∷ [])) ask.No
  unfolding get_resource_isr
  get_takes s e = rw e refl

  module _ (is : (the_block app b.0).kind ≡ kind.Call (call.Resource call.GetResource res)) where
    get_below : below ≡ true → AreCasesOf app (runner_point r b) (refuses r next status.Access)
    get_below e = goes_on_cases app r b owns getting (Some status.Access) (λ u ch p y. refl) is (λ s h.
        ap (λ (c : Caller). called app (after s) c getting) (routine_calls app s k z over b h) ∙ get_access (after s) (or_last (is_taken (after s) res.0) below e))

    -- a condition that holds of who holds it makes it taken
    refused_by : (x : Condition) → ((s : State) → Stands app s r b → PassesAll app (x ∷ []) (abstract_of app s) → Takes (after s)) → IsEffect app r b (is_held_by r next x)
    refused_by x taken s choice h passing =
        refused_on getting (λ v ch p y. refl) is s choice (x ∷ []) status.Access h (get_access (after s) (ap (λ (a : Bool). a || below) (taken s h passing))) passing

    task_case : (u : ℕ) → u < length app.tasks → IsCase app r b (is_held_by r next (of_task (task_no u) (test.Holds res)))
    task_case u known = (
      tt,
      refused_by (of_task (task_no u) (test.Holds res)) (λ s h passing.
          let e : holds (held (task_state s u)) res.0 ≡ true = sym (task_holds s u known) ∙ one_passes app (abstract_of app s) (of_task (task_no u) (test.Holds res)) passing (counted app s (task_no u) known) in
          by_task (after s) u (let long = (on s h).well.tasks_len in omega (arith, known, long)) (ap (λ (g : List ResNo). holds g res.0) (same_held s h u) ∙ e)),
    )

    source_case : (l : ℕ) → l < source_count app → IsCase app r b (is_held_by r next (of_source app l (test.Holds res)))
    source_case l known = (
      tt,
      refused_by (of_source app l (test.Holds res)) (λ s h passing.
          let e : holds (held_by_source (source_state s l)) res.0 ≡ true = sym (source_holds s l known) ∙ one_passes app (abstract_of app s) (of_source app l (test.Holds res)) passing (source_counted app s l known) in
          by_source (after s) l (let long = (on s h).well.sources_len in omega (arith, known, long)) (ap (λ (g : List ResNo). holds g res.0) (same_stack s h l) ∙ e)),
    )

    abbrev holders : List Condition
    holders = of_all app (test.Holds res)

    held_listed : AreListed app r b (map (is_held_by r next) holders)
    held_listed y m =
        let back = map_among (is_held_by r next) y holders m in
        subst (IsCase app r b) (sym back.2) (elim (among_cases back.0 (of_tasks (test.Holds res)) (of_sources (test.Holds res)) back.1) [
          | inl at ↦
              (let of = map_among (λ u. of_task (task_no u) (test.Holds res)) back.0 (range_with_len 0 (length app.tasks)) at in
              let low = range_among 0 (length app.tasks) of.0 of.1 in
              subst (λ (x : Condition). IsCase app r b (is_held_by r next x)) (sym of.2) (task_case of.0 (omega (arith, low.1))))
          | inr at ↦
              (let of = map_among (λ l. of_source app l (test.Holds res)) back.0 (range_with_len 0 (source_count app)) at in
              let low = range_among 0 (source_count app) of.0 of.1 in
              subst (λ (x : Condition). IsCase app r b (is_held_by r next x)) (sym of.2) (source_case of.0 (omega (arith, low.1))))
        ])

    -- nobody holds it
    module _ (free : below ≡ false) where
      abbrev lacking : List Condition
      lacking = of_all app none_of_it

      lacks : (s : State) → PassesAll app lacking (abstract_of app s) → (x : Condition) → Among x lacking → x.component.0 < component_count app → IsTrue (passes x.test (abstract_of app s x.component.0))
      lacks s passing x m lt = each_passes app (abstract_of app s) lacking passing x m lt

      untaken : (s : State) → Stands app s r b → PassesAll app lacking (abstract_of app s) → is_taken (after s) res.0 ≡ false
      untaken s h passing =
          let m = after s in
          let tasks_none : list_any (λ y. holds (held y) res.0) m.tasks ≡ false = elim (cases_Bool (list_any (λ y. holds (held y) res.0) m.tasks)) [
            | inl some ↦
                (let at = any_at suspended (λ y. holds (held y) res.0) m.tasks some in
                let known : at.0 < length app.tasks = (let long = (on s h).well.tasks_len in let lt = at.1 in omega (arith, lt, long)) in
                let one : IsTrue (passes none_of_it (abstract_of app s at.0)) = lacks s passing (of_task (task_no at.0) none_of_it)
                (among_left (of_task (task_no at.0) none_of_it) (of_tasks none_of_it) (of_sources none_of_it)
                (among_map (λ u. of_task (task_no u) none_of_it) at.0 (range_with_len 0 (length app.tasks)) (among_range 0 (length app.tasks) at.0 (omega arith) (omega (arith, known)))))
                (counted app s (task_no at.0) known) in
                let none : holds (held (task_state m at.0)) res.0 ≡ false = ap (λ (g : List ResNo). holds g res.0) (same_held s h at.0) ∙ not-true (holds (held (task_state s at.0)) res.0) (sym (task_lacks s at.0 known) ∙ one) in
                let there : holds (held (task_state m at.0)) res.0 ≡ true = at.2 in
                absurd (cc))
            | inr none ↦ none
          ] in
          let sources_none : list_any (λ x. holds (held_by_source x) res.0) m.sources ≡ false = elim (cases_Bool (list_any (λ x. holds (held_by_source x) res.0) m.sources)) [
            | inl some ↦
                (let at = any_at source.Out (λ x. holds (held_by_source x) res.0) m.sources some in
                let known : at.0 < source_count app = (let long = (on s h).well.sources_len in let lt = at.1 in omega (arith, lt, long)) in
                let one : IsTrue (passes none_of_it (abstract_of app s (of_source app at.0 none_of_it).component.0)) = lacks s passing (of_source app at.0 none_of_it)
                (among_right (of_source app at.0 none_of_it) (of_tasks none_of_it) (of_sources none_of_it)
                (among_map (λ l. of_source app l none_of_it) at.0 (range_with_len 0 (source_count app)) (among_range 0 (source_count app) at.0 (omega arith) (omega (arith, known)))))
                (source_counted app s at.0 known) in
                let none : holds (held_by_source (source_state m at.0)) res.0 ≡ false = ap (λ (g : List ResNo). holds g res.0) (same_stack s h at.0) ∙ not-true (holds (held_by_source (source_state s at.0)) res.0) (sym (source_lacks s at.0 known) ∙ one) in
                let there : holds (held_by_source (source_state m at.0)) res.0 ≡ true = at.2 in
                absurd (cc))
            | inr none ↦ none
          ] in
          ap (λ (a : Bool). a || list_any (λ x. holds (held_by_source x) res.0) m.sources) tasks_none ∙ sources_none

      abbrev stack : State → List ResNo
      stack m = held_by_source (source_state m k.0)

      on_top : (m : State) → Well app m → is_taken m res.0 ≡ false → with_top (stack m) res ≡ stack m ++ res ∷ []
      on_top m w none =
          let takable : IsTakable app res = subst (NamesEntries (tables app)) is (operands_of app r b owns) in
          let room = room_at_routine app m w k.0 res owns.known takable none (sources_right app m w k.0) in
          ap (λ (a : Bool). if a then stack m ++ res ∷ [] else stack m) (lt-ltb (length (stack m)) MAX_RESOURCES room)

      gets_is : IsEffect app r b (gets app r next res)
      gets_is s choice h passing =
          let m = after s in
          let to = on s h in
          let none : is_taken m res.0 ≡ false = untaken s h passing in
          let at : (place_of_source (source_state m k.0)).block ≡ next = sym (ap (λ (p : Processor). (place_by m p).block) to.runs.runs) ∙ to.block in
          restacked_on getting (λ v ch p y. refl) is s choice lacking (update.Take res next) (stack m ++ res ∷ []) h
          (get_takes m (ap (λ (a : Bool). a || below) none ∙ free)) (restacked_moved (λ g. with_top g res) next)
          (restacked_value (λ g. with_top g res) next (source_state m k.0) at ∙ ap (λ (g : List ResNo). OfSource (source_value (source_with_stack (source_state m k.0) g))) (on_top m to.well none)) passing

      -- in a state in which it is taken some holder's condition passes, and else all of the others
      taken_taken : (s : State) → Stands app s r b → is_taken s res.0 ≡ true → IsTaken app r b s (map (is_held_by r next) holders)
      taken_taken s h taken = elim (cases_Bool (list_any (λ y. holds (held y) res.0) s.tasks)) [
        | inl some ↦
            (let at = any_at suspended (λ y. holds (held y) res.0) s.tasks some in
            let known : at.0 < length app.tasks = (let long = h.well.tasks_len in let lt = at.1 in omega (arith, lt, long)) in
            let x : Condition = of_task (task_no at.0) (test.Holds res) in
            record {
              case = is_held_by r next x;
              among = among_map (is_held_by r next) x holders (among_left x (of_tasks (test.Holds res)) (of_sources (test.Holds res))
                  (among_map (λ u. of_task (task_no u) (test.Holds res)) at.0 (range_with_len 0 (length app.tasks)) (among_range 0 (length app.tasks) at.0 (omega arith) (omega (arith, known)))));
              passes = passes_one app (abstract_of app s) x (task_holds s at.0 known ∙ at.2);
            })
        | inr none ↦
            (let some : list_any (λ x. holds (held_by_source x) res.0) s.sources ≡ true = sym (ap (λ (a : Bool). a || list_any (λ x. holds (held_by_source x) res.0) s.sources) none) ∙ taken in
            let at = any_at source.Out (λ x. holds (held_by_source x) res.0) s.sources some in
            let known : at.0 < source_count app = (let long = h.well.sources_len in let lt = at.1 in omega (arith, lt, long)) in
            let x : Condition = of_source app at.0 (test.Holds res) in
            record {
              case = is_held_by r next x;
              among = among_map (is_held_by r next) x holders (among_right x (of_tasks (test.Holds res)) (of_sources (test.Holds res))
                  (among_map (λ l. of_source app l (test.Holds res)) at.0 (range_with_len 0 (source_count app)) (among_range 0 (source_count app) at.0 (omega arith) (omega (arith, known)))));
              passes = passes_one app (abstract_of app s) x (source_holds s at.0 known ∙ at.2);
            })
      ]

      free_taken : (s : State) → Stands app s r b → is_taken s res.0 ≡ false → IsTaken app r b s (gets app r next res ∷ [])
      free_taken s h none = record {
        case = gets app r next res;
        among = inl refl;
        passes = passes_each app (abstract_of app s) lacking (λ y m. elim (among_cases y (of_tasks none_of_it) (of_sources none_of_it) m) [
          | inl at ↦
              (let of = map_among (λ u. of_task (task_no u) none_of_it) y (range_with_len 0 (length app.tasks)) at in
              let known : of.0 < length app.tasks = (let low = range_among 0 (length app.tasks) of.0 of.1 in omega (arith, low.1)) in
              let lacks_it = not_taken s res.0 none of.0 (let long = h.well.tasks_len in omega (arith, known, long)) in
              subst (λ (x : Condition). IsTrue (passes x.test (abstract_of app s x.component.0))) (sym of.2) (task_lacks s of.0 known ∙ ap (λ (a : Bool). not a) lacks_it))
          | inr at ↦
              (let of = map_among (λ l. of_source app l none_of_it) y (range_with_len 0 (source_count app)) at in
              let known : of.0 < source_count app = (let low = range_among 0 (source_count app) of.0 of.1 in omega (arith, low.1)) in
              let lacks_it = not_taken_by_routine s res.0 none of.0 (let long = h.well.sources_len in omega (arith, known, long)) in
              subst (λ (x : Condition). IsTrue (passes x.test (abstract_of app s x.component.0))) (sym of.2) (source_lacks s of.0 known ∙ ap (λ (a : Bool). not a) lacks_it))
        ]);
      }

      get_free : AreCasesOf app (runner_point r b) (map (is_held_by r next) holders ++ gets app r next res ∷ [])
      get_free =
          are_cases app r b owns (map (is_held_by r next) holders ++ gets app r next res ∷ [])
          (both_listed app r b (map (is_held_by r next) holders) (gets app r next res ∷ []) held_listed (one_listed app r b (gets app r next res) (tt, gets_is)))
          (λ s h. elim (cases_Bool (is_taken s res.0)) [
            | inl taken ↦ taken_first app r b s (map (is_held_by r next) holders) (gets app r next res ∷ []) (taken_taken s h taken)
            | inr none ↦ taken_then app r b s (map (is_held_by r next) holders) (gets app r next res ∷ []) (free_taken s h none)
          ])

    pub get_routine_cases : AreCasesOf app (runner_point r b) (routine_gets app r next res k)
    get_routine_cases = elim (cases_Bool below) [
      | inl e ↦ (rw e (get_below e))
      | inr e ↦ (rw e (get_free e))
    ]

  -- ---- ReleaseResource

  abbrev giving : Kind
  giving = kind.Call (call.Resource call.ReleaseResource res)

  release_below : (s : State) → below ≡ true → release_resource_isr app s k.0 res ≡ refused s status.Access
  unfolding release_resource_isr
  release_below s e = rw e refl

  release_top : (s : State) → below ≡ false → is_on_top res.0 (stack_of_source app s k.0) ≡ true → release_resource_isr app s k.0 res ≡ accepted (with_source_stack app s k.0 (take (length (stack_of_source app s k.0) - 1) (stack_of_source app s k.0))) ask.No
  unfolding release_resource_isr
  release_top s e f = rw (e, f) refl

  release_under : (s : State) → below ≡ false → is_on_top res.0 (stack_of_source app s k.0) ≡ false → release_resource_isr app s k.0 res ≡ refused s status.NoFunc
  unfolding release_resource_isr
  release_under s e f = rw (e, f) refl

  abbrev top : Condition
  top = condition z.0 (test.OnTop res)

  abbrev not_top : Condition
  not_top = condition z.0 (test.NotOnTop res)

  own_test : (s : State) (x : Test) → passes x (abstract_of app s z.0) ≡ passes x (OfSource (source_value (source_state s k.0)))
  own_test s x = ap (λ (n : ℕ). passes x (abstract_of app s n)) owns.number ∙ test_of_source app s k.0 owns.known x

  own_counted : (s : State) → z.0 < component_count app
  own_counted s = subst (λ (n : ℕ). n < component_count app) (sym owns.number) (source_counted app s k.0 owns.known)

  top_is : (s : State) → passes (test.OnTop res) (abstract_of app s z.0) ≡ is_on_top res.0 (held_by_source (source_state s k.0))
  top_is s = own_test s (test.OnTop res) ∙ ap (λ (g : List ResNo). is_on_top res.0 g) (held_of_value (source_state s k.0))

  under_is : (s : State) → passes (test.NotOnTop res) (abstract_of app s z.0) ≡ not (is_on_top res.0 (held_by_source (source_state s k.0)))
  under_is s = own_test s (test.NotOnTop res) ∙ ap (λ (g : List ResNo). not (is_on_top res.0 g)) (held_of_value (source_state s k.0))

  module _ (is : (the_block app b.0).kind ≡ kind.Call (call.Resource call.ReleaseResource res)) where
    give_below : below ≡ true → AreCasesOf app (runner_point r b) (refuses r next status.Access)
    give_below e = goes_on_cases app r b owns giving (Some status.Access) (λ u ch p y. refl) is (λ s h.
        ap (λ (c : Caller). called app (after s) c giving) (routine_calls app s k z over b h) ∙ release_below (after s) e)

    module _ (free : below ≡ false) where
      same_top : (s : State) → Stands app s r b → is_on_top res.0 (held_by_source (source_state (after s) k.0)) ≡ is_on_top res.0 (held_by_source (source_state s k.0))
      same_top s h = ap (λ (g : List ResNo). is_on_top res.0 g) (same_stack s h k.0)

      given_is : IsEffect app r b (gives r next res)
      given_is s choice h passing =
          let m = after s in
          let to = on s h in
          let at : (place_of_source (source_state m k.0)).block ≡ next = sym (ap (λ (p : Processor). (place_by m p).block) to.runs.runs) ∙ to.block in
          let e : is_on_top res.0 (held_by_source (source_state s k.0)) ≡ true = sym (top_is s) ∙ one_passes app (abstract_of app s) top passing (own_counted s) in
          restacked_on giving (λ v ch p y. refl) is s choice (top ∷ []) (update.Give next) (without_top (held_by_source (source_state m k.0))) h
          (release_top m free (same_top s h ∙ e)) (restacked_moved without_top next) (restacked_value without_top next (source_state m k.0) at) passing

      kept_is : IsEffect app r b (gives_none r next res)
      kept_is s choice h passing =
          let e : is_on_top res.0 (held_by_source (source_state s k.0)) ≡ false = not-true (is_on_top res.0 (held_by_source (source_state s k.0))) (sym (under_is s) ∙ one_passes app (abstract_of app s) not_top passing (own_counted s)) in
          refused_on giving (λ v ch p y. refl) is s choice (not_top ∷ []) status.NoFunc h (release_under (after s) free (same_top s h ∙ e)) passing

      give_free : AreCasesOf app (runner_point r b) (gives r next res ∷ gives_none r next res ∷ [])
      give_free = are_cases app r b owns (gives r next res ∷ gives_none r next res ∷ [])
          (more_listed app r b (gives r next res) (gives_none r next res ∷ []) (tt, given_is) (one_listed app r b (gives_none r next res) (tt, kept_is)))
          (λ s h. elim (cases_Bool (is_on_top res.0 (held_by_source (source_state s k.0)))) [
            | inl e ↦ record { case = gives r next res; among = inl refl; passes = passes_one app (abstract_of app s) top (top_is s ∙ e) }
            | inr e ↦ record { case = gives_none r next res; among = inr (inl refl); passes = passes_one app (abstract_of app s) not_top (under_is s ∙ ap not e) }
          ])

    pub release_routine_cases : AreCasesOf app (runner_point r b) (routine_gives app r next res k)
    release_routine_cases = elim (cases_Bool below) [
      | inl e ↦ (rw e (give_below e))
      | inr e ↦ (rw e (give_free e))
    ]
