-- What the rows at a block say of its resource, and that it is reached.
use Rattle.std.proofs.Common.{◌≡◌, ◌⊎◌, ℕ, ◌<◌, Bool, true, false, ◌&&◌, not, List, length, IsTrue, refl, sym, ap, subst, ◌∙◌, inl, inr, arith}
use Rattle.std.specs.{Bool.{Decides}, List.{list_any}}
use Rattle.std.proofs.lemmas.{Bool.{or_cases, or_left, or_right}, List.{get_or_default}, List.Folds.{Any-from_list_any, list_any_at}}
use Rattle.osek_values.specs.{Numbers.{block_no, source_no}, declared.numbers.{BlockNo.{BlockNo}, ResNo.{ResNo}}}
use Rattle.osek_standard.specs.declared.{app.App.{App}, block.Kind.{Kind}, state.{State.{State}, Source.{Source}}, task_state.{TaskState.{TaskState}, Activity.{Activity}}}
use Rattle.osek_standard.specs.declared.state.Source.TheVariants as source
use Rattle.osek_standard.specs.declared.task_state.Activity.TheVariants as activity
use Rattle.osek_standard.specs.declared.block.Kind.TheVariants as kind
use Rattle.image_model.specs.CallNames as call
use Rattle.osek_standard.specs.{Apps.{source_count}, TaskStates.{held, held_in, holds, suspended}, States.{task_state, source_state, held_by_source, is_taken}, Points.{point_of, StandsAt}}
use Rattle.abstract_state.specs.declared.value.PartValue.{PartValue}
use Rattle.abstract_state.specs.declared.value.Component.TheVariants as component
use Rattle.abstract_state.specs.{Components.{abstract_of, component_number, part_of, source_value, value_in}, Tables.{Sets, In}}
use Rattle.abstract_state.proofs.ComponentLaws.{task_at_its_number}
use Rattle.flow_model.specs.{Tests.{passes}, Values.{held_of, held_by_routine}}
use Rattle.flow_model.specs.declared.test.Test.TheVariants as test
use Rattle.flow_model.proofs.SourceTests.{test_of_source}
use Rattle.flow_report.specs.{declared.finding.Finding.{Finding}, Findings.{Takes, IsReachedBlock, Holds}, FindingOrder.{rank}, Reached.{IsTakenAt}}
use Rattle.flow_report.specs.declared.finding.Finding.TheVariants as finding

-- ---- a resource on a stack

held_of_value : (x : Activity) → held_of (value_in x) ≡ held_in x
held_of_value activity.Suspended = refl
held_of_value (activity.Live y) = refl
held_of_value (activity.Waiting b) = refl

held_by_value : (x : Source) → held_by_routine (source_value x) ≡ held_by_source x
held_by_value source.Out = refl
held_by_value (source.In y) = refl

module _ (app : App) (table : Sets) (b : BlockNo) (r : ResNo) where
  abbrev task_holds : TaskState → Bool
  task_holds x = holds (held x) r.0

  abbrev source_holds : Source → Bool
  source_holds x = holds (held_by_source x) r.0

  abbrev pub source_number : ℕ → ℕ
  source_number k = component_number app (component.Source (source_no k))

  -- the test of a task's value says what its stack has
  holds_here : (s : State) (t : ℕ) → t < length app.tasks → passes (test.Holds r) (abstract_of app s t) ≡ task_holds (task_state s t)
  holds_here s t lt =
      ap (λ (v : PartValue). passes (test.Holds r) v) (ap (part_of s) (task_at_its_number app t lt))
      ∙ ap (λ (h : List ResNo). holds h r.0) (held_of_value (task_state s t).activity)

  -- and that of a source's what its routine's has
  source_here : (s : State) (k : ℕ) → k < source_count app → passes (test.Holds r) (abstract_of app s (source_number k)) ≡ source_holds (source_state s k)
  source_here s k lt = test_of_source app s k lt (test.Holds r) ∙ ap (λ (h : List ResNo). holds h r.0) (held_by_value (source_state s k))

  module _ (s : State) (inside : In app table s) (stands : StandsAt (point_of s) b) where
    -- a task of a state holds it
    pub taken_by : (t : ℕ) → t < length app.tasks → IsTrue (passes (test.Holds r) (abstract_of app s t)) → IsTakenAt app table b r
    taken_by t lt h = record {
      state = s;
      inside = inside;
      stands = stands;
      taken = or_left (list_any task_holds s.tasks) (list_any source_holds s.sources)
          (list_any_at task_holds s.tasks t suspended (omega (arith, lt, inside.well.tasks_len)) (sym (holds_here s t lt) ∙ h));
    }

    -- or a routine
    pub taken_by_routine : (k : ℕ) → k < source_count app → IsTrue (passes (test.Holds r) (abstract_of app s (source_number k))) → IsTakenAt app table b r
    taken_by_routine k lt h = record {
      state = s;
      inside = inside;
      stands = stands;
      taken = or_right (list_any task_holds s.tasks) (list_any source_holds s.sources)
          (list_any_at source_holds s.sources k source.Out (omega (arith, lt, inside.well.sources_len)) (sym (source_here s k lt) ∙ h));
    }

  -- who holds it
  pub record TaskHolder (s : State) : Type 0 where
    pub task : ℕ
    pub known : task < length app.tasks
    pub passes : IsTrue (passes (test.Holds r) (abstract_of app s task))

  pub record RoutineHolder (s : State) : Type 0 where
    pub source : ℕ
    pub known : source < source_count app
    pub passes : IsTrue (passes (test.Holds r) (abstract_of app s (source_number source)))

  pub holder_of : (h : IsTakenAt app table b r) → TaskHolder h.state ⊎ RoutineHolder h.state
  holder_of h =
      let s = h.state in
      elim (or_cases (list_any task_holds s.tasks) (list_any source_holds s.sources) h.taken) [
        | inl some ↦
            (let x = Any-from_list_any task_holds s.tasks some in
            let lt : x.0 < length app.tasks = omega (arith, x.2, h.inside.well.tasks_len) in
            let at : task_state s x.0 ≡ x.1 = get_or_default s.tasks x.0 suspended x.1 x.2 ∙ x.3 in
            inl (record { task = x.0; known = lt; passes = holds_here s x.0 lt ∙ ap task_holds at ∙ x.4 }))
        | inr some ↦
            (let x = Any-from_list_any source_holds s.sources some in
            let lt : x.0 < source_count app = omega (arith, x.2, h.inside.well.sources_len) in
            let at : source_state s x.0 ≡ x.1 = get_or_default s.sources x.0 source.Out x.1 x.2 ∙ x.3 in
            inr (record { source = x.0; known = lt; passes = source_here s x.0 lt ∙ ap source_holds at ∙ x.4 }))
      ]

-- ---- findings of a block

module _ (app : App) (table : Sets) (b : BlockNo) where
  pub unreached_answer : Decides false (IsReachedBlock app table b) → Decides false (Holds app table (finding.Free b))
  unreached_answer there = (λ e. absurd (cc), λ h. (let wrong : false ≡ true = there.1 h.1.0 in absurd (cc)))

  free_by : (reached taken : Bool) (r : ResNo) → b.0 < length app.blocks → Takes app b r → Decides reached (IsReachedBlock app table b) → Decides taken (IsTakenAt app table b r) → Decides (reached && not taken) (Holds app table (finding.Free b))
  free_by true true r known takes there on = (
    λ e. absurd (cc),
    λ h.
        (let x = on.0 refl in absurd (h.1.1 x.state x.inside (x.stands, r, takes, x.taken))),
  )
  free_by true false r known takes there on = (
    λ e. (
      (known, r, takes),
      (
        there.0 refl,
        λ s inside d.
            (let same : d.1 ≡ r = resource_once d.1 d.2 in
            let wrong : false ≡ true = on.1 (record { state = s; inside = inside; stands = d.0; taken = subst (λ (q : ResNo). IsTrue (is_taken s q.0)) same d.3 }) in
            absurd (cc)),
      ),
    ),
    λ h. refl,
  )
    where
      resource_of : Kind → ResNo
      resource_of (kind.Call (call.Resource x q)) = q
      resource_of _ = r

      resource_once : (q : ResNo) → Takes app b q → q ≡ r
      resource_once q t = ap resource_of (sym t ∙ takes)
  free_by false taken r known takes there on = (λ e. absurd (cc), λ h. (let wrong : false ≡ true = there.1 h.1.0 in absurd (cc)))

  pub free_answer : (reached taken : Bool) (r : ResNo) → b.0 < length app.blocks → Takes app b r → Decides reached (IsReachedBlock app table b) → Decides taken (IsTakenAt app table b r) → Decides (reached && not taken) (Holds app table (finding.Free b))
  free_answer = free_by

  pub dead_answer : (reached : Bool) → b.0 < length app.blocks → Decides reached (IsReachedBlock app table b) → Decides (not reached) (Holds app table (finding.Dead b))
  dead_answer true known d = (λ e. absurd (cc), λ h. (let x = d.0 refl in absurd (h.1 x.state x.inside x.stands)))
  dead_answer false known d =
      (λ e. (known, λ s inside stands. (let wrong : false ≡ true = d.1 (record { state = s; inside = inside; stands = stands }) in absurd (cc))), λ h. refl)

-- ---- the numbers of a kind

module _ (app : App) (table : Sets) where
  pub free_known : (g : Finding) → Holds app table g → (rank g).kind ≡ 4 → (rank g).number < length app.blocks
  free_known (finding.Suspended t) h e = absurd (omega (arith, e))
  free_known (finding.Unarmed a) h e = absurd (omega (arith, e))
  free_known (finding.Unset t m) h e = absurd (omega (arith, e))
  free_known (finding.Silent k) h e = absurd (omega (arith, e))
  free_known (finding.Free b) h e = h.0.0
  free_known (finding.Dead b) h e = absurd (omega (arith, e))

  pub free_once : (b : BlockNo) (i : ℕ) → b.0 ≡ i → (g : Finding) → Holds app table g → (rank g).kind ≡ 4 → (rank g).number ≡ i → g ≡ finding.Free b
  free_once b i is (finding.Suspended t) h e n = absurd (omega (arith, e))
  free_once b i is (finding.Unarmed a) h e n = absurd (omega (arith, e))
  free_once b i is (finding.Unset t m) h e n = absurd (omega (arith, e))
  free_once b i is (finding.Silent k) h e n = absurd (omega (arith, e))
  free_once b i is (finding.Free c) h e n = ap (λ (k : ℕ). finding.Free (block_no k)) (n ∙ sym is)
  free_once b i is (finding.Dead c) h e n = absurd (omega (arith, e))

  pub dead_known : (g : Finding) → Holds app table g → (rank g).kind ≡ 5 → (rank g).number < length app.blocks
  dead_known (finding.Suspended t) h e = absurd (omega (arith, e))
  dead_known (finding.Unarmed a) h e = absurd (omega (arith, e))
  dead_known (finding.Unset t m) h e = absurd (omega (arith, e))
  dead_known (finding.Silent k) h e = absurd (omega (arith, e))
  dead_known (finding.Free b) h e = absurd (omega (arith, e))
  dead_known (finding.Dead b) h e = h.0

  pub dead_once : (b : BlockNo) (i : ℕ) → b.0 ≡ i → (g : Finding) → Holds app table g → (rank g).kind ≡ 5 → (rank g).number ≡ i → g ≡ finding.Dead b
  dead_once b i is (finding.Suspended t) h e n = absurd (omega (arith, e))
  dead_once b i is (finding.Unarmed a) h e n = absurd (omega (arith, e))
  dead_once b i is (finding.Unset t m) h e n = absurd (omega (arith, e))
  dead_once b i is (finding.Silent k) h e n = absurd (omega (arith, e))
  dead_once b i is (finding.Free c) h e n = absurd (omega (arith, e))
  dead_once b i is (finding.Dead c) h e n = ap (λ (k : ℕ). finding.Dead (block_no k)) (n ∙ sym is)
