-- Where the processor stays, and who has it then.
use Rattle.std.proofs.Common.{◌≡◌, ℕ, ◌<◌, length, refl, sym, ap, subst, ◌∙◌, inl, inr}
use Rattle.std.specs.Prelude.{◌==◌}
use Rattle.std.proofs.lemmas.Bool.{cases_Bool, cases_eq, eq-eqb, ne_eqb}
use Rattle.osek_values.specs.declared.numbers.{TaskNo.{TaskNo}, BlockNo.{BlockNo}}
use Rattle.osek_standard.specs.{declared.{app.App.{App}, state.{State.{State}, Processor.{Processor}, Source.{Source}}, task_state.Activity.{Activity}}}
use Rattle.osek_standard.specs.declared.task_state.Activity.TheVariants as activity
use Rattle.osek_standard.specs.declared.state.Processor.TheVariants as processor
use Rattle.osek_standard.specs.declared.state.Source.TheVariants as source
use Rattle.osek_standard.specs.declared.point.Point.{Point}
use Rattle.osek_standard.specs.declared.point.Point.TheVariants as point
use Rattle.osek_standard.specs.{States.{is_that_task, source_state, task_state, place_by, place_in, place_of_source}, Points.{point_at, point_of}, Well.{Well, IsOwn}}
use Rattle.osek_standard.proofs.OwnerLaws.{own_once}
use Rattle.abstract_state.specs.{declared.value.PartValue.{PartValue}, Components.{abstract_of, component_count, part_of, source_value, value_in}, Settling.{running_task}}
use Rattle.abstract_state.proofs.ComponentLaws.{task_at_its_number, task_counted}
use Rattle.flow_model.specs.declared.case.{Stay.{Stay}, Decision.TheVariants.{Keep}}
use Rattle.flow_model.specs.declared.case.Stay.TheVariants as stay
use Rattle.flow_model.specs.declared.runner.Runner.TheVariants as runner
use Rattle.flow_model.specs.{Values.{block_of, block_of_part, block_of_routine}, Effects.{StaysAt, stay_point, IsKnownStay}, Scheduling.{has_it_after, is_at_task}}
use Rattle.flow_model.proofs.{SettledValues.{own_within, within_own}, SourceTests.{source_counted, source_value_is}, Standing.{stands_at}}
use Rattle.flow_exits.specs.Deciding.{HasValues}

pub block_value : (a : Activity) → block_of (value_in a) ≡ (place_in a).block
block_value activity.Suspended = refl
block_value (activity.Live x) = refl
block_value (activity.Waiting b) = refl

routine_value : (x : Source) → block_of_routine (source_value x) ≡ (place_of_source x).block
routine_value source.Out = refl
routine_value (source.In x) = refl

-- the point where it stays is that of the values
pub stays_point : (app : App) (s : State) (x : Stay) (value : ℕ → PartValue) → IsKnownStay app x → HasValues app s value → StaysAt x s → point_of s ≡ stay_point x value
stays_point app s (stay.At p) value known same h = h
stays_point app s (stay.AtBlockOf (runner.Task t)) value known same h =
    ap (λ (p : Processor). point_at (place_by s p).block p) h
    ∙ ap point.Task (sym (ap block_of_part (same t.0 (task_counted app t.0 known) ∙ ap (part_of s) (task_at_its_number app t.0 known)) ∙ block_value (task_state s t.0).activity))
stays_point app s (stay.AtBlockOf (runner.Routine k z over)) value known same h =
    let counted : z.0 < component_count app = subst (λ (n : ℕ). n < component_count app) (sym known.number) (source_counted app s k.0 known.known) in
    ap (λ (p : Processor). point_at (place_by s p).block p) h
    ∙ ap (λ (b : BlockNo). point.Routine b over)
    (sym (ap block_of_part (same z.0 counted ∙ ap (abstract_of app s) known.number ∙ source_value_is app s k.0 known.known) ∙ routine_value (source_state s k.0)))

module _ (app : App) (u : ℕ) (known : u < length app.tasks) where
  -- a task that stands at a block of its own
  owner_is : (t : TaskNo) (b : BlockNo) → t.0 < length app.tasks → IsOwn app t.0 b.0 → (t.0 == u) ≡ is_at_task app (point.Task b) u
  owner_is t b there own = elim (cases_eq t.0 u) [
    | inl same ↦ eq-eqb t.0 u same ∙ sym (own_within app u b (subst (λ (v : ℕ). IsOwn app v b.0) same own))
    | inr differs ↦ elim (cases_Bool (is_at_task app (point.Task b) u)) [
      | inl e ↦ absurd (differs (own_once app t.0 u b.0 there known own (within_own app u b e)))
      | inr e ↦ ne_eqb t.0 u differs ∙ sym e
    ]
  ]

  module _ (s : State) (w : Well app s) where
    same_task : {v t : TaskNo} → processor.Running v ≡ processor.Running t → v ≡ t
    same_task e = cc

    runner_at : (p : Processor) → s.processor ≡ p → is_that_task (running_task p) u ≡ is_at_task app (point_at (place_by s p).block p) u
    runner_at processor.Halted e = refl
    runner_at processor.Idle e = refl
    runner_at (processor.Running t) e =
        let b = (place_in (task_state s t.0).activity).block in
        let h = stands_at app s b w (ap (λ (p : Processor). point_at (place_by s p).block p) e) in
        let is : h.0 ≡ t = same_task (sym h.1.runs.runs ∙ e) in
        owner_is t b (subst (λ (v : TaskNo). v.0 < length app.tasks) is h.1.runs.has.0) (subst (λ (v : TaskNo). IsOwn app v.0 b.0) is h.1.runs.own)
    runner_at (processor.Interrupted k over) e = refl

    -- who has the processor, where it stays
    pub runner_stays : (x : Stay) → StaysAt x s → is_that_task (running_task s.processor) u ≡ has_it_after app x Keep u
    runner_stays (stay.At p) h = runner_at s.processor refl ∙ ap (λ (q : Point). is_at_task app q u) h
    runner_stays (stay.AtBlockOf (runner.Routine k z over)) h = ap (λ (p : Processor). is_that_task (running_task p) u) h
    runner_stays (stay.AtBlockOf (runner.Task t)) h = ap (λ (p : Processor). is_that_task (running_task p) u) h
