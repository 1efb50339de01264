-- A well-formed state stands at a point of the application, and its components, where the right tasks are inside, are what
-- they can be there.
use Rattle.std.proofs.Common.{◌≡◌, ℕ, ◌<◌, true, length, refl, ap, subst, Some, None, IfSome}
use Rattle.std.specs.{Prelude.{is_some}, declared.option.Option.{Option}}
use Rattle.std.proofs.lemmas.Bool.{eq-eqb}
use Rattle.osek_values.specs.declared.numbers.{TaskNo.{TaskNo}, BlockNo.{BlockNo}}
use Rattle.osek_standard.specs.declared.{app.App.{App}, state.{State.{State}, Source.{Source}, Processor.{Processor}}}
use Rattle.osek_standard.specs.declared.state.Source.TheVariants as source
use Rattle.osek_standard.specs.declared.state.Processor.TheVariants as processor
use Rattle.osek_standard.specs.declared.task_state.Activity.{Activity}
use Rattle.osek_standard.specs.declared.task_state.Activity.TheVariants as activity
use Rattle.osek_standard.specs.{Apps.{source_count}, TaskStates.{is_inside, is_inside_in, is_live_activity}, Internal.{internal_of}, States.{is_that_task, task_of, task_state, source_state, place_in, place_by, place_of_source}}
use Rattle.osek_standard.specs.Well.{Well, IsActivityOf, IsOwn, IsOfRoutine, IsProcessor, IsRunningAt, IsSourceState}
use Rattle.osek_standard.specs.declared.point.Point.TheVariants as point
use Rattle.abstract_state.specs.declared.value.Component.{Component}
use Rattle.abstract_state.specs.declared.value.Component.TheVariants as component
use Rattle.osek_standard.specs.Points.{point_at, point_of, IsPoint}
use Rattle.abstract_state.specs.Components.{component_at, component_count, value_in, source_value, abstract_of, part_of, IsComponent, IsVal, RunsAt, IsInterruptedVal, FitsPoint}
use Rattle.abstract_state.specs.Components.{IsSourceVal, IsInAt, SourceFitsPoint, IsPart, IsAllowed}
use Rattle.abstract_state.specs.Regular.{IsRegular}
use Rattle.abstract_state.proofs.{ComponentLaws.{component_known}, RoutineOwners.{routine_once}}
use Rattle.osek_standard.proofs.{OwnerLaws.{own_once}, SourceKeeps.{sources_right}}

module _ (app : App) where
  -- the block of a Live task is its own
  live_owns : (t : ℕ) (x : Activity) → is_live_activity x ≡ true → IsActivityOf app t x → IsOwn app t (place_in x).block.0
  live_owns t activity.Suspended e h = absurd (cc)
  live_owns t (activity.Live x) e h = h.own
  live_owns t (activity.Waiting b) e h = absurd (cc)

  module _ (t : ℕ) where
    runs_there : (x : Activity) → is_live_activity x ≡ true → is_inside_in x ≡ is_some (internal_of app t) → RunsAt app (place_in x).block t (value_in x)
    runs_there activity.Suspended e flag = cc
    runs_there (activity.Live x) e flag = (refl, flag)
    runs_there (activity.Waiting b) e flag = cc

    interrupted_there : (x : Activity) → is_live_activity x ≡ true → is_inside_in x ≡ is_some (internal_of app t) → IsInterruptedVal app t (value_in x)
    interrupted_there activity.Suspended e flag = cc
    interrupted_there (activity.Live x) e flag = flag
    interrupted_there (activity.Waiting b) e flag = cc

    pub val_of_activity : (x : Activity) → (is_inside_in x ≡ true → is_some (internal_of app t) ≡ true) → IsActivityOf app t x → IsVal app t (value_in x)
    val_of_activity activity.Suspended named h = tt
    val_of_activity (activity.Live x) named h = record { own = h.own; further = h.further; named = named; stack = h.stack }
    val_of_activity (activity.Waiting b) named h = h

  routine_owns : (k : ℕ) (x : Source) → IsRunningAt app k x → IsOfRoutine app k (place_of_source x).block.0
  routine_owns k source.Out h = absurd h
  routine_owns k (source.In x) h = h.own

  -- a source and its value
  pub source_right : (k : ℕ) (x : Source) → IsSourceState app k x → IsSourceVal app k (source_value x)
  source_right k source.Out h = tt
  source_right k (source.In x) h = record { own = h.own; stack = h.stack; none = h.none }

  in_there : (k : ℕ) (x : Source) → IsRunningAt app k x → IsInAt app (place_of_source x).block (source_value x)
  in_there k source.Out h = absurd h
  in_there k (source.In x) h = refl

  over_known : (s : State) (o : Option TaskNo) → IfSome o (λ t. (t.0 < length app.tasks) × (is_live_activity (task_state s t.0).activity ≡ true)) → IfSome o (λ t. t.0 < length app.tasks)
  over_known s None h = tt
  over_known s (Some t) h = h.0

  module _ (s : State) (w : Well app s) where
    point_by : (p : Processor) → IsProcessor app s p → IsPoint app (point_at (place_by s p).block p)
    point_by processor.Halted h = tt
    point_by processor.Idle h = tt
    point_by (processor.Running t) h = record {
      task = t.0;
      known = h.running.0;
      own = live_owns t.0 (task_state s t.0).activity h.running.1 (w.tasks t.0 h.running.0).activity;
    }
    point_by (processor.Interrupted k over) h = record {
      source = k.0;
      known = h.known;
      own = routine_owns k.0 (source_state s k.0) h.runs;
      task = over_known s over h.over;
    }

    -- the point of a well-formed state
    pub well_point : IsPoint app (point_of s)
    well_point = point_by s.processor w.processor

    -- this task, if there is one, is inside where it names an INTERNAL resource
    abbrev HasFlag : Option TaskNo → Type 0
    HasFlag o = (t : ℕ) → is_that_task o t ≡ true → is_inside (task_state s t) ≡ is_some (internal_of app t)

    over_live : (b : BlockNo) (o : Option TaskNo) → IfSome o (λ t. (t.0 < length app.tasks) × (is_live_activity (task_state s t.0).activity ≡ true)) → HasFlag o
        → (t : ℕ) → FitsPoint app (point.Routine b o) t (value_in (task_state s t).activity)
    over_live b None h flag t = tt
    over_live b (Some u) h flag t = λ same.
        subst (λ (v : ℕ). IsInterruptedVal app v (value_in (task_state s v).activity)) same
        (interrupted_there u.0 (task_state s u.0).activity h.1 (flag u.0 (eq-eqb u.0 u.0 refl)))

    fits_by : (p : Processor) → IsProcessor app s p → HasFlag (task_of p) → (t : ℕ) → t < length app.tasks
        → FitsPoint app (point_at (place_by s p).block p) t (value_in (task_state s t).activity)
    fits_by processor.Halted h flag t lt = tt
    fits_by processor.Idle h flag t lt = tt
    fits_by (processor.Running r) h flag t lt = λ own.
        let runs = live_owns r.0 (task_state s r.0).activity h.running.1 (w.tasks r.0 h.running.0).activity in
        let same : r.0 ≡ t = own_once app r.0 t (place_in (task_state s r.0).activity).block.0 h.running.0 lt runs own in
        subst (λ (v : ℕ). RunsAt app (place_in (task_state s r.0).activity).block v (value_in (task_state s v).activity)) same
        (runs_there r.0 (task_state s r.0).activity h.running.1 (flag r.0 (eq-eqb r.0 r.0 refl)))
    fits_by (processor.Interrupted k over) h flag t lt = over_live (place_of_source (source_state s k.0)).block over h.over flag t

    source_fits_by : (p : Processor) → IsProcessor app s p → (k : ℕ) → k < source_count app → SourceFitsPoint app (point_at (place_by s p).block p) k (source_value (source_state s k))
    source_fits_by processor.Halted h k lt = ap source_value (h k)
    source_fits_by processor.Idle h k lt = ap source_value (h k)
    source_fits_by (processor.Running t) h k lt = ap source_value (h.out k)
    source_fits_by (processor.Interrupted j over) h k lt = λ own.
        let here = source_state s j.0 in
        let same : j.0 ≡ k = routine_once app j.0 k (place_of_source here).block.0 h.known lt (routine_owns j.0 here h.runs) own in
        subst (λ (l : ℕ). IsInAt app (place_of_source here).block (source_value (source_state s l))) same (in_there j.0 here h.runs)

    module _ (regular : IsRegular app s) where
      part_by : (x : Component) → IsComponent app x → IsPart app (point_of s) x (part_of s x)
      part_by (component.Task t) h = (
        val_of_activity t.0 (task_state s t.0).activity (regular.inside.named t.0) (w.tasks t.0 h).activity,
        fits_by s.processor w.processor regular.inside.current t.0 h,
      )
      part_by (component.Event t k) h = tt
      part_by (component.Alarm a) h = tt
      part_by (component.Source k) h = (source_right k.0 (source_state s k.0) (sources_right app s w k.0), source_fits_by s.processor w.processor k.0 h)

      -- what a component of it is
      pub well_part : (c : ℕ) → c < component_count app → IsAllowed app (point_of s) c (abstract_of app s c)
      well_part c lt = part_by (component_at app c) (component_known app c lt)
