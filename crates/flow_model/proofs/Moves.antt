-- A runner that goes on to another place: what that makes of the components, and what stays.
use Rattle.std.proofs.Common.{◌≡◌, ◌≢◌, ℕ, ◌<◌, Bool, true, [], ◌∷◌, length, refl, sym, ap, subst, ◌∙◌, inl, inr, arith, get_or-set_same, get_or-set_other}
use Rattle.std.proofs.lemmas.Bool.{cases_eq, eq-eqb, ne_eqb}
use Rattle.std.specs.{Prelude.{if◌then◌else◌}, declared.option.Option.{Option}}
use Rattle.osek_values.specs.{Numbers.{task_no, source_no}, declared.{mask.Mask.{Mask}, numbers.{TaskNo.{TaskNo}, BlockNo.{BlockNo}, SourceNo.{SourceNo}}}, Bits.{has_bit}}
use Rattle.osek_standard.specs.declared.{app.App.{App}, state.{State.{State}, Processor.{Processor}, Source.{Source}}}
use Rattle.osek_standard.specs.declared.task_state.{TaskState.{TaskState}, Activity.{Activity}, Place.{Place}}
use Rattle.osek_standard.specs.{Apps.{source_count, the_block}, TaskStates.{suspended, is_live, is_live_activity, is_suspended, held, held_in}}
use Rattle.osek_standard.specs.Internal.{IsInside}
use Rattle.osek_standard.specs.States.{is_that_task, task_of, task_state, with_task, source_state, with_source, place_by, place_in, place_of_source, here}
use Rattle.osek_standard.specs.{Effects.{place_at, standing_at, task_at, source_at, moved_by, moved, moved_to}, Well.{Well, InOwner, IsOffsetAt, IsProcessor, IsRunningAt}}
use Rattle.osek_standard.specs.declared.state.Source.TheVariants as source
use Rattle.osek_standard.specs.declared.state.Processor.TheVariants as processor
use Rattle.osek_standard.specs.declared.task_state.Activity.TheVariants as activity
use Rattle.osek_standard.proofs.{Callers.{enters, moved_processor}, FlagLaws.{moved_flags}, MoveKeeps.{moved_keeps}, Keeps.{task_after}}
use Rattle.abstract_state.specs.declared.value.{Component.{Component}, PartValue.{PartValue, TheVariants.{OfTask, OfEvent, OfSource}}}
use Rattle.abstract_state.specs.Components.{component_count, component_at, component_number, part_of, abstract_of, source_value, value_in}
use Rattle.abstract_state.specs.declared.value.Component.TheVariants as component
use Rattle.abstract_state.proofs.{ComponentLaws.{component_numbered, task_at_its_number}, Numbers.{component_here}}
use Rattle.flow_model.specs.{declared.{change.Update.{Update}, runner.Runner.{Runner}}, Values.{at_block, restacked_routine}, Tests.{updated, value_after}, Runners.{Stands, Runs, change, moving}}
use Rattle.flow_model.specs.declared.change.Update.TheVariants as update
use Rattle.flow_model.specs.declared.runner.Runner.TheVariants as runner

-- a task that stands at another place has its value at that block
pub value_at_place : (b : BlockNo) (o : ℕ) (a : Activity) → value_in (standing_at a (place_at b o)) ≡ at_block b (value_in a)
value_at_place b o activity.Suspended = refl
value_at_place b o (activity.Live x) = refl
value_at_place b o (activity.Waiting c) = refl

-- and so has a routine
pub routine_at_place : (b : BlockNo) (o : ℕ) (x : Source) → source_value (source_at x (place_at b o)) ≡ restacked_routine (λ h. h) b (source_value x)
routine_at_place b o source.Out = refl
routine_at_place b o (source.In x) = refl

held_at : (to : Place) (a : Activity) → held_in (standing_at a to) ≡ held_in a
held_at to activity.Suspended = refl
held_at to (activity.Live x) = refl
held_at to (activity.Waiting b) = refl

live_at : (to : Place) (a : Activity) → is_live_activity (standing_at a to) ≡ is_live_activity a
live_at to activity.Suspended = refl
live_at to (activity.Live x) = refl
live_at to (activity.Waiting b) = refl

suspended_at : (to : Place) (a : Activity) (e : Mask) → is_suspended (record { activity = standing_at a to; events = e }) ≡ is_suspended (record { activity = a; events = e })
suspended_at to activity.Suspended e = refl
suspended_at to (activity.Live x) e = refl
suspended_at to (activity.Waiting b) e = refl

-- a Live task that moved stands at the block
block_at : (b : BlockNo) (o : ℕ) (a : Activity) → is_live_activity a ≡ true → (place_in (standing_at a (place_at b o))).block ≡ b
block_at b o activity.Suspended e = absurd (cc)
block_at b o (activity.Live x) e = refl
block_at b o (activity.Waiting c) e = absurd (cc)

source_block_at : (app : App) (k : ℕ) (b : BlockNo) (o : ℕ) (x : Source) → IsRunningAt app k x → (place_of_source (source_at x (place_at b o))).block ≡ b
source_block_at app k b o source.Out h = absurd h
source_block_at app k b o (source.In x) h = refl

-- a move leaves all flags
pub moved_inside : (app : App) (s : State) (to : Place) → IsInside app s → IsInside app (moved s to)
moved_inside app s to h = record {
  named = λ t f. h.named t (sym (moved_flags s to s.processor t) ∙ f);
  current = λ t f. moved_flags s to s.processor t ∙ h.current t (subst (λ (p : Processor). is_that_task (task_of p) t ≡ true) (moved_processor s to s.processor) f);
}

-- a move of the processor
module _ (app : App) (s : State) (w : Well app s) (to : Place) where
  kept_by : {X : Type 0} (f : TaskState → X) → ((x : TaskState) → f (task_at x to) ≡ f x) → (p : Processor) → IsProcessor app s p → (u : ℕ) → f (task_state (moved_by s p to) u) ≡ f (task_state s u)
  kept_by f same processor.Halted h u = refl
  kept_by f same processor.Idle h u = refl
  kept_by f same (processor.Running t) h u =
      let there : t.0 < length s.tasks = omega (arith, h.running.0, w.tasks_len) in
      task_after s t.0 (task_at (task_state s t.0) to) there (λ v y. f y ≡ f (task_state s v)) (same (task_state s t.0)) (λ v _. refl) u
  kept_by f same (processor.Interrupted k over) h u = refl

  -- what another place doesn't change of a task stays of each
  pub moved_keeps_of : {X : Type 0} (f : TaskState → X) → ((x : TaskState) → f (task_at x to) ≡ f x) → (u : ℕ) → f (task_state (moved s to) u) ≡ f (task_state s u)
  moved_keeps_of f same u = kept_by f same s.processor w.processor u

  pub moved_held : (u : ℕ) → held (task_state (moved s to) u) ≡ held (task_state s u)
  moved_held u = moved_keeps_of (λ x. held x) (λ x. held_at to x.activity) u

  pub moved_live : (u : ℕ) → is_live (task_state (moved s to) u) ≡ is_live (task_state s u)
  moved_live u = moved_keeps_of (λ x. is_live x) (λ x. live_at to x.activity) u

  pub moved_suspended : (u : ℕ) → is_suspended (task_state (moved s to) u) ≡ is_suspended (task_state s u)
  moved_suspended u = moved_keeps_of (λ x. is_suspended x) (λ x. suspended_at to x.activity x.events) u

  alarms_by : (p : Processor) → (moved_by s p to).alarms ≡ s.alarms
  alarms_by processor.Halted = refl
  alarms_by processor.Idle = refl
  alarms_by (processor.Running t) = refl
  alarms_by (processor.Interrupted k over) = refl

  pub moved_alarms : (moved s to).alarms ≡ s.alarms
  moved_alarms = alarms_by s.processor

  pub moved_has : (moved s to).processor ≡ s.processor
  moved_has = moved_processor s to s.processor

-- one change, at its component and at another
pub change_here : (t : ℕ) (u : Update) (c : ℕ) (v : PartValue) → c ≡ t → value_after (change t u ∷ []) c v ≡ updated u v
change_here t u c v same = ap (λ (b : Bool). if b then updated u v else v) (eq-eqb t c (sym same))

pub change_there : (t : ℕ) (u : Update) (c : ℕ) (v : PartValue) → c ≢ t → value_after (change t u ∷ []) c v ≡ v
change_there t u c v other = ap (λ (b : Bool). if b then updated u v else v) (ne_eqb t c (λ e. other (sym e)))

-- the number of a task's component is its own
pub other_component : (app : App) (t c : ℕ) → c < component_count app → c ≢ t → component_at app c ≢ component.Task (task_no t)
other_component app t c lt other same = other (sym (component_numbered app c lt) ∙ ap (component_number app) same)

-- a task's state is written, and its events are kept
module _ (app : App) (s : State) (t : ℕ) (x : TaskState) (known : t < length s.tasks) (kept : x.events ≡ (task_state s t).events) where
  part_there : part_of (with_task s t x) (component.Task (task_no t)) ≡ OfTask (value_in x.activity)
  part_there = ap (λ (y : TaskState). OfTask (value_in y.activity)) (get_or-set_same s.tasks t x suspended known)

  part_elsewhere : (k : Component) → k ≢ component.Task (task_no t) → part_of (with_task s t x) k ≡ part_of s k
  part_elsewhere (component.Task u) other =
      ap (λ (y : TaskState). OfTask (value_in y.activity)) (get_or-set_other s.tasks t u.0 x suspended (λ same. other (ap (λ (n : ℕ). component.Task (task_no n)) same)))
  part_elsewhere (component.Event u j) other =
      ap (λ (m : Mask). OfEvent (has_bit m.0 j.0)) (task_after s t x known (λ v y. y.events ≡ (task_state s v).events) kept (λ v _. refl) u.0)
  part_elsewhere (component.Alarm a) other = refl
  part_elsewhere (component.Source k) other = refl

  -- the components after a write of a task's activity, by what becomes of the task's value
  pub activity_parts : (u : Update) → t < length app.tasks → updated u (OfTask (value_in (task_state s t).activity)) ≡ OfTask (value_in x.activity) → (c : ℕ) → c < component_count app →
      abstract_of app (with_task s t x) c ≡ value_after (change t u ∷ []) c (abstract_of app s c)
  activity_parts u task becomes c lt = elim (cases_eq c t) [
    | inl same ↦
        (let at : component_at app c ≡ component.Task (task_no t) = ap (component_at app) same ∙ task_at_its_number app t task in
        ap (part_of (with_task s t x)) at ∙ part_there ∙ sym becomes
        ∙ ap (updated u) (sym (ap (part_of s) at)) ∙ sym (change_here t u c (abstract_of app s c) same))
    | inr other ↦
        (part_elsewhere (component_at app c) (other_component app t c lt other) ∙ sym (change_there t u c (abstract_of app s c) other))
  ]

-- a source's state is written
module _ (app : App) (s : State) (k : ℕ) (x : Source) (here : k < length s.sources) (known : k < source_count app) where
  abbrev written : Component
  written = component.Source (source_no k)

  source_there : part_of (with_source s k x) written ≡ OfSource (source_value x)
  source_there = ap (λ (y : Source). OfSource (source_value y)) (get_or-set_same s.sources k x source.Out here)

  source_elsewhere : (c : Component) → c ≢ written → part_of (with_source s k x) c ≡ part_of s c
  source_elsewhere (component.Task t) other = refl
  source_elsewhere (component.Event t j) other = refl
  source_elsewhere (component.Alarm a) other = refl
  source_elsewhere (component.Source l) other =
      ap (λ (y : Source). OfSource (source_value y)) (get_or-set_other s.sources k l.0 x source.Out (λ same. other (ap (λ (n : ℕ). component.Source (source_no n)) same)))

  -- the components after it, by what becomes of the source's value
  pub source_parts : (u : Update) (n : ℕ) → n ≡ component_number app written → updated u (OfSource (source_value (source_state s k))) ≡ OfSource (source_value x) → (c : ℕ) → c < component_count app →
      abstract_of app (with_source s k x) c ≡ value_after (change n u ∷ []) c (abstract_of app s c)
  source_parts u n number becomes c lt = elim (cases_eq c n) [
    | inl same ↦
        (let at : component_at app c ≡ written = ap (component_at app) (same ∙ number) ∙ component_here app written known in
        ap (part_of (with_source s k x)) at ∙ source_there ∙ sym becomes
        ∙ ap (updated u) (sym (ap (part_of s) at)) ∙ sym (change_here n u c (abstract_of app s c) same))
    | inr other ↦
        (let apart : component_at app c ≢ written = λ at. other (sym (component_numbered app c lt) ∙ ap (component_number app) at ∙ sym number) in
        source_elsewhere (component_at app c) apart ∙ sym (change_there n u c (abstract_of app s c) other))
  ]

module _ (app : App) (s : State) (n : BlockNo) (o : ℕ) where
  abbrev to : Place
  to = place_at n o

  -- what a move is for a task and for a routine
  pub task_moved : (t : TaskNo) → s.processor ≡ processor.Running t → moved s to ≡ with_task s t.0 (task_at (task_state s t.0) to)
  task_moved t e = ap (λ (p : Processor). moved_by s p to) e

  pub routine_moved : (k : SourceNo) (over : Option TaskNo) → s.processor ≡ processor.Interrupted k over → moved s to ≡ with_source s k.0 (source_at (source_state s k.0) to)
  routine_moved k over e = ap (λ (p : Processor). moved_by s p to) e

  parts_by : (r : Runner) (b : BlockNo) → Well app s → Runs app s r b → (c : ℕ) → c < component_count app → abstract_of app (moved s to) c ≡ value_after (moving r n) c (abstract_of app s c)
  parts_by (runner.Task t) b w h c lt =
      let there : t.0 < length s.tasks = let known = h.has.0 in omega (arith, known, w.tasks_len) in
      ap (λ (r : State). abstract_of app r c) (task_moved t h.runs)
      ∙ activity_parts app s t.0 (task_at (task_state s t.0) to) there refl (update.Block n) h.has.0 (ap OfTask (sym (value_at_place n o (task_state s t.0).activity))) c lt
  parts_by (runner.Routine k z over) b w h c lt =
      let there : k.0 < length s.sources = let known = h.known in omega (arith, known, w.sources_len) in
      ap (λ (r : State). abstract_of app r c) (routine_moved k over h.runs)
      ∙ source_parts app s k.0 (source_at (source_state s k.0) to) there h.known (update.Block n) z.0 h.number (ap OfSource (sym (routine_at_place n o (source_state s k.0)))) c lt

  block_by : (r : Runner) (b : BlockNo) → Well app s → Runs app s r b → (here (moved s to)).block ≡ n
  block_by (runner.Task t) b w h =
      let there : t.0 < length s.tasks = let known = h.has.0 in omega (arith, known, w.tasks_len) in
      let after : State = with_task s t.0 (task_at (task_state s t.0) to) in
      ap (λ (r : State). (here r).block) (task_moved t h.runs)
      ∙ ap (λ (p : Processor). (place_by after p).block) h.runs
      ∙ ap (λ (y : TaskState). (place_in y.activity).block) (get_or-set_same s.tasks t.0 (task_at (task_state s t.0) to) suspended there)
      ∙ block_at n o (task_state s t.0).activity h.has.1
  block_by (runner.Routine k z over) b w h =
      let there : k.0 < length s.sources = let known = h.known in omega (arith, known, w.sources_len) in
      let has : IsProcessor app s (processor.Interrupted k over) = subst (IsProcessor app s) h.runs w.processor in
      let after : State = with_source s k.0 (source_at (source_state s k.0) to) in
      ap (λ (r : State). (here r).block) (routine_moved k over h.runs)
      ∙ ap (λ (p : Processor). (place_by after p).block) h.runs
      ∙ ap (λ (y : Source). (place_of_source y).block) (get_or-set_same s.sources k.0 (source_at (source_state s k.0) to) source.Out there)
      ∙ source_block_at app k.0 n o (source_state s k.0) has.runs

  runs_by : (r : Runner) (b : BlockNo) → Well app s → Runs app s r b → InOwner app s.processor n.0 → Runs app (moved s to) r n
  runs_by (runner.Task t) b w h own = record {
    runs = moved_has app s w to ∙ h.runs;
    has = (h.has.0, moved_live app s w to t.0 ∙ h.has.1);
    own = subst (λ (p : Processor). InOwner app p n.0) h.runs own;
  }
  runs_by (runner.Routine k z over) b w h own = record {
    known = h.known;
    number = h.number;
    runs = moved_has app s w to ∙ h.runs;
    own = subst (λ (p : Processor). InOwner app p n.0) h.runs own;
  }

  module _ (r : Runner) (b : BlockNo) (h : Stands app s r b) where
    -- the components after a move
    pub moved_parts : (c : ℕ) → c < component_count app → abstract_of app (moved s to) c ≡ value_after (moving r n) c (abstract_of app s c)
    moved_parts c lt = parts_by r b h.well h.runs c lt

    -- the runner stands there after it
    pub moved_stands : InOwner app s.processor n.0 → IsOffsetAt (the_block app n.0).kind o → Stands app (moved s to) r n
    moved_stands own offset = record {
      well = moved_keeps app s h.well to own offset;
      regular = record { inside = moved_inside app s to h.regular.inside };
      runs = runs_by r b h.well h.runs own;
      block = block_by r b h.well h.runs;
    }

-- a runner that goes on to a block of its own stands there
pub went_on : (app : App) (s : State) (r : Runner) (b n : BlockNo) → Stands app s r b → InOwner app s.processor n.0 → Stands app (moved_to s n) r n
went_on app s r b n h own = moved_stands app s n 0 r b h own (enters app s h.well n.0 own)
