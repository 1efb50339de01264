-- Who executes at a point, and the states in which it does.
use Rattle.std.specs.{Prelude.{◌≡◌, ⊤, ℕ, ◌<◌, List, [], ◌∷◌, length, IfSome}, declared.option.Option.{Option}}
use Rattle.osek_values.specs.declared.numbers.{TaskNo.{TaskNo}, BlockNo.{BlockNo}, SourceNo.{SourceNo}}
use Rattle.osek_standard.specs.declared.{app.App.{App}, state.{State.{State}, Processor.{Processor}}}
use Rattle.osek_standard.specs.declared.state.Processor.TheVariants as processor
use Rattle.osek_standard.specs.declared.point.Point.{Point}
use Rattle.osek_standard.specs.declared.point.Point.TheVariants as point
use Rattle.osek_standard.specs.{Apps.{source_count}, States.{here}, Well.{Well, IsOwn, IsOfRoutine, HasProcessor}}
use Rattle.abstract_state.specs.{declared.value.ComponentNo.{ComponentNo}, Components.{component_no, component_number}, Regular.{IsRegular}}
use Rattle.abstract_state.specs.declared.value.Component.TheVariants as component
use Rattle.flow_model.specs.declared.change.{Update.{Update}, Change.{Change}}
use Rattle.flow_model.specs.declared.change.Update.TheVariants as update
use Rattle.flow_model.specs.declared.runner.Runner.{Runner}
use Rattle.flow_model.specs.declared.runner.Runner.TheVariants as runner

abbrev pub runner_point : Runner → BlockNo → Point
runner_point (runner.Task t) b = point.Task b
runner_point (runner.Routine k z over) b = point.Routine b over

abbrev pub runner_processor : Runner → Processor
runner_processor (runner.Task t) = processor.Running t
runner_processor (runner.Routine k z over) = processor.Interrupted k over

-- the number of its component
abbrev pub component_of : Runner → ℕ
component_of (runner.Task t) = t.0
component_of (runner.Routine k z over) = z.0

abbrev pub change : ℕ → Update → Change
change c u = record { component = component_no c; update = u }

-- A runner that goes on stands at another block.
abbrev pub moving : Runner → BlockNo → List Change
moving r b = change (component_of r) (update.Block b) ∷ []

-- the number is that of the source's component
abbrev pub IsOfSource : App → SourceNo → ComponentNo → Type 0
IsOfSource app k z = z.0 ≡ component_number app (component.Source k)

-- the routine with its component, over a task of the application or over none
abbrev pub routine_runner : App → SourceNo → Option TaskNo → Runner
routine_runner app k over = runner.Routine k (component_no (component_number app (component.Source k))) over

-- the source and what its routine interrupted are the application's
pub record IsRoutineKnown (app : App) (k : SourceNo) (z : ComponentNo) (over : Option TaskNo) : Type 0 where
  pub known : k.0 < source_count app
  pub number : IsOfSource app k z
  pub task : IfSome over (λ (t : TaskNo). t.0 < length app.tasks)

-- the runner is one of the application's
abbrev pub IsRunnerOf : App → Runner → Type 0
IsRunnerOf app (runner.Task t) = t.0 < length app.tasks
IsRunnerOf app (runner.Routine k z over) = IsRoutineKnown app k z over

-- the block is one of the source's routine, and what it interrupted is a task
pub record IsBlockOfRoutine (app : App) (k : SourceNo) (z : ComponentNo) (over : Option TaskNo) (b : BlockNo) : Type 0 where
  pub known : k.0 < source_count app
  pub number : IsOfSource app k z
  pub own : IsOfRoutine app k.0 b.0
  pub task : IfSome over (λ (t : TaskNo). t.0 < length app.tasks)

-- the block is one of the runner's
abbrev pub OwnsBlock : App → Runner → BlockNo → Type 0
OwnsBlock app (runner.Task t) b = (t.0 < length app.tasks) × IsOwn app t.0 b.0
OwnsBlock app (runner.Routine k z over) b = IsBlockOfRoutine app k z over b

-- it executes at the point, at this block
pub record ExecutesAt (app : App) (p : Point) (r : Runner) (b : BlockNo) : Type 0 where
  pub point : runner_point r b ≡ p
  pub owns : OwnsBlock app r b

-- the routine that executes at a block, over what it interrupted
abbrev pub IsRoutineOf : App → BlockNo → Option TaskNo → Runner → Type 0
IsRoutineOf app b over r = ExecutesAt app (point.Routine b over) r b

-- who executes at a point
abbrev pub Executes : App → Point → Runner → Type 0
Executes app point.Halted r = ⊥
Executes app point.Idle r = ⊥
Executes app (point.Task b) r = ExecutesAt app (point.Task b) r b
Executes app (point.Routine b over) r = IsRoutineOf app b over r

abbrev pub IsNobodys : Point → Type 0
IsNobodys point.Halted = ⊤
IsNobodys point.Idle = ⊤
IsNobodys (point.Task b) = ⊥
IsNobodys (point.Routine b over) = ⊥

-- a runner that is a task is one of the application's
abbrev pub IsKnown : App → Runner → Type 0
IsKnown app (runner.Task t) = t.0 < length app.tasks
IsKnown app (runner.Routine k z over) = ⊤

-- the task runs, at a block of its own
pub record RunsTask (app : App) (s : State) (t : TaskNo) (b : BlockNo) : Type 0 where
  pub runs : s.processor ≡ processor.Running t
  pub has : HasProcessor app s t
  pub own : IsOwn app t.0 b.0

-- the source's routine runs, at a block of its own
pub record RunsRoutine (app : App) (s : State) (k : SourceNo) (z : ComponentNo) (over : Option TaskNo) (b : BlockNo) : Type 0 where
  pub known : k.0 < source_count app
  pub number : IsOfSource app k z
  pub runs : s.processor ≡ processor.Interrupted k over
  pub own : IsOfRoutine app k.0 b.0

abbrev pub Runs : App → State → Runner → BlockNo → Type 0
Runs app s (runner.Task t) b = RunsTask app s t b
Runs app s (runner.Routine k z over) b = RunsRoutine app s k z over b

-- It executes block b: the state is well-formed and regular, and the processor stands there.
pub record Stands (app : App) (s : State) (r : Runner) (b : BlockNo) : Type 0 where
  pub well : Well app s
  pub regular : IsRegular app s
  pub runs : Runs app s r b
  pub block : (here s).block ≡ b
