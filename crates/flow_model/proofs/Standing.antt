-- Who executes at a point, and what is known of the block there.
use Rattle.std.proofs.Common.{◌≡◌, refl, sym, ap, subst, ◌∙◌}
use Rattle.std.specs.declared.option.Option.{Option}
use Rattle.osek_values.specs.{Numbers.{task_no, source_no}, declared.numbers.{TaskNo.{TaskNo}, BlockNo.{BlockNo}, SourceNo.{SourceNo}}}
use Rattle.osek_standard.specs.{declared.{app.App.{App}, state.{State.{State}, Processor.{Processor}, Caller.TheVariants.{Task, Routine}}}, Apps.{the_block}}
use Rattle.osek_standard.specs.{States.{place_by, here, caller}, Points.{point_at, point_of, IsPoint}, Well.{Well, InOwner, IsActive, IsOfRoutine, IsOwn, IsProcessor}}
use Rattle.osek_standard.specs.declared.block.Kind.TheVariants as kind
use Rattle.osek_standard.specs.declared.state.Processor.TheVariants as processor
use Rattle.osek_standard.specs.declared.point.Point.TheVariants as point
use Rattle.osek_standard.proofs.{Callers.{BlockHere, block_here}, MoveKeeps.{here_own}, OwnerLaws.{own_once}}
use Rattle.abstract_state.specs.{declared.value.ComponentNo.{ComponentNo}, Components.{component_no}, Regular.{IsRegular}}
use Rattle.abstract_state.proofs.RoutineOwners.{routine_once}
use Rattle.flow_model.specs.{declared.runner.Runner.{Runner}, Runners.{Stands, Runs, OwnsBlock, routine_runner, runner_point}}
use Rattle.flow_model.specs.declared.runner.Runner.TheVariants as runner

-- at a task's point some task has the processor, and stands there
record IsTaskAt (s : State) (p : Processor) (b : BlockNo) : Type 0 where
  task : TaskNo
  runs : p ≡ processor.Running task
  block : (place_by s p).block ≡ b

task_runs : (s : State) (p : Processor) (b : BlockNo) → point_at (place_by s p).block p ≡ point.Task b → IsTaskAt s p b
task_runs s processor.Halted b e = absurd (cc)
task_runs s processor.Idle b e = absurd (cc)
task_runs s (processor.Running t) b e = record { task = t; runs = refl; block = cc }
task_runs s (processor.Interrupted k over) b e = absurd (cc)

-- at a routine's point some source's routine has it
record IsRoutineAt (s : State) (p : Processor) (b : BlockNo) (over : Option TaskNo) : Type 0 where
  source : SourceNo
  runs : p ≡ processor.Interrupted source over
  block : (place_by s p).block ≡ b

routine_runs : (s : State) (p : Processor) (b : BlockNo) (over : Option TaskNo) → point_at (place_by s p).block p ≡ point.Routine b over → IsRoutineAt s p b over
routine_runs s processor.Halted b over e = absurd (cc)
routine_runs s processor.Idle b over e = absurd (cc)
routine_runs s (processor.Running t) b over e = absurd (cc)
routine_runs s (processor.Interrupted k under) b over e = record { source = k; runs = cc; block = cc }

-- it has the processor, which stands at the block
pub record Occupies (app : App) (s : State) (r : Runner) (b : BlockNo) : Type 0 where
  pub runs : Runs app s r b
  pub block : (here s).block ≡ b

module _ (app : App) (s : State) (b : BlockNo) (w : Well app s) where
  -- a task that runs at a task's point stands there
  pub stands_at : point_of s ≡ point.Task b → (t : TaskNo) × Occupies app s (runner.Task t) b
  stands_at e =
      let r = task_runs s s.processor b e in
      let has : IsProcessor app s (processor.Running r.task) = subst (IsProcessor app s) r.runs w.processor in
      let active : IsActive s.processor = subst IsActive (sym r.runs) tt in
      let here_owned : InOwner app (processor.Running r.task) (here s).block.0 = subst (λ (p : Processor). InOwner app p (here s).block.0) r.runs (here_own app s w active) in (
        r.task,
        record {
          runs = record { runs = r.runs; has = has.running; own = subst (λ (c : BlockNo). IsOwn app r.task.0 c.0) r.block here_owned };
          block = r.block;
        },
      )

  -- a routine that runs at a routine's point stands there
  pub stands_in : (over : Option TaskNo) → point_of s ≡ point.Routine b over → (k : SourceNo) × Occupies app s (routine_runner app k over) b
  stands_in over e =
      let r = routine_runs s s.processor b over e in
      let has : IsProcessor app s (processor.Interrupted r.source over) = subst (IsProcessor app s) r.runs w.processor in
      let active : IsActive s.processor = subst IsActive (sym r.runs) tt in
      let here_owned : InOwner app (processor.Interrupted r.source over) (here s).block.0 = subst (λ (p : Processor). InOwner app p (here s).block.0) r.runs (here_own app s w active) in (
        r.source,
        record {
          runs = record { known = has.known; number = refl; runs = r.runs; own = subst (λ (c : BlockNo). IsOfRoutine app r.source.0 c.0) r.block here_owned };
          block = r.block;
        },
      )

-- a task or a routine has the processor at such points
pub active_there : (app : App) (s : State) (b : BlockNo) → Well app s → point_of s ≡ point.Task b → IsActive s.processor
active_there app s b w e = subst IsActive (sym (task_runs s s.processor b e).runs) tt

pub active_within : (app : App) (s : State) (b : BlockNo) (over : Option TaskNo) → Well app s → point_of s ≡ point.Routine b over → IsActive s.processor
active_within app s b over w e = subst IsActive (sym (routine_runs s s.processor b over e).runs) tt

-- the runner that owns the block stands there
occupies : (app : App) (s : State) (r : Runner) (b : BlockNo) → OwnsBlock app r b → Well app s → point_of s ≡ runner_point r b → Occupies app s r b
occupies app s (runner.Task t) b owns w e =
    let h = stands_at app s b w e in
    let same : h.0.0 ≡ t.0 = own_once app h.0.0 t.0 b.0 h.1.runs.has.0 owns.0 h.1.runs.own owns.1 in
    subst (λ (u : TaskNo). Occupies app s (runner.Task u) b) (ap task_no same) h.1
occupies app s (runner.Routine k z over) b owns w e =
    let h = stands_in app s b w over e in
    let same : h.0.0 ≡ k.0 = routine_once app h.0.0 k.0 b.0 h.1.runs.known owns.known h.1.runs.own owns.own in
    let here : Occupies app s (routine_runner app k over) b = subst (λ (l : SourceNo). Occupies app s (routine_runner app l over) b) (ap source_no same) h.1 in
    subst (λ (y : ComponentNo). Occupies app s (runner.Routine k y over) b) (ap component_no (sym owns.number)) here

pub stands_here : (app : App) (s : State) (r : Runner) (b : BlockNo) → OwnsBlock app r b → Well app s → IsRegular app s → point_of s ≡ runner_point r b → Stands app s r b
stands_here app s r b owns w regular e = let h = occupies app s r b owns w e in record { well = w; regular = regular; runs = h.runs; block = h.block }

-- the point of a runner at its block is the application's
pub owned_point : (app : App) (r : Runner) (b : BlockNo) → OwnsBlock app r b → IsPoint app (runner_point r b)
owned_point app (runner.Task t) b owns = record { task = t.0; known = owns.0; own = owns.1 }
owned_point app (runner.Routine k z over) b owns = record { source = k.0; known = owns.known; own = owns.own; task = owns.task }

module _ (app : App) (s : State) where
  runs_active : (r : Runner) (b : BlockNo) → Runs app s r b → IsActive s.processor
  runs_active (runner.Task t) b h = subst IsActive (sym h.runs) tt
  runs_active (runner.Routine k z over) b h = subst IsActive (sym h.runs) tt

  runs_own : (r : Runner) (b : BlockNo) → Runs app s r b → InOwner app s.processor b.0
  runs_own (runner.Task t) b h = subst (λ (p : Processor). InOwner app p b.0) (sym h.runs) h.own
  runs_own (runner.Routine k z over) b h = subst (λ (p : Processor). InOwner app p b.0) (sym h.runs) h.own

  runs_point : (r : Runner) (b c : BlockNo) → Runs app s r b → c ≡ b → point_at c s.processor ≡ runner_point r b
  runs_point (runner.Task t) b c h e = ap (point_at c) h.runs ∙ ap point.Task e
  runs_point (runner.Routine k z over) b c h e = ap (point_at c) h.runs ∙ ap (λ (d : BlockNo). point.Routine d over) e

  module _ (r : Runner) (b : BlockNo) (h : Stands app s r b) where
    pub is_active : IsActive s.processor
    is_active = runs_active r b h.runs

    -- its point
    pub point_there : point_of s ≡ runner_point r b
    point_there = runs_point r b (here s).block h.runs h.block

    -- the block is one of the owner's
    pub owned_here : InOwner app s.processor b.0
    owned_here = runs_own r b h.runs

    pub known_here : BlockHere app s.processor b.0
    known_here = block_here app s s.processor b.0 h.well.processor owned_here

    -- so are the next one and the other way of a choice
    pub next_owned : InOwner app s.processor (the_block app b.0).next.0
    next_owned = known_here.next

    pub other_owned : (other : BlockNo) → (the_block app b.0).kind ≡ kind.Choice other → InOwner app s.processor other.0
    other_owned other e = known_here.other other e

  -- who calls
  pub task_calls : (t : TaskNo) (b : BlockNo) → Stands app s (runner.Task t) b → caller s.processor ≡ Task t
  task_calls t b h = ap caller h.runs.runs

  pub routine_calls : (k : SourceNo) (z : ComponentNo) (over : Option TaskNo) (b : BlockNo) → Stands app s (runner.Routine k z over) b → caller s.processor ≡ Routine k
  routine_calls k z over b h = ap caller h.runs.runs
