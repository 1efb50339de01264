-- What an instruction may change at a site, as it was, and the state with these parts put back.
use Rattle.std.specs.{Prelude.{⊤, ◌≡◌, ℕ, ◌<◌, Bool, true, Some, None, take, length}, declared.option.Option.{Option}}
use Rattle.osek_values.specs.declared.numbers.TaskNo.{TaskNo}
use Rattle.osek_standard.specs.{declared.{app.App.{App}, state.{State.{State}, Source.{Source}, Processor.{Processor}}}, Apps.{is_site}, Effects.{effect}, Well.{Well, IsActive}}
use Rattle.osek_standard.specs.{States.{here, source_state, task_of, task_state, with_processor, with_source, with_task}, Line.{with_line}}
use Rattle.osek_standard.specs.declared.state.Source.TheVariants as source
use Rattle.osek_standard.specs.declared.state.Processor.TheVariants as processor
use Rattle.generic_kernel.specs.Changes.{named_here}
use Rattle.image_model.specs.declared.image.Image.{Image}
use Rattle.image_run.specs.declared.before.{Before.{Before}, OldTask.{OldTask}}

abbrev pub old_task : State → Option TaskNo → Option OldTask
old_task s None = None
old_task s (Some t) = Some (record { task = t; state = task_state s t.0 })

-- the routine at the processor
abbrev pub source_by : State → Processor → Source
source_by s processor.Halted = source.Out
source_by s processor.Idle = source.Out
source_by s (processor.Running t) = source.Out
source_by s (processor.Interrupted k over) = source_state s k.0

abbrev pub before : App → State → Before
before app s = record {
  processor = s.processor;
  source = source_by s s.processor;
  own = old_task s (task_of s.processor);
  named = old_task s (named_here app s);
  places = length s.line;
}

abbrev pub task_in : Option OldTask → Option TaskNo
task_in None = None
task_in (Some x) = Some x.task

abbrev pub with_old_task : State → Option OldTask → State
with_old_task r None = r
with_old_task r (Some x) = with_task r x.task.0 x.state

abbrev pub with_old_source : State → Processor → Source → State
with_old_source r processor.Halted x = r
with_old_source r processor.Idle x = r
with_old_source r (processor.Running t) x = r
with_old_source r (processor.Interrupted k over) x = with_source r k.0 x

-- the state with these parts as they were
abbrev pub put_back : Before → State → State
put_back b r =
    let rest = with_old_source (with_old_task (with_old_task r b.own) b.named) b.processor b.source in
    with_processor (with_line rest (take b.places rest.line)) b.processor

-- the task has its place, if there is one
abbrev pub IsKnownTask : ℕ → Option OldTask → Type 0
IsKnownTask n None = ⊤
IsKnownTask n (Some x) = x.task.0 < n

-- the source at the processor has its place
abbrev pub IsKnownSource : ℕ → Processor → Type 0
IsKnownSource n processor.Halted = ⊤
IsKnownSource n processor.Idle = ⊤
IsKnownSource n (processor.Running t) = ⊤
IsKnownSource n (processor.Interrupted k over) = k.0 < n

-- the state is what the effect of an instruction at a site made of the one before
pub record IsAfter (i : Image) (r : State) (b : Before) : Type 0 where
  pub was : State
  pub well : Well i.app was
  pub active : IsActive was.processor
  pub parts : b ≡ before i.app was
  pub site : is_site i.app (here was).block.0 ≡ true
  pub choice : Bool
  pub effect : r ≡ (effect i.app was choice).state
