-- The ranges of the format's fields, where no condition on an application keeps them: what is spelled has one
-- spelling within these alone.
use Rattle.std.specs.Prelude.{⊤, ◌^◌, ◌<◌, List, All}
use Rattle.oil_system.specs.declared.objects.{Alarm.{Alarm}, Action.{Action}}
use Rattle.oil_system.specs.declared.objects.Action.TheVariants as action
use Rattle.osek_standard.specs.declared.{objects.{Task.{Task}, Counter.{Counter}}, block.{Block.{Block}, Kind.{Kind}}}
use Rattle.osek_standard.specs.declared.block.Kind.TheVariants as kind
use Rattle.image_model.specs.CallNames as call
use Rattle.image_model.specs.declared.image.Image.{Image}

pub record FitsTask (x : Task) : Type 0 where
  pub priority : x.priority < 2 ^ 16
  pub own : x.own.0 < 2 ^ 64

abbrev pub FitsAction : Action → Type 0
FitsAction (action.ActivateTask t) = ⊤
FitsAction (action.SetEvent t m) = m.0 < 2 ^ 64

abbrev pub FitsKind : Kind → Type 0
FitsKind (kind.Work n) = n < 2 ^ 16
FitsKind (kind.Call (call.SetEvent t m)) = m.0 < 2 ^ 64
FitsKind (kind.Call (call.Mask k m)) = m.0 < 2 ^ 64
FitsKind (kind.Call (call.Arm k a i c)) = (i < 2 ^ 64) × (c < 2 ^ 64)
FitsKind (kind.Choice o) = ⊤
FitsKind kind.Loop = ⊤
FitsKind (kind.Call (call.Task k t)) = ⊤
FitsKind (kind.Call (call.Plain k)) = ⊤
FitsKind (kind.Call (call.Resource k r)) = ⊤
FitsKind (kind.Call (call.Alarm k a)) = ⊤
FitsKind (kind.Call (call.Lock l)) = ⊤
FitsKind (kind.Call call.ShutdownOs) = ⊤
FitsKind kind.TaskEnd = ⊤
FitsKind kind.IsrEnd = ⊤
FitsKind kind.CountUp = ⊤
FitsKind (kind.Expire a) = ⊤

pub record FitsBlock (x : Block) : Type 0 where
  pub line : x.line < 2 ^ 32
  pub kind : FitsKind x.kind

pub record FitsParts (tasks : List Task) (counters : List Counter) (alarms : List Alarm) (blocks : List Block) : Type 0 where
  pub each_task : All FitsTask tasks
  pub each_counter : All (λ (x : Counter). x.max < 2 ^ 32) counters
  pub each_alarm : All (λ (x : Alarm). FitsAction x.action) alarms
  pub each_block : All FitsBlock blocks

abbrev pub FitsFormat : Image → Type 0
FitsFormat i = FitsParts i.app.tasks i.app.counters i.app.alarms i.app.blocks
