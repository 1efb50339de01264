-- Each command may answer that memory ran out before it began.
use Rattle.std.proofs.Common.{refl, inl, inr, Some, None, Err}
use Rattle.std.specs.declared.option.Option.{Option}
use Rattle.commands.specs.Answering.{CommandAnswers}
use Rattle.commands.specs.Building as building
use Rattle.commands.specs.Certifying as certifying
use Rattle.commands.specs.Checking as checking
use Rattle.commands.specs.Generating as generating
use Rattle.commands.specs.Informing as informing
use Rattle.command_runs.specs.{Inputs.{no_memory}, Outside.{Outside}}
use Rattle.command_runs.specs.Replaying as replaying
use Rattle.commands.specs.Reporting as reporting
use Rattle.commands.specs.Showing as showing
use Rattle.commands.specs.Tracing as tracing
use Rattle.command_runs.specs.Upgrading as upgrading
use Rattle.commands.specs.Watching as watching
use Rattle.commands.specs.Words.{Command, Build, Replay, Trace, Show, Report, Info, Gen, Upgrade, Certify, Check, Record, Watch}
use Rattle.command_runs.specs.declared.stop.Stop.TheVariants as stop

pub memory_answers : (before : Outside) (command : Option Command) → CommandAnswers before before command (Err stop.Memory)
memory_answers before None = (inr refl, refl)
memory_answers before (Some (Build oil code image)) = (building.stops stop.Memory (inl no_memory) (refl, refl), refl)
memory_answers before (Some (Replay image mode events)) = (replaying.stops stop.Memory no_memory refl, (refl, refl))
memory_answers before (Some (Trace oil code mode events)) = (tracing.stops stop.Memory (inl no_memory) refl, (refl, refl))
memory_answers before (Some (Show oil code)) = (showing.stops stop.Memory (inl no_memory) refl, (refl, refl))
memory_answers before (Some (Report oil code)) = (reporting.stops stop.Memory (inl no_memory) refl, (refl, refl))
memory_answers before (Some (Info image)) = (informing.stops stop.Memory no_memory refl, (refl, refl))
memory_answers before (Some (Gen seed tasks)) = (generating.no_memory refl, refl)
memory_answers before (Some (Upgrade image upgraded)) = (upgrading.stops stop.Memory no_memory (refl, refl), refl)
memory_answers before (Some (Certify oil code image table)) = (certifying.stops stop.Memory (inl no_memory) (refl, refl), refl)
memory_answers before (Some (Check image table)) = (checking.no_image stop.Memory no_memory refl, (refl, refl))
memory_answers before (Some (Record image mode events)) = (replaying.stops stop.Memory no_memory refl, (refl, refl))
memory_answers before (Some (Watch oil code points)) = (watching.stops stop.Memory (inl no_memory) refl, (refl, refl))
