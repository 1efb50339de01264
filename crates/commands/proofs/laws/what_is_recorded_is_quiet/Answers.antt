use Rattle.commands.proofs.RecordedRuns.{recorded_as_the_kernel, recorded_is_quiet}
use Rattle.commands.proofs.laws.what_is_recorded_is_quiet.Goals as goal

pub returns-clause-as_the_kernel : goal.returns-clause-as_the_kernel
returns-clause-as_the_kernel c = recorded_as_the_kernel

pub returns-clause-quiet : goal.returns-clause-quiet
returns-clause-quiet c = recorded_is_quiet
