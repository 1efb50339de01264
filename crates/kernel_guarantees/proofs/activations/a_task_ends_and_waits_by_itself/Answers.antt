use Rattle.kernel_guarantees.proofs.Leaving.{ends_by_itself, waits_by_itself}
use Rattle.kernel_guarantees.proofs.activations.a_task_ends_and_waits_by_itself.Goals as goal

pub returns : goal.returns
returns c = record {
  ends = λ app s e t reached live gone. ends_by_itself app s e t reached live gone;
  waits = λ app s e t b reached live waiting. waits_by_itself app s e t b reached live waiting;
}
