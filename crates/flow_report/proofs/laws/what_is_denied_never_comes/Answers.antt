use Rattle.flow_report.proofs.RunLaws.{never_comes, never_comes_of}
use Rattle.flow_report.proofs.laws.what_is_denied_never_comes.Goals as goal

pub returns-clause-kernel : goal.returns-clause-kernel
returns-clause-kernel c = λ app table f mode es inductive holds there. never_comes app table inductive f holds.1 mode es there

pub returns-clause-image : goal.returns-clause-image
returns-clause-image c = λ i table f mode es inductive fits holds there. never_comes_of i table inductive fits f holds.1 mode es there
