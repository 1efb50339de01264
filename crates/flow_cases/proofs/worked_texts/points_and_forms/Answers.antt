use Rattle.std.proofs.Common.{refl}
use Rattle.std.specs.Fmt.{digits}
use Rattle.flow_cases.proofs.worked_texts.points_and_forms.Goals as goal

pub returns : goal.returns
unfolding digits
returns c = record { halted = λ app. refl; over_none = λ app. refl; over_a_task = λ app name. rw name refl; stay = λ app. refl; general = λ app. refl }
