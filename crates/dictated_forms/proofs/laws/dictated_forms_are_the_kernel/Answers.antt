use Rattle.dictated_forms.proofs.ImageLaws.{dictated_fit, same_step, runs_as_kernel}
use Rattle.dictated_forms.proofs.laws.dictated_forms_are_the_kernel.Goals as goal

pub returns : goal.returns
returns c = record { fit = dictated_fit; step = same_step; run = runs_as_kernel }
