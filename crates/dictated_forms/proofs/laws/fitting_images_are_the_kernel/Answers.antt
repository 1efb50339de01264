use Rattle.dictated_forms.proofs.ImageLaws.{fitting_step, fitting_run}
use Rattle.dictated_forms.proofs.laws.fitting_images_are_the_kernel.Goals as goal

pub returns : goal.returns
returns c = record { step = λ i table s e fits inside. fitting_step i table fits s e inside; run = λ i table mode es ind fits there. fitting_run i table fits ind mode es there }
