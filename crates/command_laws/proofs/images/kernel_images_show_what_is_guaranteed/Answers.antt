use Rattle.image_model.proofs.GeneralRuns.{general_runs}
use Rattle.command_laws.proofs.KernelImages.{kernel_lines, lines}
use Rattle.command_laws.proofs.images.kernel_images_show_what_is_guaranteed.Goals as goal

pub returns : goal.returns
returns c = record {
  kernel = kernel_lines;
  general = λ i general. lines i (λ mode events known. general_runs i mode events general);
}
