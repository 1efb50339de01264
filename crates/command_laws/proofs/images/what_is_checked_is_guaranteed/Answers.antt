use Rattle.command_laws.proofs.KernelImages.{checked_is_guaranteed}
use Rattle.command_laws.proofs.images.what_is_checked_is_guaranteed.Goals as goal

pub returns : goal.returns
returns c = checked_is_guaranteed
