use Rattle.commands.proofs.CertifiedChecks.{checked_is_kernel}
use Rattle.commands.proofs.laws.what_is_checked_is_a_kernel_image.Goals as goal

pub returns : goal.returns
returns c = checked_is_kernel
