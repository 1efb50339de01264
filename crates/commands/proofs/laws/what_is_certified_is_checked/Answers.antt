use Rattle.commands.proofs.CertifiedChecks.{certified_checked}
use Rattle.commands.proofs.laws.what_is_certified_is_checked.Goals as goal

pub returns : goal.returns
returns c = certified_checked
