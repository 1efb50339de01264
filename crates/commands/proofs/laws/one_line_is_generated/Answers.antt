use Rattle.commands.proofs.OneText.{one_generated}
use Rattle.commands.proofs.laws.one_line_is_generated.Goals as goal

pub returns : goal.returns
returns c = one_generated
