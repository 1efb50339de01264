use Rattle.commands.proofs.OneText.{one_shown}
use Rattle.commands.proofs.laws.one_text_is_shown.Goals as goal

pub returns : goal.returns
returns c = one_shown
