use Rattle.commands.proofs.OneText.{one_report}
use Rattle.commands.proofs.laws.one_report_is_printed.Goals as goal

pub returns : goal.returns
returns c = one_report
