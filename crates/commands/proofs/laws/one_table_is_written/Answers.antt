use Rattle.commands.proofs.OneTable.{one_table}
use Rattle.commands.proofs.laws.one_table_is_written.Goals as goal

pub returns : goal.returns
returns c = one_table
