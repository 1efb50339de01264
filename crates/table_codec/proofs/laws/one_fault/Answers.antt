use Rattle.table_codec.proofs.TableFaults.{one_first_fault}
use Rattle.table_codec.proofs.laws.one_fault.Goals as goal

pub returns : goal.returns
returns c = λ app bytes f g h d. one_first_fault app bytes f g h d
