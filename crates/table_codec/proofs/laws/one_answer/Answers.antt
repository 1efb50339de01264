use Rattle.table_codec.proofs.TableFaults.{no_first_fault}
use Rattle.table_codec.proofs.laws.one_answer.Goals as goal

pub returns : goal.returns
returns c = λ app table f h bad. no_first_fault app table f h bad
