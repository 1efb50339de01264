use Rattle.table_codec.proofs.SomeTables.{some_table}
use Rattle.table_codec.proofs.laws.some_answer.Goals as goal

pub returns : goal.returns
returns c = λ app bytes masks all. some_table app masks bytes all
