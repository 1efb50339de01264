use Rattle.table_codec.proofs.TableFaults.{spelled_once}
use Rattle.table_codec.proofs.laws.one_spelling.Goals as goal

pub returns : goal.returns
returns c = λ app a b x y h g e. spelled_once app a b x y h g e
