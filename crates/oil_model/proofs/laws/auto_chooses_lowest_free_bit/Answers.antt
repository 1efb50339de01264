use Rattle.std.proofs.Common.{refl}
use Rattle.oil_model.proofs.AutoLaws as law
use Rattle.oil_model.proofs.laws.auto_chooses_lowest_free_bit.Goals as goal

pub returns-clause-each : goal.returns-clause-each
returns-clause-each c = λ objects i e there. (_, law.event_of objects i e there, refl)

pub returns-clause-stated : goal.returns-clause-stated
returns-clause-stated c = λ objects i v e x there is found. law.as_stated objects i e x v there is found

pub returns-clause-chosen : goal.returns-clause-chosen
returns-clause-chosen c = λ objects i e x there auto found. law.lowest_free objects i e x there auto found
