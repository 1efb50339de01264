use Rattle.text_guarantees.proofs.TextLaws.{guarded}
use Rattle.text_guarantees.proofs.conditions.texts_have_the_conditions.Goals as goal

pub returns : goal.returns
returns c = guarded
