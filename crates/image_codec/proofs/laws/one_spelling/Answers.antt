use Rattle.image_codec.proofs.GoodOfValid.{one_spelling_holds}
use Rattle.image_codec.proofs.laws.one_spelling.Goals as goal

pub returns : goal.returns
returns c = one_spelling_holds
