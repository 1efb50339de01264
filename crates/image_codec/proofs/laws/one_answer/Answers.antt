use Rattle.image_codec.proofs.SomeImage.{spell_or_fail, spelling_is_read}
use Rattle.image_codec.proofs.laws.one_answer.Goals as goal

pub returns-clause-some : goal.returns-clause-some
returns-clause-some c = spell_or_fail

pub returns-clause-one : goal.returns-clause-one
returns-clause-one c = spelling_is_read
