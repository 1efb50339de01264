use Rattle.commands.proofs.OneImage.{one_image}
use Rattle.commands.proofs.laws.one_image_is_built.Goals as goal

pub returns : goal.returns
returns c = one_image
