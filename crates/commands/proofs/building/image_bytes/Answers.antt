-- the image that was made, and its bytes
use Rattle.commands.proofs.building.image_bytes.Goals as goal

pub returns : goal.returns
returns c = record { image = c.in_ok-image.image; fitted = c.in_ok-image.ensures; are = c.in_ok-bytes.ensures }
