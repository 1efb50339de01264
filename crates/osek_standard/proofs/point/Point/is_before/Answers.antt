-- the order of the numbers
use Rattle.std.proofs.Common.{refl}
use Rattle.osek_standard.proofs.point.Point.is_before.Goals as goal

pub returns : goal.returns
returns c = rw (c.number.ensures, c.number-2.ensures) refl
