-- the number of a routine's point
use Rattle.osek_standard.proofs.point.Point.number.Goals as goal

pub returns-in-Routine : goal.returns-in-Routine
returns-in-Routine c = rw c.in-Routine.is (cc)
