-- the fault of each place
use Rattle.oil_lexer.proofs.fault.fault_of.Goals as goal

pub returns-in-NotAllowed : goal.returns-in-NotAllowed
returns-in-NotAllowed c = rw c.in-NotAllowed.is

pub returns-in-TooDeep : goal.returns-in-TooDeep
returns-in-TooDeep c = rw c.in-TooDeep.is

pub returns-in-Ends : goal.returns-in-Ends
returns-in-Ends c = rw (c.in-Ends.is, c.last_line.ensures)
