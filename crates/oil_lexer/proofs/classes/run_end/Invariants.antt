use Rattle.std.proofs.Common.{◌-◌, ◌≤◌, length}
use Rattle.oil_lexer.specs.Classes.{AllIn}
use Rattle.oil_lexer.proofs.classes.run_end.Given as goal

abbrev pub invariant-loop-end : goal.invariant-loop-end
invariant-loop-end l = record { begins : l.from ≤ l.end; in_range : l.end ≤ length l.bytes; all : AllIn l.set l.bytes l.from l.end }

abbrev pub decreases-loop-end : goal.decreases-loop-end
decreases-loop-end l = length l.bytes - l.end
