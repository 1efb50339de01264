-- another status than the known one is a trap, and else the form says what comes
use Rattle.std.proofs.Common.{rules, arith}
use Rattle.image_run.proofs.instruction.conclude_by.Goals as goal

pub returns-in-None-clause-step : goal.returns-in-None-clause-step
returns-in-None-clause-step g c = search rules

pub returns-in-None-clause-scans : goal.returns-in-None-clause-scans
returns-in-None-clause-scans g c = omega arith

pub returns-then-not-allows-clause-step : goal.returns-then-not-allows-clause-step
returns-then-not-allows-clause-step g c = search rules

pub returns-then-not-allows-clause-scans : goal.returns-then-not-allows-clause-scans
returns-then-not-allows-clause-scans g c = omega arith
