use Rattle.std.proofs.Common.{arith}
use Rattle.flow_effects.proofs.Listed.{routine_known}
use Rattle.flow_effects.proofs.returns.return_cases.Goals as goal

pub last_source-last-requires : goal.last_source-last-requires
last_source-last-requires c = let h = routine_known c.args.app.now c.args.runner _ _ _ c.requires.known c.in-Routine.is in let known = h.known in omega (arith, known)

pub routine_returns-requires-clause-over : goal.routine_returns-requires-clause-over
routine_returns-requires-clause-over c = (routine_known c.args.app.now c.args.runner _ _ _ c.requires.known c.in-Routine.is).task
