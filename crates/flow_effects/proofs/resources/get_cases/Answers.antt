use Rattle.flow_effects.proofs.Listed.{routine_known}
use Rattle.flow_effects.proofs.resources.get_cases.Goals as goal

pub routine_gets-requires-clause-source : goal.routine_gets-requires-clause-source
routine_gets-requires-clause-source c = (routine_known c.args.app.now c.args.runner _ _ _ c.requires.known c.in-Routine.is).known
