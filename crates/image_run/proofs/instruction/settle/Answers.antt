-- only a task that names an INTERNAL resource gets another priority by a dispatch
use Rattle.image_run.proofs.instruction.settle.Goals as goal

pub returns-in-Some-clause-ready : goal.returns-in-Some-clause-ready
returns-in-Some-clause-ready g c = c.take_in_running.ensures c.args.state.now c.requires.ready c.conclude-hooks.ensures.levels
