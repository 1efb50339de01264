-- a task that names no INTERNAL resource is as high as it was
use Rattle.generic_kernel.proofs.inside.keep_ready.Goals as goal

pub returns-clause-ready : goal.returns-clause-ready
returns-clause-ready c = c.take_in_running.ensures c.args.state.now c.requires.ready c.keep.ensures.levels
