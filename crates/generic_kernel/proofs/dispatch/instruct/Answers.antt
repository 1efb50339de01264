-- only a task that names an INTERNAL resource gets another priority by a dispatch
use Rattle.generic_kernel.proofs.dispatch.instruct.Goals as goal

pub returns-clause-ready : goal.returns-clause-ready
returns-clause-ready g c = c.take_in_running.ensures c.effect-done.new.state c.effect-done.ensures.ready c.conclude-hooks.ensures.levels
