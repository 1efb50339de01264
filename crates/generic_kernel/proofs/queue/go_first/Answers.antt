-- the line has room for the task that runs or is interrupted
use Rattle.std.proofs.Common.{◌∙◌, sym}
use Rattle.osek_standard.proofs.LineRoom.{room_for_current}
use Rattle.generic_kernel.proofs.queue.go_first.Goals as goal

pub push_first-requires : goal.push_first-requires
push_first-requires c = room_for_current c.args.app.now c.args.state.now c.requires c.in-Some.task (sym c.current.ensures ∙ c.in-Some.is)
