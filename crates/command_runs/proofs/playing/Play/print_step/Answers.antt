-- the tasks are shown, and the line is put
use Rattle.std.proofs.Common.{ap}
use Rattle.osek_io.specs.Sunk.{sunk}
use Rattle.command_runs.specs.{Playing.{given}, declared.playing.Place.{Place}}
use Rattle.command_runs.proofs.EventSteps.{line_put}
use Rattle.command_runs.proofs.playing.Play.print_step.Goals as goal

pub returns-clause-line : goal.returns-clause-line
returns-clause-line g c =
    let start = c.args.self.now in
    let now = c.show_tasks.new.self in
    let out = sunk g.O.Sink c.args.out.now in
    line_put (given out start.buffer) (given out now.buffer) (given (sunk g.O.Sink c.print_shown.new.out) c.print_shown.new.self.buffer)
    start.machine now.machine start.place.event now.place.event c.args.notes.now c.print_shown.result
    (ap (given out) c.show_tasks.ensures.buffer) c.show_tasks.ensures.machine (ap (λ (p : Place). p.event) c.show_tasks.ensures.place) c.print_shown.ensures.line
