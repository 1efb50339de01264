-- the line of the step that the machine took
use Rattle.std.proofs.Common.{ap}
use Rattle.osek_standard.specs.Dispatch.{stepped}
use Rattle.image_run.specs.Machines.{AtWork}
use Rattle.osek_io.specs.Sunk.{sunk}
use Rattle.command_runs.specs.{Playing.{given}, declared.playing.Place.{Place}}
use Rattle.command_runs.proofs.EventSteps.{event_put}
use Rattle.command_runs.proofs.playing.Play.play_event.Goals as goal

pub returns-then-step-clause-event : goal.returns-then-step-clause-event
returns-then-step-clause-event g c =
    let start = c.args.self.now in
    let now = c.step.new.self in
    let out = sunk g.O.Sink c.args.out.now in
    event_put (given out start.buffer) (given out now.buffer) (given (sunk g.O.Sink c.print_line.new.out) c.print_line.new.self.buffer)
    c.args.showing start.machine.image now.machine.image start.place.event now.place.event c.print_line.new.self.machine.state _ (stepped now.machine.state c.step.new.notes) c.print_line.result
    c.if-step.ensures.step (ap (given out) c.step.ensures.buffer) c.step.ensures.image (ap (λ (p : Place). p.event) c.step.ensures.place) (ap (λ (m : AtWork). m.state) c.print_line.ensures.machine) c.print_line.ensures.line
