use Rattle.std.proofs.Common.{ap, Some, refl}
use Rattle.osek_io.specs.{Files.{Files}, Sunk.{sunk}}
use Rattle.commands.specs.{GeneratedFiles.{generated_files}, Generating.{no_memory}}
use Rattle.command_runs.specs.Outside.{beside}
use Rattle.commands.proofs.GeneratedRuns.{own_answers, own_tells}
use Rattle.commands.proofs.generating.generate_and_run.Goals as goal

pub returns-in_default : goal.returns-in_default
returns-in_default g c = λ shelf. no_memory refl

pub returns-in_default-line_room : goal.returns-in_default-line_room
returns-in_default-line_room g c = λ shelf. no_memory refl

pub returns-in-Err : goal.returns-in-Err
returns-in-Err g c = λ shelf.
    let same = beside shelf (sunk g.O.Sink c.args.out.now) in
    own_answers same same c.args.seed c.args.tasks c.in-Ok.ensures.few refl c.in-Err.stop
    (c.in-Err.ensures.stop (generated_files c.args.seed c.args.tasks) (ap (λ (f : Files). Some f) c.in-Ok.ensures.files))

pub returns : goal.returns
returns g c = λ shelf.
    let before = beside shelf (sunk g.O.Sink c.args.out.now) in
    let after = beside shelf (sunk g.O.Sink c.print_ran.new.out) in
    own_tells before after c.args.seed c.args.tasks c.in-Ok.shelf.files c.in-Ok-run_system.ran.counts c.in-Ok-run_system.ran.trace.bytes c.in-Ok.ensures.files
    c.in-Ok-run_system.ensures.run c.print_ran.result (c.print_ran.ensures shelf)
