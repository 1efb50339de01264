-- what is played of a machine that has just started is the whole
use Rattle.std.proofs.Common.{◌≡◌, List, ℕ, sym, ap, inr, subst}
use Rattle.osek_standard.specs.Dispatch.{stepped}
use Rattle.image_run.specs.Machines.{AtWork}
use Rattle.trace_text.specs.{EventText.{numbered_lines}, LineParts.{ArePartsOf}}
use Rattle.osek_io.specs.Sunk.{sunk}
use Rattle.command_runs.specs.Playing.{Played, printing, plays, line_of, ReadAnswers, whole_play}
use Rattle.command_runs.proofs.Runs.{whole_started}
use Rattle.command_runs.proofs.running.play_image.Goals as goal

pub returns-clause-answer : goal.returns-clause-answer
returns-clause-answer g c =
    let x = c.in-Ok.started in
    let m = x.machine in
    let w = c.args.run.now.showing in
    let name = c.args.run.now.events.now in
    let same : ◌≡◌ {A = List ℕ → Played} (λ t. printing (line_of w m.image 0 (stepped m.state x.notes)) (plays w m.image (numbered_lines t) 1 m.state)) (whole_play w c.args.image c.args.mode) =
    (λ j t. whole_started w c.args.image m.image c.args.mode m.state x.notes (ap (λ (w : AtWork). w.image) c.in-Ok.ensures.machine) c.in-Ok.ensures.start t j) in
    inr (subst (λ (p : List ℕ → Played). ReadAnswers (g.F.Shelf.contents c.args.shelf.now) name (g.F.Shelf.read_faults c.args.shelf.now name) (g.F.Shelf.read_faults c.play_started.new.shelf name)
    (sunk g.O.Sink c.args.out.now) (sunk g.O.Sink c.play_started.new.out) p c.play_started.result) same c.play_started.ensures.answer)

pub play_started-requires-clause-of_app : goal.play_started-requires-clause-of_app
play_started-requires-clause-of_app g c = subst (λ (w : AtWork). ArePartsOf w.image.app c.in-Ok.started.parts) (sym c.in-Ok.ensures.machine) c.in-Ok.ensures.parts
