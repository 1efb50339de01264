-- the start's line and then the play, or a prefix of the line
use Rattle.std.proofs.{Common.{List, ℕ, refl, subst, inl, Ok, Err}, lemmas.Result.{err_from_is_err_and}}
use Rattle.osek_standard.specs.Dispatch.{stepped}
use Rattle.image_run.specs.Machines.{AtWork}
use Rattle.trace_text.specs.EventText.{numbered_lines}
use Rattle.osek_io.specs.Sunk.{sunk}
use Rattle.command_runs.specs.{Playing.{given, played, plays, line_of, Puts, HeldAnswers, HeldReadAnswers}, declared.playing.Place.{Place}}
use Rattle.command_runs.proofs.{FedPlays.{read_behind}, InputFiles.{of_map}, Plays.{was_put, first_fails}}
use Rattle.command_runs.proofs.playing.Play.play.Goals as goal

pub returns-clause-answer : goal.returns-clause-answer
returns-clause-answer g c =
    let files = g.F.Shelf.contents c.args.shelf.now in
    let name = c.args.run.now.events.now in
    let reads = g.F.Shelf.read_faults c.args.shelf.now name in
    let reads_after = g.F.Shelf.read_faults c.play_text.new.shelf name in
    let start = c.args.self.now in
    let m = start.machine in
    let w = c.args.run.now.showing in
    let x = stepped m.state c.args.notes.now in
    let first = given (sunk g.O.Sink c.args.out.now) start.buffer in
    let now = given (sunk g.O.Sink c.print_line.new.out) c.print_line.new.self.buffer in
    let next = given (sunk g.O.Sink c.play_text.new.out) c.play_text.new.self.buffer in
    let r = c.play_text.result in
    let line : Puts first now (line_of w m.image 0 x) =
    subst (λ (p : Place). Puts first now (line_of w m.image p.event x)) c.requires.start (was_put first now (line_of w m.image start.place.event x) c.in_ok-print_line.ensures.line) in
    read_behind files name reads reads_after first now next (line_of w m.image 0 x) (λ (t : List ℕ). plays w m.image (numbered_lines t) 1 m.state) r line
    (subst (λ (v : AtWork). HeldReadAnswers files name reads reads_after now next (λ (t : List ℕ). plays w v.image (numbered_lines t) 1 v.state) r) c.print_line.ensures.machine c.play_text.ensures.answer)

pub returns-in_err-print_line-clause-answer : goal.returns-in_err-print_line-clause-answer
returns-in_err-print_line-clause-answer g c =
    let start = c.args.self.now in
    let m = start.machine in
    let w = c.args.run.now.showing in
    let x = stepped m.state c.args.notes.now in
    let first = given (sunk g.O.Sink c.args.out.now) start.buffer in
    let now = given (sunk g.O.Sink c.print_line.new.out) c.print_line.new.self.buffer in
    let end = c.in_err-print_line.field-0.0 in
    let fails : HeldAnswers first now (played (line_of w m.image 0 x) (Ok tt)) (Err end) =
    subst (λ (p : Place). HeldAnswers first now (played (line_of w m.image p.event x) (Ok tt)) (Err end)) c.requires.start c.in_err-print_line.ensures.line in
    let p = err_from_is_err_and c.from_residual.result c.from_residual.ensures.1 in
    rw (p.1, p.2) (inl (
      λ at. refl,
      of_map (g.F.Shelf.contents c.args.shelf.now) c.args.run.now.events.now _ _ (λ t short. (short, first_fails first now (line_of w m.image 0 x) (plays w m.image (numbered_lines t) 1 m.state) end fails)) c.requires.text,
    ))
