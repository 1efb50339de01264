-- what is held back at the end of a play is printed, or a prefix of it
use Rattle.std.proofs.{Common.{List, ℕ, [], subst, sym}, lemmas.Result.{err_from_is_err_and}}
use Rattle.osek_standard.specs.Dispatch.{stepped}
use Rattle.trace_text.specs.EventText.{numbered_lines}
use Rattle.osek_io.specs.Sunk.{sunk}
use Rattle.command_runs.specs.Playing.{given, Played, printing, plays, line_of, HeldReadAnswers, ReadAnswers}
use Rattle.command_runs.proofs.PlayEnds.{all_printed, prefix_printed}
use Rattle.command_runs.proofs.playing.Play.print_trace.Goals as goal

pub returns-clause-answer : goal.returns-clause-answer
returns-clause-answer g c =
    let files = g.F.Shelf.contents c.args.shelf.now in
    let name = c.args.run.now.events.now in
    let reads = g.F.Shelf.read_faults c.args.shelf.now name in
    let reads_after = g.F.Shelf.read_faults c.play-played.new.shelf name in
    let first = sunk g.O.Sink c.args.out.now in
    let mid = given (sunk g.O.Sink c.play-played.new.out) c.play-played.new.self.buffer in
    let last = sunk g.O.Sink c.print_held.new.out in
    let m = c.args.self.now.machine in
    let play : List ℕ → Played = (λ t. printing (line_of c.args.run.now.showing m.image 0 (stepped m.state c.args.notes.now)) (plays c.args.run.now.showing m.image (numbered_lines t) 1 m.state)) in
    let r = c.play-played.result in
    let held : HeldReadAnswers files name reads reads_after (given first []) mid play r =
    subst (λ (xs : List ℕ). HeldReadAnswers files name reads reads_after (given first xs) mid play r) c.requires.nothing_held c.play-played.ensures.answer in
    all_printed files name reads reads_after first mid last c.in_ok-print_held.ensures.ok play r held

pub returns-in_err-print_held-clause-answer : goal.returns-in_err-print_held-clause-answer
returns-in_err-print_held-clause-answer g c =
    let files = g.F.Shelf.contents c.args.shelf.now in
    let name = c.args.run.now.events.now in
    let reads = g.F.Shelf.read_faults c.args.shelf.now name in
    let reads_after = g.F.Shelf.read_faults c.play-played.new.shelf name in
    let first = sunk g.O.Sink c.args.out.now in
    let mid = given (sunk g.O.Sink c.play-played.new.out) c.play-played.new.self.buffer in
    let last = sunk g.O.Sink c.print_held.new.out in
    let m = c.args.self.now.machine in
    let play : List ℕ → Played = (λ t. printing (line_of c.args.run.now.showing m.image 0 (stepped m.state c.args.notes.now)) (plays c.args.run.now.showing m.image (numbered_lines t) 1 m.state)) in
    let r = c.play-played.result in
    let held : HeldReadAnswers files name reads reads_after (given first []) mid play r =
    subst (λ (xs : List ℕ). HeldReadAnswers files name reads reads_after (given first xs) mid play r) c.requires.nothing_held c.play-played.ensures.answer in
    let p = err_from_is_err_and c.from_residual.result c.from_residual.ensures.1 in
    rw (p.1, p.2) (subst (ReadAnswers files name reads reads_after first last play) (sym c.in_err-print_held.ensures.error)
    (prefix_printed files name reads reads_after first mid last c.in_err-print_held.ensures.cause c.in_err-print_held.ensures.prefix play r held))
