-- a piece of the text that was read and played, and how it ends
use Rattle.std.proofs.{Common.{◌≡◌, ◌+◌, ◌≤◌, Option, [], length, true, eqb, ◌∙◌, ap, subst, inl, inr, arith, Err}, lemmas.List.{length-append}}
use Rattle.std.proofs.lemmas.{Bool.{ne_eqb, eq-eqb}, Result.{err_from_is_err_and}}
use Rattle.image_model.specs.declared.image.Image.{Image}
use Rattle.image_run.specs.Machines.{AtWork}
use Rattle.osek_io.specs.{Counts.{Rose}, Files.{Files}, Sunk.{sunk}}
use Rattle.command_runs.specs.{Inputs.{ReadsOn}, Playing.{given, PlaysOn, HeldAnswers, plays_fed}, declared.playing.Place.{Place}}
use Rattle.command_runs.specs.declared.stop.{Input.TheVariants.{Events}, Stop.{Stop, TheVariants.{Unread}}}
use Rattle.command_runs.proofs.{FaultlessReads.{then_reads}, GivenTexts.{puts_held, prefix_of_held, puts_prefix_of_first}}
use Rattle.command_runs.proofs.{FedPlays.{held_played, more_came, more_played, ends_there, stops_there, ends_with_text}, TextReads.{rose_there, has_come}}
use Rattle.command_runs.proofs.playing.Play.play_text.Goals as goal

pub returns-in_err-print_held-clause-answer : goal.returns-in_err-print_held-clause-answer
returns-in_err-print_held-clause-answer g c =
    let inv = c.pieces.invariant in
    let files = g.F.Shelf.contents c.args.shelf.now in
    let name = c.args.run.now.events.now in
    let first = given (sunk g.O.Sink c.args.out.now) c.args.self.now.buffer in
    let before = given (sunk g.O.Sink c.pieces.out) c.pieces.self.buffer in
    let now = given (sunk g.O.Sink c.print_held.new.out) c.print_held.new.self.buffer in
    let held = c.in_err-print_held.ensures in
    let p = err_from_is_err_and c.from_residual.result c.from_residual.ensures.1 in
    rw (p.1, p.2) (inl (
      inv.no_fault name,
      ends_there files name first before now c.args.run.now.showing c.args.self.now.machine.image c.args.self.now.machine.state c.pieces.taken c.pieces.feed
          c.pieces.self.place.line c.pieces.self.place.event c.pieces.self.machine.state c.requires.text inv.within (λ done. absurd (cc (inv.not_finished, done))) inv.come (Err c.in_err-print_held.field-0.0)
          (λ rest may. inr (held.error, puts_prefix_of_first before now [] _ (prefix_of_held before now held.cause held.prefix held.nothing_held))),
    ))

pub returns-in_err-count-clause-answer : goal.returns-in_err-count-clause-answer
returns-in_err-count-clause-answer g c =
    let inv = c.pieces.invariant in
    let files = g.F.Shelf.contents c.args.shelf.now in
    let name = c.args.run.now.events.now in
    let first = given (sunk g.O.Sink c.args.out.now) c.args.self.now.buffer in
    let before = given (sunk g.O.Sink c.pieces.out) c.pieces.self.buffer in
    let now = given (sunk g.O.Sink c.print_held.new.out) c.print_held.new.self.buffer in
    let w = c.args.run.now.showing in
    let i = c.args.self.now.machine.image in
    let start = c.args.self.now.machine.state in
    let play = c.print_held.new.self in
    let rose : Rose (g.F.Shelf.read_faults c.args.shelf.now name c.pieces.taken) (g.F.Shelf.read_faults c.read_on.new.shelf name c.pieces.taken) =
    rose_there files (g.F.Shelf.contents c.pieces.shelf) name (λ t. length t ≤ 16777216) _ _ _ inv.same.files c.requires.text (inv.no_fault name c.pieces.taken) c.in_err-count.ensures.cause in
    let unread : c.in_err-count.field-0.0 ≡ Unread Events = cc (c.in_err-count.ensures.stop) in
    let p = err_from_is_err_and c.from_residual-in_err-count.result c.from_residual-in_err-count.ensures.1 in
    rw (p.1, p.2) (inr (
      ap (λ (e : Stop). Err e) unread,
      c.in_ok-print_held.ensures.nothing_held,
      stops_there files name first now now w i start c.pieces.taken c.pieces.feed play.place.line play.place.event play.machine.state c.requires.text inv.within (λ done. absurd (cc (inv.not_finished, done)))
          (held_played files name first before now w i start c.pieces.taken c.pieces.feed c.pieces.self.place play.place c.pieces.self.machine play.machine c.print_held.ensures.place c.print_held.ensures.machine
          (puts_held before now c.in_ok-print_held.ensures.ok.0 c.in_ok-print_held.ensures.ok.1 c.in_ok-print_held.ensures.nothing_held) inv.come)
          (g.F.Shelf.read_faults c.args.shelf.now name) (g.F.Shelf.read_faults c.read_on.new.shelf name) inv.not_finished inv.no_more rose,
    ))

pub returns-in_err-play_ahead-clause-answer : goal.returns-in_err-play_ahead-clause-answer
returns-in_err-play_ahead-clause-answer g c =
    let inv = c.pieces.invariant in
    let files = g.F.Shelf.contents c.args.shelf.now in
    let name = c.args.run.now.events.now in
    let first = given (sunk g.O.Sink c.args.out.now) c.args.self.now.buffer in
    let before = given (sunk g.O.Sink c.pieces.out) c.pieces.self.buffer in
    let now = given (sunk g.O.Sink c.print_held.new.out) c.print_held.new.self.buffer in
    let next = given (sunk g.O.Sink c.play_ahead.new.out) c.play_ahead.new.self.buffer in
    let w = c.args.run.now.showing in
    let i = c.args.self.now.machine.image in
    let start = c.args.self.now.machine.state in
    let f = c.read_on.new.feed in
    let play = c.print_held.new.self in
    let here : play.machine.image ≡ i = ap (λ (m : AtWork). m.image) c.print_held.ensures.machine ∙ inv.image in
    let come = held_played files name first before now w i start c.pieces.taken c.pieces.feed c.pieces.self.place play.place c.pieces.self.machine play.machine c.print_held.ensures.place c.print_held.ensures.machine
    (puts_held before now c.in_ok-print_held.ensures.ok.0 c.in_ok-print_held.ensures.ok.1 c.in_ok-print_held.ensures.nothing_held) inv.come in
    let read : ReadsOn files name c.pieces.taken c.pieces.feed.ahead f.ahead c.in_ok-count.count = subst (λ (o : Option Files). ReadsOn o name c.pieces.taken c.pieces.feed.ahead f.ahead c.in_ok-count.count) inv.same.files c.in_ok-count.ensures.more in
    let p = err_from_is_err_and c.from_residual-in_err-play_ahead.result c.from_residual-in_err-play_ahead.ensures.1 in
    rw (p.1, p.2) (inl (
      λ at. c.in_ok-count.ensures.no_fault name at ∙ inv.no_fault name at,
      ends_there files name first now next w i start (c.pieces.taken + c.in_ok-count.count) f
          play.place.line play.place.event play.machine.state c.requires.text read.within (has_come files name c.pieces.taken c.in_ok-count.count c.pieces.feed.ahead f.ahead f.finished c.requires.text inv.within read c.in_ok-count.ensures.finished)
          (more_came files name first now w i start c.pieces.taken c.in_ok-count.count c.pieces.feed f play.place.line play.place.event play.machine.state inv.not_finished read come) (Err c.in_err-play_ahead.field-0.0)
          (λ rest may. subst (λ (j : Image). HeldAnswers now next (plays_fed w j f rest play.place.line play.place.event play.machine.state) (Err c.in_err-play_ahead.field-0.0)) here
          (c.in_err-play_ahead.ensures.stops rest may)),
    ))

pub returns-then-count-eq0-clause-answer : goal.returns-then-count-eq0-clause-answer
returns-then-count-eq0-clause-answer g c =
    let inv = c.pieces.invariant in
    let files = g.F.Shelf.contents c.args.shelf.now in
    let name = c.args.run.now.events.now in
    let first = given (sunk g.O.Sink c.args.out.now) c.args.self.now.buffer in
    let before = given (sunk g.O.Sink c.pieces.out) c.pieces.self.buffer in
    let now = given (sunk g.O.Sink c.print_held.new.out) c.print_held.new.self.buffer in
    let next = given (sunk g.O.Sink c.play_ahead.new.out) c.play_ahead.new.self.buffer in
    let w = c.args.run.now.showing in
    let i = c.args.self.now.machine.image in
    let start = c.args.self.now.machine.state in
    let f = c.read_on.new.feed in
    let play = c.print_held.new.self in
    let here : play.machine.image ≡ i = ap (λ (m : AtWork). m.image) c.print_held.ensures.machine ∙ inv.image in
    let come = held_played files name first before now w i start c.pieces.taken c.pieces.feed c.pieces.self.place play.place c.pieces.self.machine play.machine c.print_held.ensures.place c.print_held.ensures.machine
    (puts_held before now c.in_ok-print_held.ensures.ok.0 c.in_ok-print_held.ensures.ok.1 c.in_ok-print_held.ensures.nothing_held) inv.come in
    let h = c.play_ahead.new.feed in
    let at = c.play_ahead.new.self.place in
    let read : ReadsOn files name c.pieces.taken c.pieces.feed.ahead f.ahead c.in_ok-count.count = subst (λ (o : Option Files). ReadsOn o name c.pieces.taken c.pieces.feed.ahead f.ahead c.in_ok-count.count) inv.same.files c.in_ok-count.ensures.more in
    let on : PlaysOn now next w i f h play.place.line play.place.event play.machine.state at.line at.event c.play_ahead.new.self.machine.state =
    subst (λ (j : Image). PlaysOn now next w j f h play.place.line play.place.event play.machine.state at.line at.event c.play_ahead.new.self.machine.state) here c.in_ok-play_ahead.ensures.plays in
    let finished : h.finished ≡ eqb c.in_ok-count.count 0 = c.in_ok-play_ahead.ensures.finished ∙ c.in_ok-count.ensures.finished in
    let done : h.finished ≡ true = finished ∙ eq-eqb c.in_ok-count.count 0 c.if-count-eq0.true in
    inl (
      λ at. c.in_ok-count.ensures.no_fault name at ∙ inv.no_fault name at,
      ends_with_text files name first next next w i start (c.pieces.taken + c.in_ok-count.count) h
          at.line at.event c.play_ahead.new.self.machine.state c.requires.text read.within (has_come files name c.pieces.taken c.in_ok-count.count c.pieces.feed.ahead f.ahead h.finished c.requires.text inv.within read finished)
          (more_played files name first now next w i start (c.pieces.taken + c.in_ok-count.count) f h play.place.line play.place.event play.machine.state at.line at.event c.play_ahead.new.self.machine.state c.in_ok-play_ahead.ensures.finished on
          (more_came files name first now w i start c.pieces.taken c.in_ok-count.count c.pieces.feed f play.place.line play.place.event play.machine.state inv.not_finished read come))
          done (c.in_ok-play_ahead.ensures.ended done),
    )

pub pieces-preserved : goal.pieces-preserved
pieces-preserved g c =
    let inv = c.pieces.invariant in
    let files = g.F.Shelf.contents c.args.shelf.now in
    let name = c.args.run.now.events.now in
    let first = given (sunk g.O.Sink c.args.out.now) c.args.self.now.buffer in
    let before = given (sunk g.O.Sink c.pieces.out) c.pieces.self.buffer in
    let now = given (sunk g.O.Sink c.print_held.new.out) c.print_held.new.self.buffer in
    let next = given (sunk g.O.Sink c.play_ahead.new.out) c.play_ahead.new.self.buffer in
    let w = c.args.run.now.showing in
    let i = c.args.self.now.machine.image in
    let start = c.args.self.now.machine.state in
    let f = c.read_on.new.feed in
    let play = c.print_held.new.self in
    let here : play.machine.image ≡ i = ap (λ (m : AtWork). m.image) c.print_held.ensures.machine ∙ inv.image in
    let come = held_played files name first before now w i start c.pieces.taken c.pieces.feed c.pieces.self.place play.place c.pieces.self.machine play.machine c.print_held.ensures.place c.print_held.ensures.machine
    (puts_held before now c.in_ok-print_held.ensures.ok.0 c.in_ok-print_held.ensures.ok.1 c.in_ok-print_held.ensures.nothing_held) inv.come in
    let h = c.play_ahead.new.feed in
    let at = c.play_ahead.new.self.place in
    let read : ReadsOn files name c.pieces.taken c.pieces.feed.ahead f.ahead c.in_ok-count.count = subst (λ (o : Option Files). ReadsOn o name c.pieces.taken c.pieces.feed.ahead f.ahead c.in_ok-count.count) inv.same.files c.in_ok-count.ensures.more in
    let on : PlaysOn now next w i f h play.place.line play.place.event play.machine.state at.line at.event c.play_ahead.new.self.machine.state =
    subst (λ (j : Image). PlaysOn now next w j f h play.place.line play.place.event play.machine.state at.line at.event c.play_ahead.new.self.machine.state) here c.in_ok-play_ahead.ensures.plays in
    let same_line : play.place.line ≡ c.pieces.self.place.line = ap (λ (p : Place). p.line) c.print_held.ensures.place in
    let fewer : at.line + length h.ahead ≤ play.place.line + length f.ahead = c.in_ok-play_ahead.ensures.fits in
    let fits : c.pieces.self.place.line + length c.pieces.feed.ahead ≤ c.pieces.taken + 1 = inv.fits in
    let size : length f.ahead ≡ length c.pieces.feed.ahead + length read.more = ap length read.joins ∙ length-append c.pieces.feed.ahead read.more in
    let count : c.in_ok-count.count ≡ length read.more = read.count in
    record {
      running = c.in_ok-play_ahead.ensures.running;
      image = c.in_ok-play_ahead.ensures.image ∙ here;
      fits = omega (arith, fewer, same_line, fits, size, count);
      within = read.within;
      not_finished = c.in_ok-play_ahead.ensures.finished ∙ c.in_ok-count.ensures.finished ∙ ne_eqb c.in_ok-count.count 0 c.if-count-eq0.false;
      waits = c.in_ok-play_ahead.ensures.waits;
      no_more = c.in_ok-play_ahead.ensures.no_more;
      same = then_reads g.F.Shelf c.args.shelf.now c.pieces.shelf inv.same inv.no_fault c.read_on.new.shelf c.read_on.ensures.same;
      no_fault = λ n at. c.in_ok-count.ensures.no_fault n at ∙ inv.no_fault n at;
      come = more_played files name first now next w i start (c.pieces.taken + c.in_ok-count.count) f h play.place.line play.place.event play.machine.state at.line at.event c.play_ahead.new.self.machine.state c.in_ok-play_ahead.ensures.finished on
          (more_came files name first now w i start c.pieces.taken c.in_ok-count.count c.pieces.feed f play.place.line play.place.event play.machine.state inv.not_finished read come);
    }
