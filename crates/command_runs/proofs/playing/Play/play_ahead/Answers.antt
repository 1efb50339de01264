-- a line that came out was played, or ended the play
use Rattle.std.proofs.{Common.{◌≡◌, ◌+◌, ◌<◌, ◌≤◌, ℕ, length, refl, sym, ◌∙◌, ap, subst, arith, Err}, lemmas.Result.{err_from_is_err_and}}
use Rattle.osek_standard.specs.declared.state.State.{State}
use Rattle.image_model.specs.declared.image.Image.{Image}
use Rattle.trace_text.specs.{declared.feed.FeedStep.TheVariants.{Line}, EventWords.{read_line}, Feeds.{FeedState, peeled, next_answer, after_next}}
use Rattle.trace_text.proofs.FeedLaws.{line_shortens, no_line_ahead, stays_finished}
use Rattle.osek_io.specs.Sunk.{sunk}
use Rattle.command_runs.specs.Playing.{Played, played_line, given, HasNoEnd, GoesOn, PlaysOn, HeldAnswers}
use Rattle.command_runs.proofs.{EndedLines.{none_ends_ahead}, FedPlays.{starts_on, one_line_on, kept_on, line_ends_on}}
use Rattle.command_runs.proofs.playing.Play.play_ahead.Goals as goal

pub lines-init : goal.lines-init
lines-init g c =
    let feed = c.args.feed.now in
    let play = c.args.self.now in
    let fits : play.place.line + length feed.ahead ≤ play.place.line + length feed.ahead = omega arith in
    record {
      running = c.requires.running;
      image = refl;
      fits = fits;
      finished = refl;
      on = starts_on (given (sunk g.O.Sink c.args.out.now) play.buffer) c.args.showing play.machine.image feed play.place.line play.place.event play.machine.state;
    }

pub play_line-requires-clause-fits : goal.play_line-requires-clause-fits
play_line-requires-clause-fits g c =
    let feed = c.lines.feed in
    let shorter = line_shortens feed (sym c.in-Line.ensures.answer) in
    let fits = c.lines.invariant.fits in
    omega (arith, shorter, fits, c.requires.fits)

pub lines-smaller : goal.lines-smaller
lines-smaller g c =
    let feed = c.lines.feed in
    let is : next_answer feed ≡ Line = sym c.in-Line.ensures.answer in
    subst (λ (f : FeedState). length f.ahead < length feed.ahead) (sym c.in-Line.ensures.after) (line_shortens feed is)

pub lines-preserved : goal.lines-preserved
lines-preserved g c =
    let inv = c.lines.invariant in
    let feed = c.lines.feed in
    let start = c.args.self.now in
    let play = c.lines.self in
    let after_it = c.play_line.new.self in
    let after : c.next.new.self ≡ after_next feed = c.in-Line.ensures.after in
    let is : next_answer feed ≡ Line = sym c.in-Line.ensures.answer in
    let line : c.line.result.now ≡ (after_next feed).line = c.line.ensures ∙ ap (λ (f : FeedState). f.line) after in
    let shorter : length c.next.new.self.ahead < length feed.ahead = subst (λ (f : FeedState). length f.ahead < length feed.ahead) (sym after) (line_shortens feed is) in
    let next_line : after_it.place.line ≡ play.place.line + 1 = c.in_ok-play_line.ensures.next in
    let fits : play.place.line + length feed.ahead ≤ start.place.line + length c.args.feed.now.ahead = inv.fits in
    let first = given (sunk g.O.Sink c.args.out.now) start.buffer in
    let now = given (sunk g.O.Sink c.lines.out) play.buffer in
    let next = given (sunk g.O.Sink c.play_line.new.out) after_it.buffer in
    let w = c.args.showing in
    let i = start.machine.image in
    let goes : GoesOn now next (λ more. played_line w i play.place.event play.machine.state play.place.line more (read_line i.app c.line.result.now)) after_it.place.event after_it.machine.state =
    subst (λ (j : Image). GoesOn now next (λ (more : ℕ → State → Played). played_line w j play.place.event play.machine.state play.place.line more (read_line j.app c.line.result.now)) after_it.place.event after_it.machine.state) inv.image c.in_ok-play_line.ensures.line in
    record {
      running = c.in_ok-play_line.ensures.running;
      image = c.in_ok-play_line.ensures.image ∙ inv.image;
      fits = omega (arith, next_line, shorter, fits);
      finished = ap (λ (f : FeedState). f.finished) after ∙ stays_finished feed (peeled feed.finished feed.ahead) ∙ inv.finished;
      on = subst (λ (l : ℕ). PlaysOn first next w i c.args.feed.now c.next.new.self start.place.line start.place.event start.machine.state l after_it.place.event after_it.machine.state) (sym next_line)
          (subst (λ (f : FeedState). PlaysOn first next w i c.args.feed.now f start.place.line start.place.event start.machine.state (play.place.line + 1) after_it.place.event after_it.machine.state) (sym after)
          (one_line_on first now next w i c.args.feed.now feed start.place.line start.place.event start.machine.state play.place.line play.place.event play.machine.state c.line.result.now after_it.place.event after_it.machine.state inv.finished is line goes inv.on));
    }

pub returns-in_err-play_line-clause-stops : goal.returns-in_err-play_line-clause-stops
returns-in_err-play_line-clause-stops g c =
    let inv = c.lines.invariant in
    let feed = c.lines.feed in
    let start = c.args.self.now in
    let play = c.lines.self in
    let is : next_answer feed ≡ Line = sym c.in-Line.ensures.answer in
    let line : c.line.result.now ≡ (after_next feed).line = c.line.ensures ∙ ap (λ (f : FeedState). f.line) c.in-Line.ensures.after in
    let first = given (sunk g.O.Sink c.args.out.now) start.buffer in
    let now = given (sunk g.O.Sink c.lines.out) play.buffer in
    let next = given (sunk g.O.Sink c.play_line.new.out) c.play_line.new.self.buffer in
    let end = c.in_err-play_line.field-0.0 in
    let answers : (more : ℕ → State → Played) → HeldAnswers now next (played_line c.args.showing start.machine.image play.place.event play.machine.state play.place.line more (read_line start.machine.image.app c.line.result.now)) (Err end) =
    subst (λ (j : Image). (more : ℕ → State → Played) → HeldAnswers now next (played_line c.args.showing j play.place.event play.machine.state play.place.line more (read_line j.app c.line.result.now)) (Err end)) inv.image c.in_err-play_line.ensures.line in
    let p = err_from_is_err_and c.from_residual.result c.from_residual.ensures.1 in
    rw (p.1, p.2) (line_ends_on first now next c.args.showing start.machine.image c.args.feed.now feed start.place.line start.place.event start.machine.state play.place.line play.place.event play.machine.state c.line.result.now end inv.finished is line answers inv.on)

-- no line came out: the bytes ahead stay
pub returns-clause-plays : goal.returns-clause-plays
returns-clause-plays g c =
    let inv = c.lines.invariant in
    let feed = c.lines.feed in
    let start = c.args.self.now in
    let never : next_answer feed ≡ Line → ⊥ = (λ e. c.in_default.not-Line (c.next.ensures.answer ∙ e)) in
    let same : c.next.new.self.ahead ≡ feed.ahead = ap (λ (f : FeedState). f.ahead) c.next.ensures.after ∙ (no_line_ahead feed never).2 in
    kept_on (given (sunk g.O.Sink c.args.out.now) start.buffer) (given (sunk g.O.Sink c.lines.out) c.lines.self.buffer) c.args.showing start.machine.image c.args.feed.now feed c.next.new.self
    start.place.line start.place.event start.machine.state c.lines.self.place.line c.lines.self.place.event c.lines.self.machine.state same inv.on

pub returns-clause-no_more : goal.returns-clause-no_more
returns-clause-no_more g c =
    let feed = c.lines.feed in
    let never : next_answer feed ≡ Line → ⊥ = (λ e. c.in_default.not-Line (c.next.ensures.answer ∙ e)) in
    let same : c.next.new.self.ahead ≡ feed.ahead = ap (λ (f : FeedState). f.ahead) c.next.ensures.after ∙ (no_line_ahead feed never).2 in
    subst HasNoEnd (sym same) (none_ends_ahead feed never)
