-- a line that came out was seen, or ended the watch
use Rattle.std.proofs.{Common.{◌≡◌, ◌+◌, ◌<◌, ◌≤◌, ℕ, length, refl, sym, ◌∙◌, ap, subst, arith, None, Ok, Err, Option}, lemmas.Result.{err_from_is_err_and}}
use Rattle.trace_text.specs.{declared.feed.FeedStep.TheVariants.{Line}, Feeds.{FeedState, peeled, next_answer, after_next}, PointWords.{read_point_line}}
use Rattle.trace_text.proofs.FeedLaws.{line_shortens, stays_finished}
use Rattle.flow_watch.specs.declared.alarm.Alarm.{Alarm}
use Rattle.commands.specs.WatchedLines.{AnswersPoint, watched_line}
use Rattle.commands.proofs.{FedWatches.{GoesOn, one_line_on, ends_fed}, SeenPoints.{none_by, some_by}}
use Rattle.commands.proofs.watching.Watching.see_ahead.Goals as goal

pub lines-init : goal.lines-init
lines-init c =
    let fits : c.args.self.now.line + length c.args.feed.now.ahead ≤ c.args.self.now.line + length c.args.feed.now.ahead = omega arith in
    record { none = c.requires.none; app = refl; fits = fits; finished = refl; on = λ rest may. refl }

pub see_line-requires-clause-fits : goal.see_line-requires-clause-fits
see_line-requires-clause-fits c =
    let shorter = line_shortens c.lines.feed (sym c.in-Line.ensures.answer) in
    let fits = c.lines.invariant.fits in
    omega (arith, shorter, fits, c.requires.fits)

pub lines-smaller : goal.lines-smaller
lines-smaller c =
    let feed = c.lines.feed in
    subst (λ (f : FeedState). length f.ahead < length feed.ahead) (sym c.in-Line.ensures.after) (line_shortens feed (sym c.in-Line.ensures.answer))

pub lines-preserved : goal.lines-preserved
lines-preserved c =
    let inv = c.lines.invariant in
    let f = c.args.feed.now in
    let feed = c.lines.feed in
    let k = c.args.self.now.line in
    let w = c.args.self.now.watch in
    let v = c.lines.self.watch in
    let u = c.see_line.new.self.watch in
    let after : c.next.new.self ≡ after_next feed = c.in-Line.ensures.after in
    let is : next_answer feed ≡ Line = sym c.in-Line.ensures.answer in
    let line : c.line.result.now ≡ (after_next feed).line = c.line.ensures ∙ ap (λ (s : FeedState). s.line) after in
    let shorter : length c.next.new.self.ahead < length feed.ahead = subst (λ (s : FeedState). length s.ahead < length feed.ahead) (sym after) (line_shortens feed is) in
    let next_line : c.see_line.new.self.line ≡ c.lines.self.line + 1 = c.see_line.ensures.next in
    let fits : c.lines.self.line + length feed.ahead ≤ k + length f.ahead = inv.fits in
    let none : c.in_ok-alarm.alarm ≡ None = none_by c.in_ok-alarm.alarm (sym c.is_some.ensures ∙ c.if-is_some.false) in
    let goes : AnswersPoint (λ more. watched_line v c.lines.self.line more (read_point_line v.app c.line.result.now)) u (Ok None) =
    subst (λ (o : Option Alarm). AnswersPoint (λ more. watched_line v c.lines.self.line more (read_point_line v.app c.line.result.now)) u (Ok o)) none c.in_ok-alarm.ensures.line in
    record {
      none = sym c.in_ok-alarm.ensures.alarm ∙ none;
      app = c.see_line.ensures.app ∙ inv.app;
      fits = omega (arith, next_line, shorter, fits);
      finished = ap (λ (s : FeedState). s.finished) after ∙ stays_finished feed (peeled feed.finished feed.ahead) ∙ inv.finished;
      on = subst (λ (l : ℕ). GoesOn f c.next.new.self k l w u) (sym next_line)
          (subst (λ (s : FeedState). GoesOn f s k (c.lines.self.line + 1) w u) (sym after)
          (one_line_on f feed k c.lines.self.line w v u c.line.result.now inv.finished is line goes inv.on));
    }

pub returns-then-is_some-clause-lines : goal.returns-then-is_some-clause-lines
returns-then-is_some-clause-lines c =
    let inv = c.lines.invariant in
    let after : c.next.new.self ≡ after_next c.lines.feed = c.in-Line.ensures.after in
    let is : next_answer c.lines.feed ≡ Line = sym c.in-Line.ensures.answer in
    let line : c.line.result.now ≡ (after_next c.lines.feed).line = c.line.ensures ∙ ap (λ (s : FeedState). s.line) after in
    ends_fed c.args.feed.now c.lines.feed c.next.new.self c.args.self.now.line c.lines.self.line c.see_line.new.self.line c.args.self.now.watch c.lines.self.watch c.see_line.new.self.watch c.line.result.now
    (Ok c.in_ok-alarm.alarm) (some_by c.in_ok-alarm.alarm (sym c.is_some.ensures ∙ c.if-is_some.true)) inv.finished is line c.in_ok-alarm.ensures.line inv.on

pub returns-then-is_some-clause-fits : goal.returns-then-is_some-clause-fits
returns-then-is_some-clause-fits c =
    let feed = c.lines.feed in
    let shorter : length c.next.new.self.ahead < length feed.ahead = subst (λ (s : FeedState). length s.ahead < length feed.ahead) (sym c.in-Line.ensures.after) (line_shortens feed (sym c.in-Line.ensures.answer)) in
    let fits = c.lines.invariant.fits in
    omega (arith, c.see_line.ensures.next, shorter, fits)

pub returns-in_err-alarm-clause-lines : goal.returns-in_err-alarm-clause-lines
returns-in_err-alarm-clause-lines c =
    let inv = c.lines.invariant in
    let after : c.next.new.self ≡ after_next c.lines.feed = c.in-Line.ensures.after in
    let is : next_answer c.lines.feed ≡ Line = sym c.in-Line.ensures.answer in
    let line : c.line.result.now ≡ (after_next c.lines.feed).line = c.line.ensures ∙ ap (λ (s : FeedState). s.line) after in
    let p = err_from_is_err_and c.from_residual.result c.from_residual.ensures.1 in
    rw (p.1, p.2) (ends_fed c.args.feed.now c.lines.feed c.next.new.self c.args.self.now.line c.lines.self.line c.see_line.new.self.line c.args.self.now.watch c.lines.self.watch c.see_line.new.self.watch c.line.result.now
    (Err c.in_err-alarm.field-0.0) (λ e. absurd (cc e)) inv.finished is line c.in_err-alarm.ensures.line inv.on)
