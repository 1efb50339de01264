-- a piece of the record that was read and seen, and how the watch ends
use Rattle.std.proofs.{Common.{◌≡◌, ◌+◌, ◌≤◌, Option, None, [], length, true, eqb, refl, sym, ◌∙◌, ap, subst, inl, inr, arith, Ok, Err}, lemmas.List.{length-append}}
use Rattle.std.proofs.lemmas.{Bool.{ne_eqb, eq-eqb}, Result.{err_from_is_err_and}}
use Rattle.std.specs.declared.result.Result.{Result}
use Rattle.trace_text.specs.Feeds.{FeedState}
use Rattle.flow_watch.specs.declared.alarm.Alarm.{Alarm}
use Rattle.osek_io.specs.{Counts.{Rose}, Files.{Files}}
use Rattle.command_runs.specs.Inputs.{ReadsOn, unread}
use Rattle.command_runs.specs.declared.stop.{Input.TheVariants.{Record}, Stop.{Stop, TheVariants.{Unread}}}
use Rattle.command_runs.proofs.{FaultlessReads.{then_reads}, TextReads.{rose_there, has_come}}
use Rattle.commands.specs.WatchedLines.{AnswersFed}
use Rattle.commands.proofs.{FedWatches.{none_came, more_came, more_seen, record_ends}, SeenPoints.{none_by, some_by}}
use Rattle.commands.proofs.watching.Watching.see_record.Goals as goal
use Rattle.commands.proofs.watching.Watching.see_record.Goals.{then-is_some-via-then-is_some, then-is_some-via-else-is_some+then-count-eq0}

pub pieces-init : goal.pieces-init
pieces-init g c =
    let feed = c.args.feed.now in
    let none : length feed.ahead ≡ 0 = ap (λ (f : FeedState). length f.ahead) c.requires.empty in
    record {
      none = c.requires.none;
      app = refl;
      fits = omega (arith, none, c.requires.first);
      within = omega arith;
      not_finished = ap (λ (f : FeedState). f.finished) c.requires.empty;
      waits = omega (arith, none);
      same = record { files = refl; writes = refl; reads = λ name at. omega arith };
      no_fault = λ name at. refl;
      seen = none_came (g.F.Shelf.contents c.args.shelf.now) c.args.points.now c.args.self.now.watch feed c.args.self.now.line c.requires.empty c.requires.first;
    }

pub returns-in_err-count-clause-answer : goal.returns-in_err-count-clause-answer
returns-in_err-count-clause-answer g c =
    let inv = c.pieces.invariant in
    let files = g.F.Shelf.contents c.args.shelf.now in
    let name = c.args.points.now in
    let rose : Rose (g.F.Shelf.read_faults c.args.shelf.now name c.pieces.taken) (g.F.Shelf.read_faults c.read_on.new.shelf name c.pieces.taken) =
    rose_there files (g.F.Shelf.contents c.pieces.shelf) name (λ t. length t ≤ 16777216) _ _ _ inv.same.files c.requires.text (inv.no_fault name c.pieces.taken) c.in_err-count.ensures.cause in
    let stop : c.in_err-count.field-0.0 ≡ Unread Record = cc (c.in_err-count.ensures.stop) in
    let p = err_from_is_err_and c.from_residual.result c.from_residual.ensures.1 in
    rw (p.1, p.2) (inl (ap (λ (e : Stop). Err e) stop, unread (inl (c.pieces.taken, rose))))

pub returns-in_err-alarm-clause-answer : goal.returns-in_err-alarm-clause-answer
returns-in_err-alarm-clause-answer g c =
    let inv = c.pieces.invariant in
    let files = g.F.Shelf.contents c.args.shelf.now in
    let name = c.args.points.now in
    let w = c.args.self.now.watch in
    let f = c.read_on.new.feed in
    let n = c.in_ok-count.count in
    let read : ReadsOn files name c.pieces.taken c.pieces.feed.ahead f.ahead n = subst (λ (o : Option Files). ReadsOn o name c.pieces.taken c.pieces.feed.ahead f.ahead n) inv.same.files c.in_ok-count.ensures.more in
    let p = err_from_is_err_and c.from_residual-in_err-alarm.result c.from_residual-in_err-alarm.ensures.1 in
    rw (p.1, p.2) (inr (record_ends files name w (c.pieces.taken + n) f c.see_ahead.new.feed c.pieces.self.line c.see_ahead.new.self.line c.pieces.self.watch c.see_ahead.new.self.watch c.requires.text read.within
    (has_come files name c.pieces.taken n c.pieces.feed.ahead f.ahead f.finished c.requires.text inv.within read c.in_ok-count.ensures.finished) c.see_ahead.ensures.finished
    (more_came files name w c.pieces.taken n c.pieces.feed f c.pieces.self.line c.pieces.self.watch inv.not_finished read inv.seen)
    (Err c.in_err-alarm.field-0.0) c.in_err-alarm.ensures.lines (λ e. absurd (cc e))))

pub pieces-preserved : goal.pieces-preserved
pieces-preserved g c =
    let inv = c.pieces.invariant in
    let files = g.F.Shelf.contents c.args.shelf.now in
    let name = c.args.points.now in
    let w = c.args.self.now.watch in
    let f = c.read_on.new.feed in
    let h = c.see_ahead.new.feed in
    let n = c.in_ok-count.count in
    let seen = c.see_ahead.new.self in
    let read : ReadsOn files name c.pieces.taken c.pieces.feed.ahead f.ahead n = subst (λ (o : Option Files). ReadsOn o name c.pieces.taken c.pieces.feed.ahead f.ahead n) inv.same.files c.in_ok-count.ensures.more in
    let none : c.in_ok-alarm.alarm ≡ None = none_by c.in_ok-alarm.alarm (sym c.is_some.ensures ∙ c.if-is_some.false) in
    let on : AnswersFed f h c.pieces.self.line seen.line c.pieces.self.watch seen.watch (Ok None) =
    subst (λ (o : Option Alarm). AnswersFed f h c.pieces.self.line seen.line c.pieces.self.watch seen.watch (Ok o)) none c.in_ok-alarm.ensures.lines in
    let fewer : seen.line + length h.ahead ≤ c.pieces.self.line + length f.ahead = c.in_ok-alarm.ensures.fits in
    let fits : c.pieces.self.line + length c.pieces.feed.ahead ≤ c.pieces.taken + 1 = inv.fits in
    let size : length f.ahead ≡ length c.pieces.feed.ahead + length read.more = ap length read.joins ∙ length-append c.pieces.feed.ahead read.more in
    let count : n ≡ length read.more = read.count in
    record {
      none = sym c.in_ok-alarm.ensures.alarm ∙ none;
      app = c.see_ahead.ensures.app ∙ inv.app;
      fits = omega (arith, fewer, fits, size, count);
      within = read.within;
      not_finished = c.see_ahead.ensures.finished ∙ c.in_ok-count.ensures.finished ∙ ne_eqb n 0 c.if-count-eq0.false;
      waits = c.in_ok-alarm.ensures.waits none;
      same = then_reads g.F.Shelf c.args.shelf.now c.pieces.shelf inv.same inv.no_fault c.read_on.new.shelf c.read_on.ensures.same;
      no_fault = λ m at. c.in_ok-count.ensures.no_fault m at ∙ inv.no_fault m at;
      seen = more_seen files name w (c.pieces.taken + n) f h c.pieces.self.line seen.line c.pieces.self.watch seen.watch c.see_ahead.ensures.finished on
          (more_came files name w c.pieces.taken n c.pieces.feed f c.pieces.self.line c.pieces.self.watch inv.not_finished read inv.seen);
    }

pub returns-then-is_some-clause-answer : goal.returns-then-is_some-clause-answer
returns-then-is_some-clause-answer g c =
    let inv = c.pieces.invariant in
    let files = g.F.Shelf.contents c.args.shelf.now in
    let name = c.args.points.now in
    let w = c.args.self.now.watch in
    let f = c.read_on.new.feed in
    let h = c.see_ahead.new.feed in
    let n = c.in_ok-count.count in
    let alarm = c.in_ok-alarm.alarm in
    let read : ReadsOn files name c.pieces.taken c.pieces.feed.ahead f.ahead n = subst (λ (o : Option Files). ReadsOn o name c.pieces.taken c.pieces.feed.ahead f.ahead n) inv.same.files c.in_ok-count.ensures.more in
    let finished : h.finished ≡ eqb n 0 = c.see_ahead.ensures.finished ∙ c.in_ok-count.ensures.finished in
    let ended : ◌≡◌ {A = Result (Option Alarm) Stop} (Ok alarm) (Ok None) → (h.finished ≡ true) × (h.ahead ≡ []) =
    (λ none.
    elim c.then-is_some.branch [
      | then-is_some-via-then-is_some x ↦ absurd (some_by alarm (sym c.is_some.ensures ∙ x.if-is_some.true) none)
      | then-is_some-via-else-is_some+then-count-eq0 x ↦
          (let done : h.finished ≡ true = finished ∙ eq-eqb n 0 x.if-count-eq0.true in
          (done, c.in_ok-alarm.ensures.ended (cc none) done))
    ]) in
    inr (record_ends files name w (c.pieces.taken + n) f h c.pieces.self.line c.see_ahead.new.self.line c.pieces.self.watch c.see_ahead.new.self.watch c.requires.text read.within
    (has_come files name c.pieces.taken n c.pieces.feed.ahead f.ahead f.finished c.requires.text inv.within read c.in_ok-count.ensures.finished) c.see_ahead.ensures.finished
    (more_came files name w c.pieces.taken n c.pieces.feed f c.pieces.self.line c.pieces.self.watch inv.not_finished read inv.seen)
    (Ok alarm) c.in_ok-alarm.ensures.lines ended)
