-- the answer of the command that it is
use Rattle.std.proofs.Common.{◌≡◌, refl, sym, subst, Some}
use Rattle.std.specs.declared.result.Result.{Result}
use Rattle.commands.specs.Answering.{CommandAnswers}
use Rattle.osek_io.specs.Sunk.{sunk}
use Rattle.command_runs.specs.{declared.stop.Stop.{Stop}, Outside.{Outside, outside}}
use Rattle.commands.specs.{Seen.{seen}, declared.words.Command.{Command}}
use Rattle.commands.proofs.top.carry_out.Goals as goal

-- the answer of a command is that of the command as it was found
answered : {command found : Command} (before after : Outside) (r : Result (Unit {0}) Stop) → command ≡ found
    → CommandAnswers before after (Some (seen found)) r → CommandAnswers before after (Some (seen command)) r
answered before after r is answer = subst (λ (k : Command). CommandAnswers before after (Some (seen k)) r) (sym is) answer

pub returns-in-Build : goal.returns-in-Build
returns-in-Build g c =
    answered (outside g.F.Shelf g.O.Sink c.args.shelf.now c.args.out.now)
    (outside g.F.Shelf g.O.Sink c.build.new.shelf c.args.out.now) c.build.result c.in-Build.is
    (c.build.ensures.answer (sunk g.O.Sink c.args.out.now), refl)

pub returns-in-Replay : goal.returns-in-Replay
returns-in-Replay g c =
    answered (outside g.F.Shelf g.O.Sink c.args.shelf.now c.args.out.now)
    (outside g.F.Shelf g.O.Sink c.replay.new.shelf c.replay.new.out) c.replay.result c.in-Replay.is
    (c.replay.ensures.answer, (c.replay.ensures.same.files, c.replay.ensures.same.writes))

pub returns-in-Trace : goal.returns-in-Trace
returns-in-Trace g c =
    answered (outside g.F.Shelf g.O.Sink c.args.shelf.now c.args.out.now)
    (outside g.F.Shelf g.O.Sink c.trace.new.shelf c.trace.new.out) c.trace.result c.in-Trace.is
    (c.trace.ensures.answer, (c.trace.ensures.same.files, c.trace.ensures.same.writes))

pub returns-in-Report : goal.returns-in-Report
returns-in-Report g c =
    answered (outside g.F.Shelf g.O.Sink c.args.shelf.now c.args.out.now)
    (outside g.F.Shelf g.O.Sink c.report.new.shelf c.report.new.out) c.report.result c.in-Report.is
    (c.report.ensures.answer, (c.report.ensures.same.files, c.report.ensures.same.writes))

pub returns-in-Upgrade : goal.returns-in-Upgrade
returns-in-Upgrade g c =
    answered (outside g.F.Shelf g.O.Sink c.args.shelf.now c.args.out.now)
    (outside g.F.Shelf g.O.Sink c.upgrade.new.shelf c.args.out.now) c.upgrade.result c.in-Upgrade.is
    (c.upgrade.ensures.answer (sunk g.O.Sink c.args.out.now), refl)

pub returns-in-Certify : goal.returns-in-Certify
returns-in-Certify g c =
    answered (outside g.F.Shelf g.O.Sink c.args.shelf.now c.args.out.now)
    (outside g.F.Shelf g.O.Sink c.certify.new.shelf c.args.out.now) c.certify.result c.in-Certify.is
    (c.certify.ensures.answer (sunk g.O.Sink c.args.out.now), refl)

pub returns-in-Check : goal.returns-in-Check
returns-in-Check g c =
    answered (outside g.F.Shelf g.O.Sink c.args.shelf.now c.args.out.now)
    (outside g.F.Shelf g.O.Sink c.check.new.shelf c.check.new.out) c.check.result c.in-Check.is
    (c.check.ensures.answer, (c.check.ensures.same.files, c.check.ensures.same.writes))

pub returns-in-Record : goal.returns-in-Record
returns-in-Record g c =
    answered (outside g.F.Shelf g.O.Sink c.args.shelf.now c.args.out.now)
    (outside g.F.Shelf g.O.Sink c.replay-in-Record.new.shelf c.replay-in-Record.new.out) c.replay-in-Record.result c.in-Record.is
    (c.replay-in-Record.ensures.answer, (c.replay-in-Record.ensures.same.files, c.replay-in-Record.ensures.same.writes))

pub returns-in-Watch : goal.returns-in-Watch
returns-in-Watch g c =
    answered (outside g.F.Shelf g.O.Sink c.args.shelf.now c.args.out.now)
    (outside g.F.Shelf g.O.Sink c.watch.new.shelf c.watch.new.out) c.watch.result c.in-Watch.is
    (c.watch.ensures.answer, (c.watch.ensures.same.files, c.watch.ensures.same.writes))
