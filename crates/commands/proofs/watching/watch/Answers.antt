-- the application of the texts, and what was printed of the record beside it
use Rattle.std.proofs.Common.{◌≡◌, refl}
use Rattle.osek_io.specs.Sunk.{Sunk, sunk}
use Rattle.command_runs.specs.Outside.{Told, beside, outside, told}
use Rattle.command_runs.proofs.FaultlessReads.{earlier}
use Rattle.commands.specs.{Watching.{RecordStops, stops, no_record}, WatchedLines.{AnswersWatch}}
use Rattle.commands.proofs.{Compiles.{over_app}, WatchEnds.{of_texts}}
use Rattle.commands.proofs.watching.watch.Goals as goal

pub returns-in-Err-clause-answer : goal.returns-in-Err-clause-answer
returns-in-Err-clause-answer g c = stops c.in-Err.stop c.in-Err.ensures.stop refl

pub returns-in-Err-judge_length-clause-answer : goal.returns-in-Err-judge_length-clause-answer
returns-in-Err-judge_length-clause-answer g c =
    let stop = c.in-Err-judge_length.stop in
    let after = told g.F.Shelf c.judge_length.new.shelf in
    let out : ◌≡◌ {A = Sunk} (sunk g.O.Sink c.args.out.now) (sunk g.O.Sink c.args.out.now) = refl in
    no_record stop (over_app (g.F.Shelf.contents c.args.shelf.now) c.args.oil.now c.args.code.now (λ a. RecordStops (told g.F.Shelf c.args.shelf.now) after c.args.points.now stop) c.in-Ok.app
    (earlier g.F.Shelf c.args.shelf.now c.compile.new.shelf c.in-Ok.ensures.same c.in-Ok.ensures.no_fault (λ (t : Told). RecordStops t after c.args.points.now stop) c.in-Err-judge_length.ensures.stop) c.in-Ok.ensures.app) out

pub returns-in-Ok-judge_length-clause-answer : goal.returns-in-Ok-judge_length-clause-answer
returns-in-Ok-judge_length-clause-answer g c =
    let before = outside g.F.Shelf g.O.Sink c.args.shelf.now c.args.out.now in
    let after = outside g.F.Shelf g.O.Sink c.watch_beside.new.shelf c.watch_beside.new.out in
    let app = c.in-Ok.app in
    let r = c.watch_beside.result in
    let answers : AnswersWatch before after c.args.points.now app r =
    earlier g.F.Shelf c.args.shelf.now c.compile.new.shelf c.in-Ok.ensures.same c.in-Ok.ensures.no_fault (λ (t : Told). AnswersWatch (beside t (sunk g.O.Sink c.args.out.now)) after c.args.points.now app r)
    (earlier g.F.Shelf c.compile.new.shelf c.judge_length.new.shelf c.in-Ok-judge_length.ensures.same c.in-Ok-judge_length.ensures.no_fault
    (λ (t : Told). AnswersWatch (beside t (sunk g.O.Sink c.args.out.now)) after c.args.points.now app r) c.watch_beside.ensures.answer) in
    of_texts before after c.args.points.now app c.args.oil.now c.args.code.now r c.in-Ok.ensures.app answers
