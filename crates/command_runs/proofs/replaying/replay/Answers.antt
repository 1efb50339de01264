-- the image that was loaded runs
use Rattle.std.proofs.Common.{refl}
use Rattle.image_model.specs.ImageTrace.{has_trap}
use Rattle.osek_io.specs.Sunk.{sunk}
use Rattle.command_runs.specs.{Outside.{Told, beside, outside}, Replaying.{stops, runs}, Running.{RunAnswers}, Shown.{shown_trace}}
use Rattle.command_runs.proofs.{InputFiles.{of_map}, FaultlessReads.{earlier, then_reads}}
use Rattle.command_runs.proofs.replaying.replay.Goals as goal

pub returns-clause-answer : goal.returns-clause-answer
returns-clause-answer g c =
    let i = c.in-Ok.image in
    let after = outside g.F.Shelf g.O.Sink c.run_image.new.shelf c.run_image.new.out in
    runs c.run_image.result (of_map (g.F.Shelf.contents c.args.shelf.now) c.args.image.now _ _
    (λ b spells. (
      i,
      spells,
      earlier g.F.Shelf c.args.shelf.now c.load_image.new.shelf c.in-Ok.ensures.same c.in-Ok.ensures.no_fault
          (λ (t : Told). RunAnswers (beside t (sunk g.O.Sink c.args.out.now)) after i.app (shown_trace c.args.run.now.showing i) (has_trap i) c.args.run.now.mode.now c.args.run.now.events.now c.run_image.result) c.run_image.ensures.answer,
    )) c.in-Ok.ensures.image)

pub returns-clause-same : goal.returns-clause-same
returns-clause-same g c = then_reads g.F.Shelf c.args.shelf.now c.load_image.new.shelf c.in-Ok.ensures.same c.in-Ok.ensures.no_fault c.run_image.new.shelf c.run_image.ensures.same

pub returns-in-Err-clause-answer : goal.returns-in-Err-clause-answer
returns-in-Err-clause-answer g c = stops c.in-Err.stop c.in-Err.ensures.stop refl
