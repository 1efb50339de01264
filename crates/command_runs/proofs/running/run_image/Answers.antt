-- the answers, from what was read and played
use Rattle.std.proofs.Common.{◌≡◌, refl, sym, None}
use Rattle.image_model.specs.ImageTrace.{has_trap}
use Rattle.osek_io.specs.Sunk.{sunk}
use Rattle.command_runs.specs.{Outside.{Told, beside, outside}, Running.{mode_named, no_mode, stops, RunAnswers}, Shown.{shown_trace}}
use Rattle.command_runs.proofs.{FaultlessReads.{earlier, then_reads}, Runs.{image_runs}}
use Rattle.command_runs.proofs.running.run_image.Goals as goal

pub returns-in_default-clause-answer : goal.returns-in_default-clause-answer
returns-in_default-clause-answer g c =
    let none : mode_named c.args.image.app c.args.run.now.mode.now ≡ None = cc in
    no_mode none refl

pub returns-in-Ok-clause-answer : goal.returns-in-Ok-clause-answer
returns-in-Ok-clause-answer g c =
    let i = c.args.image in
    let after = outside g.F.Shelf g.O.Sink c.play_image.new.shelf c.play_image.new.out in
    earlier g.F.Shelf c.args.shelf.now c.judge_length.new.shelf c.in-Ok.ensures.same c.in-Ok.ensures.no_fault
    (λ (t : Told). RunAnswers (beside t (sunk g.O.Sink c.args.out.now)) after i.app (shown_trace c.args.run.now.showing i) (has_trap i) c.args.run.now.mode.now c.args.run.now.events.now c.play_image.result)
    (image_runs (outside g.F.Shelf g.O.Sink c.judge_length.new.shelf c.args.out.now) after c.args.run.now.showing i c.args.run.now.mode.now c.args.run.now.events.now c.in-Some.mode (sym c.in-Some.ensures.mode) c.play_image.result c.play_image.ensures.answer)

pub returns-in-Ok-clause-same : goal.returns-in-Ok-clause-same
returns-in-Ok-clause-same g c = then_reads g.F.Shelf c.args.shelf.now c.judge_length.new.shelf c.in-Ok.ensures.same c.in-Ok.ensures.no_fault c.play_image.new.shelf c.play_image.ensures.same

pub play_image-requires-clause-known : goal.play_image-requires-clause-known
play_image-requires-clause-known g c = c.in-Some.ensures.known

pub returns-in-Err-clause-answer : goal.returns-in-Err-clause-answer
returns-in-Err-clause-answer g c = stops c.in-Some.mode c.in-Err.stop (sym c.in-Some.ensures.mode) c.in-Err.ensures.stop refl
