-- the application that was compiled runs as the kernel
use Rattle.std.proofs.Common.{refl, inl}
use Rattle.osek_standard.specs.{TraceText.{kernel_trace}, declared.app.App.{App}}
use Rattle.image_model.specs.ImageTrace.{image_trace, has_trap}
use Rattle.osek_io.specs.Sunk.{sunk}
use Rattle.command_runs.specs.{Inputs.{no_memory}, Outside.{Told, beside, outside}, Running.{RunAnswers}}
use Rattle.commands.specs.Tracing.{never, stops, runs}
use Rattle.commands.proofs.Compiles.{over_app}
use Rattle.command_runs.proofs.FaultlessReads.{earlier, then_reads}
use Rattle.commands.proofs.KernelRuns.{kernel_runs}
use Rattle.commands.proofs.tracing.trace.Goals as goal

pub returns-clause-answer : goal.returns-clause-answer
returns-clause-answer g c =
    let i = c.in-Ok-general.image in
    let before = outside g.F.Shelf g.O.Sink c.args.shelf.now c.args.out.now in
    let after = outside g.F.Shelf g.O.Sink c.run_image.new.shelf c.run_image.new.out in
    runs c.run_image.result (over_app (g.F.Shelf.contents c.args.shelf.now) c.args.texts.now.oil.now c.args.texts.now.code.now (λ (app : App). RunAnswers before after app (kernel_trace app) never c.args.mode.now c.args.events.now c.run_image.result) c.in-Ok.app
    (kernel_runs before after c.args.mode.now c.args.events.now c.in-Ok.app i c.in-Ok-general.ensures.app c.in-Ok-general.ensures.forms c.run_image.result
    (earlier g.F.Shelf c.args.shelf.now c.compile.new.shelf c.in-Ok.ensures.same c.in-Ok.ensures.no_fault
    (λ (t : Told). RunAnswers (beside t (sunk g.O.Sink c.args.out.now)) after i.app (image_trace i) (has_trap i) c.args.mode.now c.args.events.now c.run_image.result) c.run_image.ensures.answer))
    c.in-Ok.ensures.app)

pub returns-clause-same : goal.returns-clause-same
returns-clause-same g c = then_reads g.F.Shelf c.args.shelf.now c.compile.new.shelf c.in-Ok.ensures.same c.in-Ok.ensures.no_fault c.run_image.new.shelf c.run_image.ensures.same

pub returns-in_default-clause-answer : goal.returns-in_default-clause-answer
returns-in_default-clause-answer g c = stops _ (inl no_memory) refl

pub returns-in-Err-clause-answer : goal.returns-in-Err-clause-answer
returns-in-Err-clause-answer g c = stops c.in-Err.stop c.in-Err.ensures.stop refl
