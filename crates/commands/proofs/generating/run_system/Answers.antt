use Rattle.std.proofs.Common.{ℕ, List, Some, Err, Ok, refl, ap}
use Rattle.osek_standard.specs.declared.app.App.{App}
use Rattle.image_model.specs.ImageTrace.{image_trace, has_trap}
use Rattle.commands.specs.{GeneratedFiles.{oil_name, code_name, events_name, default_mode}, Generating.{AreLeastCounts, IsDefaultTrace}, KeptTexts.{Kept}}
use Rattle.osek_io.specs.Sunk.{Sunk}
use Rattle.command_runs.specs.{Inputs.{OfFile}, Outside.{Told, told, beside}, Running.{RunAnswers}}
use Rattle.commands.proofs.Compiles.{over_app}
use Rattle.command_runs.proofs.{FaultlessReads.{earlier}, InputFiles.{of_map}}
use Rattle.commands.proofs.OwnRuns.{compile_stops, run_stops, run_tells, own_due, over_own}
use Rattle.commands.proofs.generating.run_system.Goals as goal

-- what a kept text tells as a sink
abbrev kept : Kept → Sunk
kept t = record { faults = t.faults; written = Some t.bytes }

pub returns-in-Err-clause-stop : goal.returns-in-Err-clause-stop
returns-in-Err-clause-stop g c = λ files e.
    rw c.own_stop.ensures (compile_stops (told g.F.Shelf c.args.shelf.now) (told g.F.Shelf c.compile.new.shelf) files e c.in-Err.stop c.in-Err.ensures.stop)

pub returns-in-Ok-run_image-clause-run : goal.returns-in-Ok-run_image-clause-run
returns-in-Ok-run_image-clause-run g c =
    let i = c.in-Ok-analyze.analyzed.image in
    let app = c.in-Ok.app in
    let trace = c.run_image.new.out.bytes in
    let files = g.F.Shelf.contents c.args.shelf.now in
    let before = beside (told g.F.Shelf c.args.shelf.now) (kept c.new-trace.result) in
    let after = beside (told g.F.Shelf c.run_image.new.shelf) (kept c.run_image.new.out) in
    let ran = earlier g.F.Shelf c.args.shelf.now c.compile.new.shelf c.in-Ok.ensures.same c.in-Ok.ensures.no_fault
    (λ (t : Told). RunAnswers (beside t (kept c.new-trace.result)) after i.app (image_trace i) (has_trap i) default_mode events_name (Ok tt)) c.in-Ok-run_image.ensures.answer in
    let kernel = c.in-Ok-analyze.ensures.image in
    let tells = run_tells app i kernel before after trace (ap (λ t. Some t.bytes) c.new-trace.ensures) refl (Ok tt) (over_own app i kernel.is before after (Ok tt) ran) in
    over_app files oil_name code_name (λ (a : App). OfFile files events_name (λ (text : List ℕ). AreLeastCounts a c.in-Ok-analyze.analyzed.counts × IsDefaultTrace a text trace)) app
    (of_map files events_name (λ (text : List ℕ). IsDefaultTrace app text trace) _ (λ text h. (c.in-Ok-analyze.ensures.counts, h)) tells)
    c.in-Ok.ensures.app

pub returns-in-Err-run_image-clause-stop : goal.returns-in-Err-run_image-clause-stop
returns-in-Err-run_image-clause-stop g c = λ files e.
    let i = c.in-Ok-analyze.analyzed.image in
    let app = c.in-Ok.app in
    let s = c.in-Err-run_image.stop in
    let before = beside (told g.F.Shelf c.args.shelf.now) (kept c.new-trace.result) in
    let after = beside (told g.F.Shelf c.run_image.new.shelf) (kept c.run_image.new.out) in
    let ran = earlier g.F.Shelf c.args.shelf.now c.compile.new.shelf c.in-Ok.ensures.same c.in-Ok.ensures.no_fault
    (λ (t : Told). RunAnswers (beside t (kept c.new-trace.result)) after i.app (image_trace i) (has_trap i) default_mode events_name (Err s)) c.in-Err-run_image.ensures.answer in
    let kernel = c.in-Ok-analyze.ensures.image in
    let stops = run_stops app i kernel files before after e (Err s) (over_own app i kernel.is before after (Err s) ran) in
    rw c.own_stop-in-Err-run_image.ensures (own_due (g.F.Shelf.contents c.args.shelf.now) files app e c.in-Ok.ensures.app _ stops)
