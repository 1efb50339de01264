-- the application of both texts, or why there is none
use Rattle.std.proofs.Common.{ℕ, List, inl, inr}
use Rattle.front_end.specs.Texts.{GivesApp}
use Rattle.commands.specs.Compiling.{CodeStops}
use Rattle.command_runs.specs.{Inputs.{OfFile}, Outside.{Told, told}}
use Rattle.commands.proofs.Compiles.{of_system, of_app}
use Rattle.command_runs.proofs.FaultlessReads.{earlier, then_reads, then_same}
use Rattle.commands.proofs.compiling.compile.Goals as goal

pub returns-in-Ok-load_code-clause-app : goal.returns-in-Ok-load_code-clause-app
returns-in-Ok-load_code-clause-app g c =
    of_app (g.F.Shelf.contents c.args.shelf.now) c.args.oil.now c.args.code.now c.in-Ok.system c.in-Ok-load_code.app c.in-Ok.ensures.system
    (earlier g.F.Shelf c.args.shelf.now c.load_system.new.shelf c.in-Ok.ensures.same c.in-Ok.ensures.no_fault (λ (t : Told). OfFile t.files c.args.code.now (λ (b : List ℕ). GivesApp c.in-Ok.system b c.in-Ok-load_code.app)) c.in-Ok-load_code.ensures.app)

pub returns-in-Err-clause-stop : goal.returns-in-Err-clause-stop
returns-in-Err-clause-stop g c = inl c.in-Err.ensures.stop

pub returns-in-Err-load_code-clause-stop : goal.returns-in-Err-load_code-clause-stop
returns-in-Err-load_code-clause-stop g c =
    inr (of_system (g.F.Shelf.contents c.args.shelf.now) c.args.oil.now _ c.in-Ok.system c.in-Ok.ensures.system
    (earlier g.F.Shelf c.args.shelf.now c.load_system.new.shelf c.in-Ok.ensures.same c.in-Ok.ensures.no_fault (λ (t : Told). CodeStops t (told g.F.Shelf c.load_code.new.shelf) c.in-Ok.system c.args.code.now c.in-Err-load_code.stop) c.in-Err-load_code.ensures.stop))

pub returns-in-Ok-load_code-clause-same : goal.returns-in-Ok-load_code-clause-same
returns-in-Ok-load_code-clause-same g c = then_reads g.F.Shelf c.args.shelf.now c.load_system.new.shelf c.in-Ok.ensures.same c.in-Ok.ensures.no_fault c.load_code.new.shelf c.in-Ok-load_code.ensures.same

pub returns-in-Ok-load_code-clause-no_fault : goal.returns-in-Ok-load_code-clause-no_fault
returns-in-Ok-load_code-clause-no_fault g c = then_same g.F.Shelf c.args.shelf.now c.load_system.new.shelf c.in-Ok.ensures.same c.in-Ok.ensures.no_fault c.load_code.new.shelf c.in-Ok-load_code.ensures.no_fault

pub returns-in-Err-load_code-clause-same : goal.returns-in-Err-load_code-clause-same
returns-in-Err-load_code-clause-same g c = then_reads g.F.Shelf c.args.shelf.now c.load_system.new.shelf c.in-Ok.ensures.same c.in-Ok.ensures.no_fault c.load_code.new.shelf c.in-Err-load_code.ensures.same
