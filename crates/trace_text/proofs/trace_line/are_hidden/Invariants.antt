-- where the rest is hidden, all are
use Rattle.std.proofs.Common.{◌≡◌, [], drop}
use Rattle.std.specs.List.{flat_map, enumerate_from}
use Rattle.osek_standard.specs.{declared.app.App.{App}, TraceText.{routine_text}}
use Rattle.trace_text.specs.LineParts.{routines_text}
use Rattle.trace_text.proofs.trace_line.are_hidden.Given as goal

abbrev pub invariant-loop-source : goal.invariant-loop-source
invariant-loop-source l =
    (app : App) → flat_map (routine_text app l.state.processor) (enumerate_from l.source (drop l.source l.state.sources)) ≡ [] → routines_text app l.state ≡ []
