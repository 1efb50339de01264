use Rattle.std.proofs.Common.{take}
use Rattle.flow_report.specs.Noting.{AreHooks, NotesByExit}
use Rattle.flow_report.proofs.noting.hooks_of_exits.Given as goal

abbrev pub invariant-loop-exit : goal.invariant-loop-exit
invariant-loop-exit l = AreHooks (NotesByExit l.app l.point (take l.exit-index l.exits)) l.hooks
