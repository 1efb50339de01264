use Rattle.std.proofs.Common.{ℕ}
use Rattle.flow_report.specs.Noting.{AreHooks, NotesAtStart}
use Rattle.flow_report.proofs.noting.hooks_of_starts.Given as goal

abbrev pub invariant-loop-mode : goal.invariant-loop-mode
invariant-loop-mode l = AreHooks (λ (h : ℕ). NotesAtStart l.app h l.mode) l.hooks
