use Rattle.state_flow.proofs.GrownParts.{AreRowsBelow}
use Rattle.state_flow.proofs.parts.grown_rows.Given as goal

abbrev pub invariant-loop-component : goal.invariant-loop-component
invariant-loop-component l = AreRowsBelow l.point l.entry l.before l.component l.rows.items
