use Rattle.state_flow.specs.Cells.{NoneWaitsBefore}
use Rattle.state_flow.proofs.cells.first_waiting.Given as goal

abbrev pub invariant-loop-place : goal.invariant-loop-place
invariant-loop-place g l = NoneWaitsBefore l.cells l.place
