use Rattle.std.proofs.Common.{◌≡◌, ◌<◌, [], length}
use Rattle.std.specs.Prelude.{All}
use Rattle.task_code.specs.{declared.tree.Body.{Body}, Fit.{depth}, Expect.{scan}}
use Rattle.task_code.proofs.BodiesRead.{BodiesJoin}
use Rattle.task_code.proofs.bodies.bodies.Given as goal

abbrev pub invariant-loop-token : goal.invariant-loop-token
invariant-loop-token l = record {
  joins : BodiesJoin l.found.items l.tokens l.rest;
  takes : scan 0 [] l.tokens ≡ scan 0 [] l.rest;
  within : All (λ (b : Body). depth b.statements < 32) l.found.items;
}

abbrev pub decreases-loop-token : goal.decreases-loop-token
decreases-loop-token l = length l.rest
